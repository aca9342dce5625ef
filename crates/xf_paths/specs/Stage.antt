-- A template as a flow uses it, and what states are to it.
use Rattle.std.specs.Prelude.{Bool, not, ◌&&◌, ◌||◌, ◌==◌, if◌then◌else◌, ℕ, List, Option, filter, map}
use Rattle.xf_types.specs.declared.network.Addr.{Addr}
use Rattle.xf_types.specs.declared.network.Flow.{Flow}
use Rattle.xf_types.specs.declared.policy.Template.{Template}
use Rattle.xf_types.specs.declared.state.Sa.{Sa}
use Rattle.xf_types.specs.declared.state.SaSpec.{SaSpec}
use Rattle.xf_types.specs.Candidates as rule
use Rattle.xf_types.specs.Same.{same_addr, same_proto, same_mode}
use Rattle.xf_types.specs.Resolution.{uses_own_addresses}
use Rattle.xf_held.specs.View.{HeldView}
use Rattle.xf_paths.specs.declared.stage.Stage.{Stage}

-- the template where the flow has come to these addresses
abbrev pub stage_at : Template → Flow → Addr → Addr → Stage
stage_at t flow src dst =
    record {
      template = t;
      flow = flow;
      src = if uses_own_addresses t.mode then t.src else src;
      dst = if uses_own_addresses t.mode then t.dst else dst;
    }

-- the request id, mode and protocol of the template, and the interface of the flow
abbrev pub is_of_kind : Stage → SaSpec → Bool
is_of_kind stage spec =
    (spec.reqid == stage.template.reqid) && same_mode spec.mode stage.template.mode
    && same_proto spec.proto stage.template.proto && (spec.if_id == stage.flow.if_id)

-- of this kind, with the SPI that is asked for, between the addresses; a source that is zero is open
abbrev pub joins : Stage → SaSpec → Bool
joins stage spec =
    is_of_kind stage spec && same_addr spec.dst stage.dst
    && ((stage.template.spi == 0) || (stage.template.spi == spec.spi))
    && (same_addr spec.src stage.src || rule.is_zero spec.src || rule.is_zero stage.src)

-- the state suits the template as it is used
abbrev pub suits : Stage → Sa → Bool
suits stage s = rule.suits stage.template stage.flow stage.src stage.dst s

-- the state suits and isn't larval
abbrev pub is_candidate : Stage → Sa → Bool
is_candidate stage s = suits stage s && not s.larval

-- a candidate; where there are living ones, a living one
abbrev pub is_preferred : Stage → Bool → Sa → Bool
is_preferred stage living s = is_candidate stage s && not (living && s.dying)

-- the states' records
abbrev pub states_of : List HeldView → List Sa
states_of hs = map (λ h. h.state) hs

-- the greatest added time of the preferred ones
abbrev pub latest_preferred : Stage → Bool → List HeldView → ℕ
latest_preferred stage living hs = rule.latest_added (filter (is_preferred stage living) (states_of hs))

-- the best state for the template as it is used
abbrev pub best_at : Stage → List HeldView → Option Sa
best_at stage hs = rule.best_for (states_of hs) stage.template stage.flow stage.src stage.dst

-- the latest larval state that suits
abbrev pub larval_at : Stage → List HeldView → Option Sa
larval_at stage hs = rule.larval_for (states_of hs) stage.template stage.flow stage.src stage.dst
