-- Which templates are tried, at which addresses, and how many states their walks may meet.
use Rattle.std.specs.Prelude.{ℕ, Bool, ◌+◌, if◌then◌else◌, List, [], ◌∷◌, Option, None, Some}
use Rattle.xf_types.specs.declared.network.Addr.{Addr}
use Rattle.xf_types.specs.declared.network.Flow.{Flow}
use Rattle.xf_types.specs.declared.policy.Policy.{Policy}
use Rattle.xf_types.specs.declared.policy.Template.{Template}
use Rattle.xf_types.specs.declared.state.Sa.{Sa}
use Rattle.xf_types.specs.Candidates.{best_for}
use Rattle.xf_types.specs.FlowRules.{templates_for}
use Rattle.xf_types.specs.Resolution.{uses_own_addresses, is_optional}
use Rattle.xf_index.specs.Indexes.{records_in}
use Rattle.xf_sadidx.specs.declared.area.StateArea.{StateArea}
use Rattle.xf_sadidx.specs.declared.kind.Kind.TheVariants.{Route}
use Rattle.xf_sadidx.specs.Founds.{bucket_size}
use Rattle.xf_sadidx.specs.Keys.{route_hash}
use Rattle.xf_sadfind.specs.declared.used.Ends.{Ends}

-- a tunnel or beet template is used at its own addresses, any other at those that the flow has come to
abbrev pub ends_used : Template → Addr → Addr → Ends
ends_used t src dst = record {
  src = if uses_own_addresses t.mode then t.src else src;
  dst = if uses_own_addresses t.mode then t.dst else dst;
}

-- what follows a template with a state, one that is skipped; nothing follows one that ends the walk
abbrev pub met_after : Option Sa → Bool → ℕ → ℕ → ℕ
met_after (Some s) optional used skipped = used
met_after None optional used skipped = if optional then skipped else 0

-- how many states the walks of the templates that are tried may meet: those whose hash of destination and request id is equal to that of a
-- template as it is used, by the count of heads, or by the old one
abbrev pub states_met : StateArea → List ℕ → List (ℕ × Sa) → Flow → List Template → Addr → Addr → ℕ
states_met a image entries flow [] src dst = 0
states_met a image entries flow (t ∷ ts) src dst =
    let used_src = if uses_own_addresses t.mode then t.src else src in
    let used_dst = if uses_own_addresses t.mode then t.dst else dst in
    bucket_size a image Route (route_hash used_dst t.reqid) entries
    + met_after (best_for (records_in entries) t flow used_src used_dst) (is_optional t.level)
    (states_met a image entries flow ts used_src used_dst) (states_met a image entries flow ts src dst)

-- of a policy's templates
abbrev pub policy_met : StateArea → List ℕ → List (ℕ × Sa) → Flow → Policy → ℕ
policy_met a image entries flow p =
    states_met a image entries flow (templates_for flow.dir p.spec.templates) flow.src flow.dst
