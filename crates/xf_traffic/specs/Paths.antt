-- The hops that the records in slots give.
use Rattle.std.specs.Prelude.{ℕ, List, map, Option, None, Some}
use Rattle.xf_types.specs.declared.call.Hop.{Hop}
use Rattle.xf_types.specs.declared.network.Addr.TheVariants.{V4}
use Rattle.xf_types.specs.declared.network.Proto.TheVariants.{Esp}
use Rattle.xf_types.specs.declared.network.Flow.{Flow}
use Rattle.xf_types.specs.declared.policy.Policy.{Policy}
use Rattle.xf_types.specs.declared.state.Sa.{Sa}
use Rattle.xf_types.specs.Resolution.{hop_of}
use Rattle.xf_sadidx.specs.declared.area.StateArea.{StateArea}
use Rattle.xf_sadidx.specs.Layout.{record_at}
use Rattle.xf_sadfind.specs.Tried.{policy_met}

-- the step of a path through a state, all 0 where there is none
abbrev pub hop_or_none : Option Sa → Hop
hop_or_none None = record { sid = 0; proto = Esp; spi = 0; dst = V4 0 }
hop_or_none (Some s) = hop_of s

-- through the state in a slot
abbrev pub hop_in : StateArea → List ℕ → ℕ → Hop
hop_in a image slot = hop_or_none (record_at a image slot)

-- through those in slots, in order
abbrev pub hops_in : StateArea → List ℕ → List ℕ → List Hop
hops_in a image slots = map (hop_in a image) slots

-- how many states the walks for the templates of a flow's policy may meet, where it has one
abbrev pub flow_met : StateArea → List ℕ → List (ℕ × Sa) → Flow → Option Policy → ℕ
flow_met a image entries flow None = 0
flow_met a image entries flow (Some p) = policy_met a image entries flow p
