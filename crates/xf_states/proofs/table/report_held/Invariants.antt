use Rattle.std.proofs.Common.{◌≡◌, ◌++◌, take}
use Rattle.std.specs.Prelude.{filter_map}
use Rattle.xf_types.specs.TickRules.{state_event}
use Rattle.xf_states.specs.Table.{pair_of}
use Rattle.xf_states.proofs.table.report_held.Given as goal

abbrev pub invariant-loop-one : goal.invariant-loop-one
invariant-loop-one l = l.events.items ≡ l.fn.events.items ++ filter_map (λ h. state_event l.now (pair_of h)) (take l.one-index l.held)
