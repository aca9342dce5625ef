use Rattle.std.proofs.Common.{◌≡◌, filter, take}
use Rattle.xf_types.specs.StateList.{state_meets}
use Rattle.xf_states.proofs.table.StateTable.list_admitted.Given as goal

abbrev pub invariant-loop-held : goal.invariant-loop-held
invariant-loop-held l = l.admitted.items ≡ filter (state_meets l.wanted) (take l.held-index l.self.states)
