use Rattle.std.proofs.Common.{◌≡◌, ◌++◌, map, take, drop}
use Rattle.xf_states.specs.Table.{held_later}
use Rattle.xf_states.proofs.table.age_all.Given as goal

abbrev pub invariant-loop-one : goal.invariant-loop-one
invariant-loop-one l =
    l.one-items ≡ map (held_later l.now) (take l.one-index l.fn.held.items) ++ drop l.one-index l.fn.held.items
