use Rattle.std.proofs.Common.{◌≡◌, take}
use Rattle.xf_states.proofs.parts.copies.Given as goal

-- the states so far are copied
abbrev pub invariant-loop-one : goal.invariant-loop-one
invariant-loop-one l = l.copies.items ≡ take l.one-index l.held
