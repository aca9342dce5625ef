use Rattle.std.proofs.Common.{◌≡◌, length, map, take}
use Rattle.xf_held.specs.View.{HeldView}
use Rattle.xf_states.specs.Spis.{AreFlags}
use Rattle.xf_states.proofs.spis.flags.Given as goal

-- there are as many flags as are asked for, and they are those of the states so far
abbrev pub invariant-loop-one : goal.invariant-loop-one
invariant-loop-one l = record {
  count : length l.taken.items ≡ l.count;
  flags : AreFlags l.spec (take l.one-index (map (λ (h : HeldView). h.state) l.held)) l.taken.items;
}
