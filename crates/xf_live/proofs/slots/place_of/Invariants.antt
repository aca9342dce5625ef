use Rattle.std.proofs.Common.{◌≡◌, true, drop}
use Rattle.xf_cells.specs.Frees.{is_among}
use Rattle.xf_live.proofs.slots.place_of.Given as goal

abbrev pub invariant-loop-place : goal.invariant-loop-place
invariant-loop-place l = is_among l.slot (drop l.place l.held) ≡ true
