use Rattle.std.proofs.Common.{◌≡◌, ◌+◌, ◌-◌, ◌≤◌, ◌++◌, take}
use Rattle.std.specs.Prelude.{replicate}
use Rattle.xf_table.proofs.opening.lay.Given as goal

abbrev pub invariant-image : goal.invariant-image
invariant-image l = l.words.items ≡ replicate (4 + l.seats) 0 ++ take l.word-index l.image

abbrev pub invariant-slots : goal.invariant-slots
invariant-slots l = (l.words.items ≡ replicate (4 + l.seats) 0 ++ (l.image ++ replicate l.i 0)) × (l.i ≤ l.slots)

abbrev pub decreases-slots : goal.decreases-slots
decreases-slots l = l.slots - l.i
