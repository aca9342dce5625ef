use Rattle.std.proofs.Common.{◌≡◌, ◌≤◌, replicate}
use Rattle.std.specs.Prelude.{vec_capacity}
use Rattle.xf_types.specs.Standing.{Nothing}
use Rattle.xf_opening.specs.Images.{homes_of}
use Rattle.xf_opening.proofs.image.dead_values.Given as goal

abbrev pub invariant-slots : goal.invariant-slots
invariant-slots l = (homes_of l.values.items ≡ replicate l.counter Nothing) × (l.count ≤ vec_capacity l.values)
