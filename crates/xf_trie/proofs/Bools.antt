-- Tests, and how they answer.
use Rattle.std.proofs.Common.{◌≡◌, Bool, false, true, ◌&&◌}

pub not_both : (b : Bool) → b ≡ true → b ≡ false → ⊥
not_both b h k = absurd (cc)

pub and_false_one : (a b : Bool) → (a && b) ≡ false → a ≡ true → b ≡ false
and_false_one true b e f = e
and_false_one false b e f = absurd (cc)
