-- What tests say.
use Rattle.std.proofs.Common.{◌≡◌, Bool, true, false, true≢false, not, Option, Some, None, refl, sym}
use Rattle.std.specs.Prelude.{◌&&◌, ◌||◌, is_none}

pub both : (a b : Bool) → (a && b) ≡ true → (a ≡ true) × (b ≡ true)
both true b e = (refl, e)
both false b e = absurd (true≢false (sym e))

pub off : (b : Bool) → not b ≡ true → b ≡ false
off true e = absurd (true≢false (sym e))
off false e = refl

pub none-is : {A : Type 0} (o : Option A) → is_none o ≡ true → o ≡ None
none-is None e = refl
none-is (Some a) e = absurd (true≢false (sym e))

pub other-way : (a b : Bool) → a ≡ false → (a || b) ≡ true → b ≡ true
other-way true b e h = absurd (true≢false e)
other-way false b e h = h
