-- What taking turns makes of those that are held.
use Rattle.std.specs.Prelude.{◌≡◌, ℕ, ◌||◌, true, List, length}
use Rattle.xf_sad.specs.Slots.{is_in}
use Rattle.xf_rows.specs.Values.{Beside, at}

-- The turns of these slots are held, each other is as before, and the values whose turns were held stay.
pub record HasEntered (slots : List ℕ) (old new : Beside) : Type 0 where
  pub count : length new.values ≡ length old.values
  pub held : (slot : ℕ) → new.held slot ≡ (is_in slot slots || old.held slot)
  pub values : (slot : ℕ) → old.held slot ≡ true → at new slot ≡ at old slot
