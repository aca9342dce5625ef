-- What time does to rows and to values.
use Rattle.std.specs.Prelude.{◌≡◌, ℕ, ◌<◌, Bool, true, false, List, [], ◌∷◌, ◌++◌, Option, None, Some, length, map}
use Rattle.xf_types.specs.declared.call.Event.{Event}
use Rattle.xf_types.specs.declared.call.Event.TheVariants.{StateSoft}
use Rattle.xf_types.specs.declared.state.Sa.{Sa}
use Rattle.xf_types.specs.OneState.{dying_if}
use Rattle.xf_types.specs.PolicyList.{without}
use Rattle.xf_types.specs.TickRules.{state_ends, state_later}
use Rattle.xf_local.specs.View.{aged}
use Rattle.xf_rows.specs.Rows.{Row}
use Rattle.xf_rows.specs.Values.{Beside, at}

-- time ends the row's state
abbrev pub row_ends : ℕ → Row → Bool
row_ends now r = state_ends now r.1

-- a row that stays, at a later time
abbrev pub row_later : ℕ → Row → Row
row_later now r = (r.0, (state_later now r.1, r.1.1))

-- the rows that are left at a later time
abbrev pub rows_later : ℕ → List Row → List Row
rows_later now rows = map (row_later now) (without (row_ends now) rows)

-- The values whose slots' turns are held are at a later time, and the others stay.
pub record AreAged (now : ℕ) (old new : Beside) : Type 0 where
  pub held : new.held ≡ old.held
  pub count : length new.values ≡ length old.values
  pub later : (slot : ℕ) → slot < length old.values → old.held slot ≡ true → at new slot ≡ aged now (at old slot)
  pub others : (slot : ℕ) → old.held slot ≡ false → at new slot ≡ at old slot

-- the entry at a later time, by what is reported of its state: it is left, dying, or as it was
abbrev pub entry_later : Option Event → ℕ × Sa → List (ℕ × Sa)
entry_later None e = e ∷ []
entry_later (Some (StateSoft sid)) e = (e.0, dying_if true e.1) ∷ []
entry_later (Some other) e = []
