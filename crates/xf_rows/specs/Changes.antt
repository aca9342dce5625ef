-- Rows that leave, come and change, and their values.
use Rattle.std.specs.Prelude.{◌≡◌, ℕ, ◌<◌, ◌==◌, Bool, true, false, List, Option, None, Some, All, length, ⊤}
use Rattle.xf_types.specs.declared.state.Sa.{Sa}
use Rattle.xf_types.specs.Machine.{Shown}
use Rattle.xf_types.specs.OwnParts.{new_own}
use Rattle.xf_types.specs.Changes.{NewState, Change, Stays, InPlace, LeaveThen}
use Rattle.xf_types.specs.PolicyList.{without}
use Rattle.xf_laws.specs.OwnLaws.{added_record}
use Rattle.xf_local.specs.View.{LocalView, Dead, Live}
use Rattle.xf_rows.specs.Rows.{Row}
use Rattle.xf_rows.specs.Values.{Beside, at, value_put}

-- the slot is that one, where there is one
abbrev pub is_slot : Option ℕ → ℕ → Bool
is_slot None slot = false
is_slot (Some one) slot = slot == one

-- all entries but the one in that slot
abbrev pub entries_but : Option ℕ → List (ℕ × Sa) → List (ℕ × Sa)
entries_but gone es = without (λ e. is_slot gone e.0) es

-- for these entries a test of the state tells the same as one of the slot
abbrev pub TellAlike : (Sa → Bool) → (ℕ → Bool) → List (ℕ × Sa) → Type 0
TellAlike leaves gone es = All (λ (e : ℕ × Sa). leaves e.1 ≡ gone e.0) es

-- the values of some slots ended, and the others stayed
pub record AreEnded (gone : ℕ → Bool) (old new : Beside) : Type 0 where
  pub held : new.held ≡ old.held
  pub count : length new.values ≡ length old.values
  pub dead : (slot : ℕ) → slot < length old.values → gone slot ≡ true → at new slot ≡ Dead
  pub others : (slot : ℕ) → gone slot ≡ false → at new slot ≡ at old slot

-- the value of that slot is dead, where there is one
abbrev pub ended : Beside → Option ℕ → Beside
ended b None = b
ended b (Some slot) = value_put b slot Dead

-- the row of a state that is listed now
abbrev pub new_row : Shown → NewState → ℕ → Row
new_row s new slot = (slot, (added_record s new, new_own new.spec))

-- its value
abbrev pub new_value : Shown → NewState → LocalView
new_value s new = Live (record { state = added_record s new; own = new_own new.spec; time = s.time })

-- what is shown with another acquire counter
abbrev pub acquiring : Shown → ℕ → Shown
acquiring s next_seq = record s { next_seq = next_seq }

-- where the change is that states leave and come, the rest of what is shown stays but for the acquire counter
abbrev pub OnlyAcquires : Shown → Change → Type 0
OnlyAcquires s Stays = ⊤
OnlyAcquires s (InPlace shown) = ⊤
OnlyAcquires s (LeaveThen shown leaves new) = shown ≡ acquiring s shown.next_seq
