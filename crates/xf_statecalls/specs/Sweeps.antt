-- How far a walk over the states has come from which some leave.
use Rattle.std.specs.Prelude.{◌≡◌, ℕ, ◌+◌, ◌<◌, ◌≤◌, Bool, true, false, List, [], ◌∷◌, ◌++◌, Option, None, Some, All, length, count_by, filter}
use Rattle.xf_types.specs.declared.state.Sa.{Sa}
use Rattle.xf_types.specs.Machine.{Shown}
use Rattle.xf_types.specs.PolicyList.{without}
use Rattle.xf_chain.specs.Lists.{first_of}
use Rattle.xf_index.specs.Indexes.{slots_in, records_in}
use Rattle.xf_sadidx.specs.declared.area.StateArea.{StateArea}
use Rattle.xf_sad.specs.Places.{state_in}
use Rattle.xf_rows.specs.declared.layout.Layout.{Layout}
use Rattle.xf_rows.specs.Rows.{Row, states_in, on_row}
use Rattle.xf_rows.specs.Values.{Beside}
use Rattle.xf_statecalls.specs.Left.{StandsFor}

-- Without a removal words and values are the same, and words may be stored into as before; with one they have begun.
pub record Started (count : ℕ) (i j : List ℕ) (b c : Beside) (before after : Bool) : Type 0 where
  pub idle : count ≡ 0 → (j ≡ i) × (c ≡ b) × (after ≡ before)
  pub begun : 0 < count → after ≡ true

-- The turn of each slot is held whose state leaves.
pub record HasTurns (a : StateArea) (image : List ℕ) (b : Beside) (leaves : Sa → Bool) : Type 0 where
  pub turns : (slot : ℕ) (r : Sa) → state_in a image slot ≡ Some r → leaves r ≡ true → b.held slot ≡ true

-- the turn of a row's slot is held where its state leaves
abbrev pub HeldIf : Beside → (Sa → Bool) → Row → Type 0
HeldIf b leaves x = leaves x.1.0 ≡ true → b.held x.0 ≡ true

-- the rows where one was passed, which left or stayed
abbrev pub passed : Bool → List Row → Row → List Row → List Row
passed true front x back = front ++ back
passed false front x back = front ++ (x ∷ back)

-- Those in front were passed, and those behind come yet, so many at most. Of all rows those that are chosen have left or come yet, and the turns of
-- these are held.
pub record Sweeping (layout : Layout) (image : List ℕ) (b : Beside) (leaves : Sa → Bool) (s : Shown) (rows : List Row) (at : Option ℕ) (left count : ℕ) : Type 0 where
  pub front : List Row
  pub back : List Row
  pub at_is : at ≡ first_of (slots_in back)
  pub left_is : length back ≤ left
  pub stands : StandsFor layout image b s (front ++ back)
  pub rest : front ++ without (on_row leaves) back ≡ without (on_row leaves) rows
  pub counted : count + count_by leaves (states_in back) ≡ count_by leaves (states_in rows)
  pub turns : All (HeldIf b leaves) back

-- All were passed.
pub record IsSwept (layout : Layout) (image : List ℕ) (b : Beside) (leaves : Sa → Bool) (s : Shown) (rows : List Row) (count : ℕ) : Type 0 where
  pub stands : StandsFor layout image b s (without (on_row leaves) rows)
  pub counted : count ≡ count_by leaves (states_in rows)

-- the state where it passes, as a list
abbrev pub kept : (Sa → Bool) → Option Sa → List Sa
kept test None = []
kept test (Some s) = filter test (s ∷ [])

-- A walk that reads: of the entries those behind come yet, and of those in front these records were picked.
pub record Reading (test : Sa → Bool) (entries : List (ℕ × Sa)) (at : Option ℕ) (left : ℕ) (picked : List Sa) : Type 0 where
  pub front : List (ℕ × Sa)
  pub back : List (ℕ × Sa)
  pub whole : entries ≡ front ++ back
  pub at_is : at ≡ first_of (slots_in back)
  pub left_is : length back ≤ left
  pub picked_are : picked ++ filter test (records_in back) ≡ filter test (records_in entries)

-- So many were picked.
pub record Counting (test : Sa → Bool) (entries : List (ℕ × Sa)) (at : Option ℕ) (left count : ℕ) : Type 0 where
  pub picked : List Sa
  pub reading : Reading test entries at left picked
  pub count_is : count ≡ length picked
