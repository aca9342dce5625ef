-- What a walk over the list has done where it stands.
use Rattle.std.specs.Prelude.{◌≡◌, ℕ, ◌+◌, Bool, cond, List, ◌∷◌, ◌++◌, Option, length, filter, count_by}
use Rattle.xf_types.specs.declared.policy.Policy.{Policy}
use Rattle.xf_types.specs.Machine.{Shown}
use Rattle.xf_types.specs.PolicyList.{without}
use Rattle.xf_chain.specs.Lists.{first_of}
use Rattle.xf_index.specs.Indexes.{slots_in, records_in}
use Rattle.xf_image.specs.declared.area.PolicyArea.{PolicyArea}
use Rattle.xf_image.specs.Entries.{with_policies}
use Rattle.xf_inexact.specs.Whole.{SpdStands}

-- the words stand for the policies of these entries, and for what else is shown
abbrev pub StandsWith : PolicyArea → List ℕ → Shown → List (ℕ × Policy) → Type 0
StandsWith a words s entries = SpdStands a words (with_policies s (records_in entries)) entries

-- those between which a policy stands, with it or without it
abbrev pub passed : Bool → List (ℕ × Policy) → ℕ → Policy → List (ℕ × Policy) → List (ℕ × Policy)
passed gone front slot p back = front ++ cond gone back ((slot, p) ∷ back)

-- The policy in the slot left, where it was one of these, and else it stays.
pub record Passes (a : PolicyArea) (words : List ℕ) (s : Shown) (front : List (ℕ × Policy)) (slot : ℕ) (p : Policy) (back : List (ℕ × Policy)) (gone : Bool) (count : ℕ) : Type 0 where
  pub count_is : count ≡ cond gone 1 0
  pub stands : StandsWith a words s (passed gone front slot p back)

-- Those in front stayed, and those behind come yet, so many.
pub record Removing (a : PolicyArea) (words : List ℕ) (test : Policy → Bool) (s : Shown) (at : Option ℕ) (left removed : ℕ) : Type 0 where
  pub front : List (ℕ × Policy)
  pub back : List (ℕ × Policy)
  pub at_is : at ≡ first_of (slots_in back)
  pub left_is : length back ≡ left
  pub stands : StandsWith a words s (front ++ back)
  pub stayed : records_in front ++ without test (records_in back) ≡ without test s.policies
  pub counted : removed + count_by test (records_in back) ≡ count_by test s.policies

-- Those in front were asked, and those behind come yet, so many.
pub record Asking (test : Policy → Bool) (entries : List (ℕ × Policy)) (at : Option ℕ) (left : ℕ) (found : List Policy) : Type 0 where
  pub front : List (ℕ × Policy)
  pub back : List (ℕ × Policy)
  pub at_is : at ≡ first_of (slots_in back)
  pub left_is : length back ≡ left
  pub whole : entries ≡ front ++ back
  pub asked : found ++ filter test (records_in back) ≡ filter test (records_in entries)
