-- What words stand for while a walk changes the list.
use Rattle.std.specs.Prelude.{◌≡◌, ℕ, ◌+◌, ◌<◌, ◌≤◌, Bool, true, List, ◌++◌, Option, length, map, count_by, slice_index}
use Rattle.xf_types.specs.declared.policy.Policy.{Policy}
use Rattle.xf_types.specs.Machine.{Shown}
use Rattle.xf_types.specs.PolicyList.{without}
use Rattle.xf_types.specs.TickRules.{policy_ends, policy_later}
use Rattle.xf_chain.specs.Lists.{first_of}
use Rattle.xf_index.specs.Indexes.{slots_in, records_in}
use Rattle.xf_image.specs.declared.area.PolicyArea.{PolicyArea}
use Rattle.xf_image.specs.Entries.{entries_without, with_policies}
use Rattle.xf_inexact.specs.Whole.{SpdStands}
use Rattle.xf_policies.specs.declared.sweep.Sweep.{Sweep}
use Rattle.xf_policies.specs.declared.sweep.Fate.{Fate}
use Rattle.xf_policies.specs.declared.sweep.Fate.TheVariants.{Stays, Warned, Gone}
use Rattle.xf_policies.specs.Sweeps.{changes, fate_of, left_of, entries_swept, swept}

-- the words stand for the policies of these entries, and for what else is shown
abbrev pub StandsWith : PolicyArea → List ℕ → Shown → List (ℕ × Policy) → Type 0
StandsWith a words s entries = SpdStands a words (with_policies s (records_in entries)) entries

-- The words stand for some list.
pub record Stood (a : PolicyArea) (words : List ℕ) : Type 0 where
  pub shown : Shown
  pub entries : List (ℕ × Policy)
  pub stands : SpdStands a words shown entries

-- There are as many words, and but for the hidden ones those before the first place and from the last one on are the same.
pub record LeavesOthers (hidden first last : ℕ) (image words : List ℕ) : Type 0 where
  pub size : length words ≡ length image
  pub between : (q : ℕ) → hidden ≤ q → q < first → slice_index words q ≡ slice_index image q
  pub above : (q : ℕ) → last ≤ q → slice_index words q ≡ slice_index image q

-- Without a change the words are the same and may be stored into as before; with one they have begun.
pub record Started (count : ℕ) (image words : List ℕ) (before after : Bool) : Type 0 where
  pub idle : count ≡ 0 → (words ≡ image) × (after ≡ before)
  pub begun : 0 < count → after ≡ true

-- the same for what becomes of one policy
abbrev pub Moves : Fate → List ℕ → List ℕ → Bool → Bool → Type 0
Moves Stays image words before after = (words ≡ image) × (after ≡ before)
Moves Warned image words before after = after ≡ true
Moves Gone image words before after = after ≡ true

-- One policy came to what the walk does to it, and those in front and behind stay.
pub record Passes (a : PolicyArea) (words : List ℕ) (s : Shown) (front : List (ℕ × Policy)) (slot : ℕ) (p : Policy) (back : List (ℕ × Policy)) (what : Sweep) (fate : Fate) : Type 0 where
  pub fate_is : fate ≡ fate_of what p
  pub stands : StandsWith a words s (front ++ (left_of fate slot p ++ back))

-- Those in front were passed, and those behind come yet, so many at most.
pub record Sweeping (a : PolicyArea) (words : List ℕ) (what : Sweep) (s : Shown) (entries : List (ℕ × Policy)) (at : Option ℕ) (left count : ℕ) : Type 0 where
  pub front : List (ℕ × Policy)
  pub back : List (ℕ × Policy)
  pub at_is : at ≡ first_of (slots_in back)
  pub left_is : length back ≤ left
  pub stands : StandsWith a words s (front ++ back)
  pub kept : front ++ entries_swept what back ≡ entries_swept what entries
  pub passed : records_in front ++ swept what (records_in back) ≡ swept what s.policies
  pub counted : count + count_by (changes what) (records_in back) ≡ count_by (changes what) s.policies

-- All were passed.
pub record IsSwept (a : PolicyArea) (words : List ℕ) (what : Sweep) (s : Shown) (entries : List (ℕ × Policy)) (count : ℕ) : Type 0 where
  pub stands : SpdStands a words (with_policies s (swept what s.policies)) (entries_swept what entries)
  pub counted : count ≡ count_by (changes what) s.policies

-- each entry that time doesn't end, at the new time
abbrev pub entries_later : ℕ → List (ℕ × Policy) → List (ℕ × Policy)
entries_later now entries = map (λ e. (e.0, policy_later now e.1)) (entries_without (policy_ends now) entries)

-- the words stand for the policies at a later time, each in its slot
abbrev pub AreLater : PolicyArea → List ℕ → ℕ → Shown → List (ℕ × Policy) → Type 0
AreLater a words now s entries =
    SpdStands a words (record s { policies = map (policy_later now) (without (policy_ends now) s.policies) }) (entries_later now entries)
