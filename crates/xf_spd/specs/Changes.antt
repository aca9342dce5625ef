-- What a change of the policies makes of words that stand for a list.
use Rattle.std.specs.Prelude.{◌≡◌, ℕ, ◌^◌, ◌<◌, List, MatchOption}
use Rattle.xf_types.specs.declared.call.Reply.TheVariants.{DoneIndex}
use Rattle.xf_types.specs.declared.policy.Policy.{Policy}
use Rattle.xf_types.specs.declared.policy.PolicySpec.{PolicySpec}
use Rattle.xf_types.specs.Changes.{Answer, shown_after}
use Rattle.xf_types.specs.IsMachine.{IsPolicyList, IsInRoom, IsInRange}
use Rattle.xf_types.specs.Machine.{Shown}
use Rattle.xf_types.specs.PolicyList.{is_same}
use Rattle.xf_index.specs.Finds.{found_in, slot_found}
use Rattle.xf_image.specs.declared.area.PolicyArea.{PolicyArea}
use Rattle.xf_image.specs.Entries.{new_policy, entries_with, entries_without}
use Rattle.xf_inexact.specs.Whole.{SpdStands}

-- What holds of each machine that a run reaches, as far as policies go, at this time.
pub record IsAt (s : Shown) (now : ℕ) : Type 0 where
  pub number : s.next_number < 2 ^ 63
  pub policies : IsPolicyList s
  pub room : IsInRoom s
  pub range : IsInRange s
  pub time : s.time ≡ now

-- The rule answers the index, and the words stand for what it makes, with the new policy in this slot beside the others.
pub record Adds (a : PolicyArea) (words : List ℕ) (s : Shown) (others : List (ℕ × Policy)) (slot index : ℕ) (spec : PolicySpec) (rule : Answer) : Type 0 where
  pub reply : rule.reply ≡ DoneIndex index
  pub stands : SpdStands a words (shown_after s rule.change) (entries_with slot (new_policy s spec index) others)

-- The same, in a slot that the pool could give.
pub record AddsGiven (a : PolicyArea) (words : List ℕ) (s : Shown) (entries : List (ℕ × Policy)) (gave : ℕ → Type 0) (index : ℕ) (spec : PolicySpec) (rule : Answer) : Type 0 where
  pub slot : ℕ
  pub given : gave slot
  pub adds : Adds a words s entries slot index spec rule

-- The same beside all that aren't the same: in the slot of the one that was the same, or in one that the pool could give.
pub record Replaces (a : PolicyArea) (words : List ℕ) (s : Shown) (entries : List (ℕ × Policy)) (gave : ℕ → Type 0) (index : ℕ) (spec : PolicySpec) (rule : Answer) : Type 0 where
  pub slot : ℕ
  pub given : MatchOption (slot_found (found_in (λ p. is_same p.spec spec) entries)) (gave slot) (λ own. own ≡ slot)
  pub adds : Adds a words s (entries_without (λ p. is_same p.spec spec) entries) slot index spec rule
