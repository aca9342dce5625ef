-- A change of words is the list's change, with the policies in these slots.
use Rattle.std.specs.Prelude.{◌≡◌, ℕ, ◌+◌, ◌<◌, ◌≤◌, List, [], Some, length, slice_index}
use Rattle.xf_types.specs.declared.policy.Policy.{Policy}
use Rattle.xf_types.specs.declared.policy.PolicySpec.{PolicySpec}
use Rattle.xf_types.specs.Facts.{IsThresholds}
use Rattle.xf_types.specs.Machine.{Shown}
use Rattle.xf_types.specs.PolicyRules.{with_policy}
use Rattle.xf_types.specs.Steps.{empty_shown}
use Rattle.xf_cells.specs.Words.{zeros}
use Rattle.xf_chain.specs.Lists.{Misses}
use Rattle.xf_index.specs.Indexes.{slots_in, records_in}
use Rattle.xf_records.specs.Policies.{PolicyFits}
use Rattle.xf_image.specs.declared.area.PolicyArea.{PolicyArea}
use Rattle.xf_image.specs.Layout.{Fits, end_of}
use Rattle.xf_image.specs.Policies.{PoliciesStand}
use Rattle.xf_image.specs.Entries.{AlikeInPolicies, InOrder, IsEntry, new_policy, entries_with, slot_left, slot_warned, with_policies, with_thresholds}
use Rattle.xf_image.specs.Placing.{places_for, places_of}
use Rattle.xf_image.specs.Writes.{added_words, removed_words, warned_words, set_words}

pub record ChangeLaws : Type 0 where
  -- zeros stand for no policies
  pub empty : (a : PolicyArea) (n max_states : ℕ) → PoliciesStand a (zeros n) (empty_shown a.slots max_states) []
  -- a new policy in a slot that is none of the others'
  pub added : (a : PolicyArea) (image : List ℕ) (s : Shown) (entries : List (ℕ × Policy)) (slot : ℕ) (spec : PolicySpec) (index index_word : ℕ)
      → Fits a (length image) → InOrder s → slot < a.slots → Misses slot (slots_in entries) → PolicyFits (new_policy s spec index)
      → PoliciesStand a image s entries
      → PoliciesStand a
      (added_words a image (places_for a image s.hthresh4 s.hthresh6 (new_policy s spec index)) slot (new_policy s spec index) index_word)
      (with_policy (record s { next_index = index_word + 1 }) spec index s.policies)
      (entries_with slot (new_policy s spec index) entries)
  -- the policy in a slot leaves
  pub removed : (a : PolicyArea) (image : List ℕ) (s : Shown) (entries : List (ℕ × Policy)) (slot : ℕ) (p : Policy)
      → Fits a (length image) → IsEntry entries slot p
      → PoliciesStand a image s entries
      → PoliciesStand a (removed_words a image (places_of a image s.hthresh4 s.hthresh6 p slot) slot)
      (with_policies s (records_in (slot_left slot entries))) (slot_left slot entries)
  -- the policy in a slot is warned of
  pub warned : (a : PolicyArea) (image : List ℕ) (s : Shown) (entries : List (ℕ × Policy)) (slot : ℕ) (p : Policy)
      → Fits a (length image) → IsEntry entries slot p
      → PoliciesStand a image s entries
      → PoliciesStand a (warned_words a image slot) (with_policies s (records_in (slot_warned slot entries))) (slot_warned slot entries)
  -- other thresholds
  pub set : (a : PolicyArea) (image : List ℕ) (s : Shown) (entries : List (ℕ × Policy)) (h4 h6 : ℕ × ℕ)
      → Fits a (length image) → IsThresholds (Some h4) (Some h6)
      → PoliciesStand a image s entries
      → PoliciesStand a (set_words a image h4 h6) (with_thresholds s h4 h6) entries
  -- words of others don't matter
  pub apart : (a : PolicyArea) (image words : List ℕ) (s : Shown) (entries : List (ℕ × Policy)) → Fits a (length image)
      → ((q : ℕ) → a.base ≤ q → q < end_of a → slice_index words q ≡ slice_index image q)
      → PoliciesStand a image s entries → PoliciesStand a words s entries
  -- and neither does what else is shown
  pub alike : (a : PolicyArea) (image : List ℕ) (s t : Shown) (entries : List (ℕ × Policy)) → AlikeInPolicies s t
      → PoliciesStand a image s entries → PoliciesStand a image t entries
