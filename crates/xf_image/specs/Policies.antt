-- When words stand for the policy list of a machine.
use Rattle.std.specs.Prelude.{◌≡◌, ℕ, ◌+◌, ◌%◌, List, length, reverse, Option, Some, slice_index}
use Rattle.xf_types.specs.declared.policy.Policy.{Policy}
use Rattle.xf_types.specs.Machine.{Shown}
use Rattle.xf_index.specs.Indexes.{Indexed, Holds, records_in}
use Rattle.xf_image.specs.declared.area.PolicyArea.{PolicyArea}
use Rattle.xf_image.specs.Layout.{next_index_place, next_number_place, thresholds_place, count_place, order_of, back_of, exact_of, indices_of, priority_place, number_place, record_at}
use Rattle.xf_image.specs.ExactKeys.{exact_key}

-- in which chain a policy stands: all stand in one
abbrev pub everyone : Policy → Option ℕ
everyone p = Some 0

-- and each in that of its index
abbrev pub index_key : Policy → Option ℕ
index_key p = Some (p.index % 1024)

-- Each chain passes just the slots whose policies stand in it, in the order of the list, each once: all policies, and all from the
-- last to the first; those that are found by exact match, in the chain of their hash; all, by their index.
pub record LinksStand (a : PolicyArea) (image : List ℕ) (h4 h6 : ℕ × ℕ) (entries : List (ℕ × Policy)) : Type 0 where
  pub order : Indexed (order_of a) image everyone entries
  pub back : Indexed (back_of a) image everyone (reverse entries)
  pub exact : Indexed (exact_of a) image (exact_key h4 h6) entries
  pub indices : Indexed (indices_of a) image index_key entries

-- In each slot stands its policy: the whole record, and its priority and its number once more, where a walk reads them.
pub record ColumnsStand (a : PolicyArea) (image : List ℕ) (entries : List (ℕ × Policy)) : Type 0 where
  pub priorities : Holds (λ slot. slice_index image (priority_place a slot)) (λ p. p.spec.priority) entries
  pub numbers : Holds (λ slot. slice_index image (number_place a slot)) (λ p. p.number) entries
  pub records : Holds (λ slot. record_at a image slot) (λ p. Some p) entries

-- The header has the counters less their first values, what the thresholds lack to theirs, and how many policies are listed.
pub record CountersStand (a : PolicyArea) (image : List ℕ) (s : Shown) : Type 0 where
  pub next_index : slice_index image (next_index_place a) + 1 ≡ s.next_index
  pub next_number : slice_index image (next_number_place a) + 1 ≡ s.next_number
  pub local4 : slice_index image (thresholds_place a) + s.hthresh4.0 ≡ 32
  pub remote4 : slice_index image (thresholds_place a + 1) + s.hthresh4.1 ≡ 32
  pub local6 : slice_index image (thresholds_place a + 2) + s.hthresh6.0 ≡ 128
  pub remote6 : slice_index image (thresholds_place a + 3) + s.hthresh6.1 ≡ 128
  pub count : slice_index image (count_place a) ≡ length s.policies

-- The words stand for the policies, the counters and the thresholds of what a machine shows, with these policies in these slots.
pub record PoliciesStand (a : PolicyArea) (image : List ℕ) (s : Shown) (entries : List (ℕ × Policy)) : Type 0 where
  pub listed : records_in entries ≡ s.policies
  pub links : LinksStand a image s.hthresh4 s.hthresh6 entries
  pub columns : ColumnsStand a image entries
  pub counters : CountersStand a image s
  pub room : s.max_policies ≡ a.slots

-- The words stand for them in some slots.
pub record RepresentsPolicies (a : PolicyArea) (image : List ℕ) (s : Shown) : Type 0 where
  pub entries : List (ℕ × Policy)
  pub stands : PoliciesStand a image s entries
