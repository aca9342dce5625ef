-- What the changes write, as functions of the words before. The areas are written in the order in which they lie.
use Rattle.std.specs.Prelude.{ℕ, ◌+◌, ◌-◌, List, [], ◌∷◌, Option, None, Some, slice_index, slice_set}
use Rattle.xf_types.specs.declared.policy.Policy.{Policy}
use Rattle.xf_cells.specs.Words.{next_count}
use Rattle.xf_chain.specs.Chains.{slots_of}
use Rattle.xf_chain.specs.Families.{chain_at, put_in, taken_out, emptied}
use Rattle.xf_records.specs.Blocks.{stored}
use Rattle.xf_records.specs.Policies.{policy_words}
use Rattle.xf_image.specs.declared.area.PolicyArea.{PolicyArea}
use Rattle.xf_image.specs.declared.places.Places.{Places}
use Rattle.xf_image.specs.Layout.{next_index_place, next_number_place, thresholds_place, count_place, order_of, back_of, exact_of, indices_of, priority_place, number_place, record_place, record_at}
use Rattle.xf_image.specs.ExactKeys.{exact_key}

-- ---- a new policy

-- the header: the words of the two counters, and one more listed
abbrev pub counted : PolicyArea → List ℕ → ℕ → ℕ → List ℕ
counted a image index_word number_word =
    slice_set (slice_set (slice_set image (next_index_place a) index_word) (next_number_place a) number_word)
    (count_place a) (next_count (slice_index image (count_place a)))

-- a slot in the chain of all, and in that from the last one back
abbrev pub linked_in_order : PolicyArea → List ℕ → Places → ℕ → List ℕ
linked_in_order a image p slot =
    put_in (back_of a) (put_in (order_of a) image (Some 0) p.order slot) (Some 0) p.back slot

-- in the chain of exact match, where it has one
abbrev pub linked_by_key : PolicyArea → List ℕ → Places → ℕ → List ℕ
linked_by_key a image p slot =
    put_in (exact_of a) image p.bucket p.exact slot

-- in all its chains
abbrev pub linked : PolicyArea → List ℕ → Places → ℕ → List ℕ
linked a image p slot =
    put_in (indices_of a) (linked_by_key a (linked_in_order a image p slot) p slot) (Some p.row) p.indices slot

-- its priority and its number
abbrev pub ranked : PolicyArea → List ℕ → ℕ → Policy → List ℕ
ranked a image slot p = slice_set (slice_set image (priority_place a slot) p.spec.priority) (number_place a slot) p.number

-- the words with a policy in a slot, and the slot at these places; the number that is given next is the one after the policy's
abbrev pub added_words : PolicyArea → List ℕ → Places → ℕ → Policy → ℕ → List ℕ
added_words a image places slot p index_word =
    stored (ranked a (linked a (counted a image index_word p.number) places slot) slot p) (record_place a slot) (policy_words p)

-- ---- a policy that leaves

-- the header: one less listed
abbrev pub discounted : PolicyArea → List ℕ → List ℕ
discounted a image = slice_set image (count_place a) (slice_index image (count_place a) - 1)

-- a slot out of the chain of all, and of that from the last one back
abbrev pub cut_from_order : PolicyArea → List ℕ → Places → ℕ → List ℕ
cut_from_order a image p slot =
    taken_out (back_of a) (taken_out (order_of a) image (Some 0) p.order slot) (Some 0) p.back slot

-- out of the chain of exact match, where it has one
abbrev pub cut_from_key : PolicyArea → List ℕ → Places → ℕ → List ℕ
cut_from_key a image p slot =
    taken_out (exact_of a) image p.bucket p.exact slot

-- out of all its chains
abbrev pub cut_out : PolicyArea → List ℕ → Places → ℕ → List ℕ
cut_out a image p slot =
    taken_out (indices_of a) (cut_from_key a (cut_from_order a image p slot) p slot) (Some p.row) p.indices slot

-- the words without the policy in a slot, which stands at these places
abbrev pub removed_words : PolicyArea → List ℕ → Places → ℕ → List ℕ
removed_words a image p slot = cut_out a (discounted a image) p slot

-- ---- a policy that is warned of

-- the words with the flag of a slot's record set
abbrev pub warned_words : PolicyArea → List ℕ → ℕ → List ℕ
warned_words a image slot = slice_set image (record_place a slot + 21) 1

-- ---- other thresholds

-- two of them at their places, as what they lack to a whole address
abbrev pub lens_put : List ℕ → ℕ → ℕ → ℕ → ℕ × ℕ → List ℕ
lens_put image local remote whole lens = slice_set (slice_set image local (whole - lens.0)) remote (whole - lens.1)

-- all four in the header
abbrev pub thresholds_put : PolicyArea → List ℕ → ℕ × ℕ → ℕ × ℕ → List ℕ
thresholds_put a image h4 h6 =
    lens_put (lens_put image (thresholds_place a) (thresholds_place a + 1) 32 h4)
    (thresholds_place a + 2) (thresholds_place a + 3) 128 h6

-- with empty chains of those that are found by exact match
abbrev pub cleared : PolicyArea → List ℕ → ℕ × ℕ → ℕ × ℕ → List ℕ
cleared a image h4 h6 = emptied (exact_of a).heads 1024 (thresholds_put a image h4 h6)

-- a slot at the front of the chain that its policy has under these thresholds, where it has one
abbrev pub moved_policy : PolicyArea → ℕ × ℕ → ℕ × ℕ → List ℕ → ℕ → Option Policy → List ℕ
moved_policy a h4 h6 image slot None = image
moved_policy a h4 h6 image slot (Some p) =
    put_in (exact_of a) image (exact_key h4 h6 p) None slot

-- the same for the policy in the slot
abbrev pub moved : PolicyArea → ℕ × ℕ → ℕ × ℕ → List ℕ → ℕ → List ℕ
moved a h4 h6 image slot = moved_policy a h4 h6 image slot (record_at a image slot)

-- one slot after another
abbrev pub moved_all : PolicyArea → ℕ × ℕ → ℕ × ℕ → List ℕ → List ℕ → List ℕ
moved_all a h4 h6 image [] = image
moved_all a h4 h6 image (slot ∷ slots) = moved_all a h4 h6 (moved a h4 h6 image slot) slots

-- the slots of all policies, the last first
abbrev pub from_last : PolicyArea → List ℕ → List ℕ
from_last a image = slots_of (chain_at (back_of a) 0) image

-- the words with these thresholds: each policy goes to the front of its chain, the last one of the list first
abbrev pub set_words : PolicyArea → List ℕ → ℕ × ℕ → ℕ × ℕ → List ℕ
set_words a image h4 h6 = moved_all a h4 h6 (cleared a image h4 h6) (from_last a (cleared a image h4 h6))
