-- What walks along the chains answer, of any image.
use Rattle.std.specs.Prelude.{ℕ, ◌+◌, ◌*◌, ◌%◌, ◌-◌, ◌==◌, Bool, if◌then◌else◌, List, [], ◌∷◌, Option, None, is_some}
use Rattle.xf_types.specs.declared.policy.Policy.{Policy}
use Rattle.xf_types.specs.Counters.{first_free}
use Rattle.xf_types.specs.PolicyRules.{last_index}
use Rattle.xf_chain.specs.Families.{chain_at}
use Rattle.xf_image.specs.declared.area.PolicyArea.{PolicyArea}
use Rattle.xf_image.specs.Layout.{indices_of, record_at}
use Rattle.xf_exact.specs.declared.query.Query.TheVariants.{Index}
use Rattle.xf_exact.specs.Walks.{found_on}

-- the policy in the slot at a place
abbrev pub nth_on : PolicyArea → List ℕ → ℕ → List ℕ → Option Policy
nth_on a image place [] = None
nth_on a image place (slot ∷ slots) = if place == 0 then record_at a image slot else nth_on a image (place - 1) slots

-- the slot of the policy with an index
abbrev pub slot_with : PolicyArea → List ℕ → ℕ → Option ℕ
slot_with a image index = found_on a image (Index index) (chain_at (indices_of a) (index % 1024))

-- a policy has the index
abbrev pub is_taken_in : PolicyArea → List ℕ → ℕ → Bool
is_taken_in a image index = is_some (slot_with a image index)

-- the first number, in cyclic order from one on, whose index with a remainder is free, in at most so many steps
abbrev pub free_in : PolicyArea → List ℕ → ℕ → ℕ → ℕ → ℕ
free_in a image remainder from tries = first_free (λ k. is_taken_in a image (8 * k + remainder)) last_index from tries
