-- What the split of a chain in two makes of the words.
use Rattle.std.specs.Prelude.{ℕ, zero, suc, ◌+◌, Bool, true, false, List, [], ◌∷◌, Option, None, Some}
use Rattle.xf_chain.specs.declared.chain.Chain.{Chain}
use Rattle.xf_chain.specs.declared.family.Family.{Family}
use Rattle.xf_chain.specs.Chains.{first_in, next_in, inserted, unlinked}
use Rattle.xf_chain.specs.Families.{chain_at}
use Rattle.xf_index.specs.Indexes.{is_number}
use Rattle.xf_doubling.specs.Heads.{head_of}

-- one of two
abbrev pub either : {A : Type 0} → Bool → A → A → A
either true x y = x
either false x y = y

-- one slot, which comes after the last that stayed, goes after the last that went
abbrev pub moved_one : Chain → Chain → ℕ → Option ℕ → Option ℕ → List ℕ → List ℕ
moved_one low high slot last other words = inserted high (unlinked low words last slot) other slot

-- the words after at most so many slots stayed or went, from one on, with the last that stayed and the last that went
abbrev pub split_from : Chain → Chain → (List ℕ → ℕ → Bool) → ℕ → Option ℕ → Option ℕ → Option ℕ → List ℕ → List ℕ
split_from low high moves zero at last other words = words
split_from low high moves (suc left) None last other words = words
split_from low high moves (suc left) (Some slot) last other words =
    split_from low high moves left (next_in low words slot) (either (moves words slot) last (Some slot)) (either (moves words slot) (Some slot) other)
    (either (moves words slot) (moved_one low high slot last other words) words)

-- a key goes to the new head, once one head more is split
abbrev pub goes : ℕ → ℕ → Option ℕ → Bool
goes half moved key = is_number (half + moved) (head_of half (moved + 1) key)

-- the same of the key of a slot
abbrev pub goes_at : ℕ → ℕ → (List ℕ → ℕ → Option ℕ) → List ℕ → ℕ → Bool
goes_at half moved key words slot = goes half moved (key words slot)

-- the words after one more of the old heads was split
abbrev pub split_of : Family → ℕ → ℕ → (List ℕ → ℕ → Option ℕ) → List ℕ → List ℕ
split_of family half moved key words =
    split_from (chain_at family moved) (chain_at family (half + moved)) (goes_at half moved key) family.slots
    (first_in (chain_at family moved) words) None None words

-- the entries with what is made of their records
abbrev pub keyed : {A B : Type 0} → (A → B) → List (ℕ × A) → List (ℕ × B)
keyed f [] = []
keyed f (e ∷ es) = (e.0, f e.1) ∷ keyed f es
