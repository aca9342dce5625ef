-- Chains that share their links, so that a slot stands in one of them at most.
use Rattle.std.specs.Prelude.{ℕ, zero, suc, ◌+◌, ◌^◌, ◌<◌, ◌≤◌, ⊤, Bool, ◌==◌, not, cond, List, [], ◌∷◌, Option, None, Some, slice_set}
use Rattle.xf_chain.specs.declared.chain.Chain.{Chain}
use Rattle.xf_chain.specs.declared.family.Family.{Family}
use Rattle.xf_chain.specs.Chains.{inserted, unlinked}

-- the chain with a number
abbrev pub chain_at : Family → ℕ → Chain
chain_at family number = record { head = family.heads + number; link = family.links; stride = 1; slots = family.slots }

-- The heads come first, the links after them, and all lie in so many words.
pub record Lays (family : Family) (size : ℕ) : Type 0 where
  pub heads : family.heads + family.count ≤ family.links
  pub links : family.links + family.slots ≤ size
  pub fits : size < 2 ^ 32

-- a number, where there is one, is that of one of the chains
abbrev pub IsOf : Family → Option ℕ → Type 0
IsOf family None = ⊤
IsOf family (Some number) = number < family.count

-- a place is none of theirs
abbrev pub Outside : Family → ℕ → Type 0
Outside family place = family.heads ≤ place → family.links + family.slots ≤ place

-- the words after a slot was put into the chain with a number, where there is one, after another slot
abbrev pub put_in : Family → List ℕ → Option ℕ → Option ℕ → ℕ → List ℕ
put_in family image None after slot = image
put_in family image (Some number) after slot = inserted (chain_at family number) image after slot

-- the words after a slot was taken out of that chain
abbrev pub taken_out : Family → List ℕ → Option ℕ → Option ℕ → ℕ → List ℕ
taken_out family image None after slot = image
taken_out family image (Some number) after slot = unlinked (chain_at family number) image after slot

-- the last slot before the first that fails a test, or another where there is none
abbrev pub last_while : (ℕ → Bool) → Option ℕ → List ℕ → Option ℕ
last_while test last [] = last
last_while test last (slot ∷ slots) = cond (test slot) (last_while test (Some slot) slots) last

-- a slot is another one
abbrev pub is_other : ℕ → ℕ → Bool
is_other slot other = not (other == slot)

-- the words with no slot in so many chains from a head on
abbrev pub emptied : ℕ → ℕ → List ℕ → List ℕ
emptied head zero image = image
emptied head (suc more) image = emptied (head + 1) more (slice_set image head 0)
