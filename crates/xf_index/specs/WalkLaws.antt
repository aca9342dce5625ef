-- What is read in a chain of an index.
use Rattle.std.specs.Prelude.{◌≡◌, ℕ, ◌<◌, Bool, true, false, List, ◌∷◌, ◌++◌, Option, None, Some, find, reverse}
use Rattle.xf_chain.specs.declared.family.Family.{Family}
use Rattle.xf_chain.specs.Chains.{first_in, next_in, slots_of}
use Rattle.xf_chain.specs.Lists.{first_of, last_of}
use Rattle.xf_chain.specs.Families.{chain_at, last_while, is_other}
use Rattle.xf_index.specs.Indexes.{picked, Indexed, Holds, AllAre}

-- One load each.
pub record NeighbourLaws (A : Type 0) : Type 0 where
  -- the head names the first slot of the chain
  pub first : (family : Family) (image : List ℕ) (key : A → Option ℕ) (number : ℕ) (entries : List (ℕ × A))
      → number < family.count → Indexed family image key entries
      → first_in (chain_at family number) image ≡ first_of (picked key number entries)
  -- the link of a slot names the one after it
  pub next : (family : Family) (image : List ℕ) (key : A → Option ℕ) (number : ℕ) (front back : List (ℕ × A)) (slot : ℕ) (r : A)
      → number < family.count → key r ≡ Some number → Indexed family image key (front ++ ((slot, r) ∷ back))
      → next_in (chain_at family number) image slot ≡ first_of (picked key number back)
  -- where the last entry comes first, the head names the last slot
  pub last : (family : Family) (image : List ℕ) (key : A → Option ℕ) (number : ℕ) (entries : List (ℕ × A))
      → number < family.count → Indexed family image key (reverse entries)
      → first_in (chain_at family number) image ≡ last_of (picked key number entries)
  -- and the link of a slot the one before it
  pub before : (family : Family) (image : List ℕ) (key : A → Option ℕ) (number : ℕ) (front back : List (ℕ × A)) (slot : ℕ) (r : A)
      → number < family.count → key r ≡ Some number → Indexed family image key (reverse (front ++ ((slot, r) ∷ back)))
      → next_in (chain_at family number) image slot ≡ last_of (picked key number front)

-- A walk, of a test that each slot answers as its record does.
pub record WalkLaws (A : Type 0) : Type 0 where
  -- to a slot: it ends at the one before it
  pub before : (family : Family) (image : List ℕ) (key : A → Option ℕ) (number : ℕ) (front back : List (ℕ × A)) (slot : ℕ) (r : A)
      → number < family.count → key r ≡ Some number → Indexed family image key (front ++ ((slot, r) ∷ back))
      → last_while (is_other slot) None (slots_of (chain_at family number) image) ≡ last_of (picked key number front)
  -- to the first that fails: it ends at the last slot of the entries that pass, where those come first
  pub passing : (family : Family) (image : List ℕ) (key : A → Option ℕ) (number : ℕ) (test : ℕ → Bool) (t : A → Bool) (front back : List (ℕ × A))
      → number < family.count → Holds test t (front ++ back) → AllAre t true front → AllAre t false back
      → Indexed family image key (front ++ back)
      → last_while test None (slots_of (chain_at family number) image) ≡ last_of (picked key number front)
  -- where the last entry comes first: the first that passes is that same slot
  pub from_last : (family : Family) (image : List ℕ) (key : A → Option ℕ) (number : ℕ) (test : ℕ → Bool) (t : A → Bool) (front back : List (ℕ × A))
      → number < family.count → Holds test t (front ++ back) → AllAre t true front → AllAre t false back
      → Indexed family image key (reverse (front ++ back))
      → find test (slots_of (chain_at family number) image) ≡ last_of (picked key number front)
