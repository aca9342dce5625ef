-- An index of the entries the other way round, so that each chain has the last entry first.
use Rattle.std.specs.Prelude.{◌≡◌, ℕ, ◌<◌, List, [], ◌∷◌, ◌++◌, Option, None, length, reverse}
use Rattle.xf_chain.specs.declared.family.Family.{Family}
use Rattle.xf_chain.specs.Lists.{Misses, Apart, first_of}
use Rattle.xf_chain.specs.Families.{Lays, IsOf, put_in, taken_out}
use Rattle.xf_index.specs.Indexes.{slots_in, picked_of, Indexed}

pub record LastFirstLaws (A : Type 0) : Type 0 where
  -- one more entry at the end goes to the front of its chain
  pub put_last : (family : Family) (image : List ℕ) (key : A → Option ℕ) (entries : List (ℕ × A)) (slot : ℕ) (r : A)
      → Lays family (length image) → slot < family.slots → IsOf family (key r)
      → Misses slot (slots_in (reverse entries)) → Apart (slots_in (reverse entries))
      → Indexed family image key (reverse entries)
      → Indexed family (put_in family image (key r) None slot) key (reverse (entries ++ ((slot, r) ∷ [])))
  -- an entry that is put between two parts goes into its chain after the first slot of the back that stands there
  pub put : (family : Family) (image : List ℕ) (key : A → Option ℕ) (front back : List (ℕ × A)) (slot : ℕ) (r : A) (o : Option ℕ)
      → key r ≡ o → Lays family (length image) → slot < family.slots → IsOf family o
      → Misses slot (slots_in (front ++ back)) → Apart (slots_in (front ++ back))
      → Indexed family image key (reverse (front ++ back))
      → Indexed family (put_in family image o (first_of (picked_of key o back)) slot) key (reverse (front ++ ((slot, r) ∷ back)))
  -- and one that leaves goes from after that slot
  pub taken : (family : Family) (image : List ℕ) (key : A → Option ℕ) (front back : List (ℕ × A)) (slot : ℕ) (r : A) (o : Option ℕ)
      → key r ≡ o → Lays family (length image) → IsOf family o
      → Apart (slots_in (front ++ ((slot, r) ∷ back)))
      → Indexed family image key (reverse (front ++ ((slot, r) ∷ back)))
      → Indexed family (taken_out family image o (first_of (picked_of key o back)) slot) key (reverse (front ++ back))
