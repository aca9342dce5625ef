-- What a change of one chain makes of an index.
use Rattle.std.specs.Prelude.{◌≡◌, ℕ, ◌+◌, ◌<◌, ◌≤◌, List, ◌∷◌, ◌++◌, Option, length, slice_index}
use Rattle.xf_chain.specs.declared.family.Family.{Family}
use Rattle.xf_chain.specs.Chains.{Below}
use Rattle.xf_chain.specs.Lists.{Misses, Apart, Within, last_of}
use Rattle.xf_chain.specs.Families.{Lays, IsOf, Outside, put_in, taken_out, emptied}
use Rattle.xf_index.specs.Indexes.{slots_in, picked_of, Indexed, rebuilt, AreOf}

pub record ChangeLaws (A : Type 0) : Type 0 where
  -- an entry that is put between two parts goes into its chain after the last slot of the front that stands there
  pub put : (family : Family) (image : List ℕ) (key : A → Option ℕ) (front back : List (ℕ × A)) (slot : ℕ) (r : A) (o : Option ℕ)
      → key r ≡ o → Lays family (length image) → slot < family.slots → IsOf family o
      → Misses slot (slots_in (front ++ back)) → Apart (slots_in (front ++ back))
      → Indexed family image key (front ++ back)
      → Indexed family (put_in family image o (last_of (picked_of key o front)) slot) key (front ++ ((slot, r) ∷ back))
  -- and one that leaves goes from after that slot
  pub taken : (family : Family) (image : List ℕ) (key : A → Option ℕ) (front back : List (ℕ × A)) (slot : ℕ) (r : A) (o : Option ℕ)
      → key r ≡ o → Lays family (length image) → IsOf family o
      → Apart (slots_in (front ++ ((slot, r) ∷ back)))
      → Indexed family image key (front ++ ((slot, r) ∷ back))
      → Indexed family (taken_out family image o (last_of (picked_of key o front)) slot) key (front ++ back)
  -- a record that is replaced by one with the same key changes no chain
  pub changed : (family : Family) (image : List ℕ) (key : A → Option ℕ) (front back : List (ℕ × A)) (slot : ℕ) (r s : A)
      → key r ≡ key s
      → Indexed family image key (front ++ ((slot, r) ∷ back)) → Indexed family image key (front ++ ((slot, s) ∷ back))
  -- an index none of whose own words is written stays
  pub apart : (family : Family) (image words : List ℕ) (size : ℕ) (key : A → Option ℕ) (entries : List (ℕ × A))
      → Lays family size
      → ((place : ℕ) → family.heads ≤ place → place < family.links + family.slots → slice_index words place ≡ slice_index image place)
      → Indexed family image key entries → Indexed family words key entries
  -- in emptied chains each entry is put at the front of its own, the last one first
  pub anew : (family : Family) (key : A → Option ℕ) (image : List ℕ) (entries : List (ℕ × A))
      → Lays family (length image) → Apart (slots_in entries) → Within family.slots (slots_in entries) → AreOf family key entries
      → Indexed family (rebuilt family key (emptied family.heads family.count image) entries) key entries

-- No word of others is written.
pub record FrameLaws : Type 0 where
  pub put : (family : Family) (image : List ℕ) (size : ℕ) (number after : Option ℕ) (slot place : ℕ)
      → Lays family size → IsOf family number → Below family.slots after → slot < family.slots → Outside family place
      → slice_index (put_in family image number after slot) place ≡ slice_index image place
  pub taken : (family : Family) (image : List ℕ) (size : ℕ) (number after : Option ℕ) (slot place : ℕ)
      → Lays family size → IsOf family number → Below family.slots after → Outside family place
      → slice_index (taken_out family image number after slot) place ≡ slice_index image place
