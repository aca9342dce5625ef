-- An index whose one chain has all entries.
use Rattle.std.specs.Prelude.{◌≡◌, ℕ, ◌<◌, ◌≤◌, List, Option, Some, length}
use Rattle.xf_chain.specs.declared.family.Family.{Family}
use Rattle.xf_chain.specs.Chains.{slots_of}
use Rattle.xf_chain.specs.Lists.{Apart, Within}
use Rattle.xf_chain.specs.Families.{chain_at}
use Rattle.xf_index.specs.Indexes.{slots_in, Indexed}

pub record AllLaws (A : Type 0) : Type 0 where
  -- a walk passes the slots of all entries, in their order
  pub walk : (family : Family) (image : List ℕ) (key : A → Option ℕ) (entries : List (ℕ × A))
      → ((r : A) → key r ≡ Some 0) → 0 < family.count → Indexed family image key entries
      → slots_of (chain_at family 0) image ≡ slots_in entries
  -- no two entries have the same slot
  pub apart : (family : Family) (image : List ℕ) (key : A → Option ℕ) (entries : List (ℕ × A))
      → ((r : A) → key r ≡ Some 0) → 0 < family.count → Indexed family image key entries → Apart (slots_in entries)
  -- each has one of the family's slots
  pub within : (family : Family) (image : List ℕ) (key : A → Option ℕ) (entries : List (ℕ × A))
      → ((r : A) → key r ≡ Some 0) → 0 < family.count → Indexed family image key entries → Within family.slots (slots_in entries)
  -- so there are no more entries than slots
  pub fit : (family : Family) (image : List ℕ) (key : A → Option ℕ) (entries : List (ℕ × A))
      → ((r : A) → key r ≡ Some 0) → 0 < family.count → Indexed family image key entries → length entries ≤ family.slots
