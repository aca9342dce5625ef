-- What a lookup along a chain of an index finds, by a test that each slot answers as its record does.
use Rattle.std.specs.Prelude.{◌≡◌, ℕ, ◌<◌, ◌&&◌, Bool, true, false, List, Option, None, Some, find}
use Rattle.xf_chain.specs.declared.family.Family.{Family}
use Rattle.xf_chain.specs.Chains.{slots_of}
use Rattle.xf_chain.specs.Families.{chain_at}
use Rattle.xf_index.specs.Indexes.{records_in, is_number, Indexed, Holds, AllAre}
use Rattle.xf_index.specs.Finds.{found_in, slot_found, record_found, Found}

pub record FindLaws (A : Type 0) : Type 0 where
  -- the first entry that stands in the chain and passes
  pub walked : (family : Family) (image : List ℕ) (key : A → Option ℕ) (number : ℕ) (at : ℕ → Bool) (test : A → Bool) (entries : List (ℕ × A))
      → number < family.count → Holds at test entries → Indexed family image key entries
      → find at (slots_of (chain_at family number) image) ≡ slot_found (found_in (λ r. is_number number (key r) && test r) entries)
  -- the first of all that passes, where each that passes stands in the chain
  pub own : (family : Family) (image : List ℕ) (key : A → Option ℕ) (number : ℕ) (at : ℕ → Bool) (test : A → Bool) (entries : List (ℕ × A))
      → number < family.count → Holds at test entries → ((r : A) → test r ≡ true → key r ≡ Some number) → Indexed family image key entries
      → find at (slots_of (chain_at family number) image) ≡ slot_found (found_in test entries)
  -- its record is the first of the records that passes
  pub record_is : (test : A → Bool) (entries : List (ℕ × A)) → record_found (found_in test entries) ≡ find test (records_in entries)
  -- it parts the list
  pub splits : (test : A → Bool) (entries : List (ℕ × A)) (slot : ℕ) (r : A) → found_in test entries ≡ Some (slot, r) → Found test slot r entries
  -- where there is none all fail
  pub none : (test : A → Bool) (entries : List (ℕ × A)) → found_in test entries ≡ None → AllAre test false entries
