-- What a doubling makes of an index by hash.
use Rattle.std.specs.Prelude.{◌≡◌, ℕ, ◌+◌, ◌<◌, ◌≤◌, List, Option, filter, length, slice_index}
use Rattle.xf_chain.specs.declared.family.Family.{Family}
use Rattle.xf_chain.specs.Families.{Lays, Outside}
use Rattle.xf_chain.specs.Lists.{Apart, Within}
use Rattle.xf_index.specs.Indexes.{slots_in, records_in, picked, Indexed, Holds}
use Rattle.xf_doubling.specs.Heads.{head_number, head_of, old_count, in_bucket, doubling_at, IsDoubling}
use Rattle.xf_doubling.specs.Splits.{split_of}

-- No word of others tells another key.
pub record RestsOutside (family : Family) (key : List ℕ → ℕ → Option ℕ) : Type 0 where
  pub same : (image words : List ℕ) → ((place : ℕ) → Outside family place → slice_index words place ≡ slice_index image place)
      → (slot : ℕ) → slot < family.slots → key words slot ≡ key image slot

-- The index by the next doubling, and only words of the family written.
pub record Splits {A : Type 0} (family : Family) (half moved : ℕ) (hash : A → Option ℕ) (image words : List ℕ) (entries : List (ℕ × A)) : Type 0 where
  pub index : Indexed family words (λ r. head_of half (moved + 1) (hash r)) entries
  pub size : length words ≡ length image
  pub outside : (place : ℕ) → Outside family place → slice_index words place ≡ slice_index image place

pub record DoublingLaws (A : Type 0) : Type 0 where
  -- one more head is split: each chain has the entries that stand there now, in their order
  pub split : (family : Family) (image : List ℕ) (half moved : ℕ) (key : List ℕ → ℕ → Option ℕ) (hash : A → Option ℕ) (entries : List (ℕ × A))
      → Lays family (length image) → half + half ≤ family.count → moved < half → RestsOutside family key
      → Apart (slots_in entries) → Within family.slots (slots_in entries) → Holds (key image) hash entries
      → Indexed family image (λ r. head_of half moved (hash r)) entries
      → Splits family half moved hash image (split_of family half moved key image) entries
  -- in any words no word of others is written
  pub outside : (family : Family) (half moved : ℕ) (key : List ℕ → ℕ → Option ℕ) (image : List ℕ) (size place : ℕ)
      → Lays family size → half + half ≤ family.count → moved < half → Outside family place
      → slice_index (split_of family half moved key image) place ≡ slice_index image place
  -- a doubling that begins moves nothing
  pub grown : (family : Family) (image : List ℕ) (half : ℕ) (hash : A → Option ℕ) (entries : List (ℕ × A)) → 0 < half
      → Indexed family image (λ r. head_of half half (hash r)) entries → Indexed family image (λ r. head_of (half + half) 0 (hash r)) entries
  -- in a chain stand only those whose hash is equal by the count of heads, or by the old one
  pub short : (half moved hash : ℕ) (key : A → Option ℕ) (entries : List (ℕ × A)) → 0 < half → moved ≤ half
      → length (picked (λ r. head_of half moved (key r)) (head_number half moved hash) entries)
      ≤ length (filter (λ r. in_bucket (old_count half moved) hash (key r)) (records_in entries))
  -- there are twice half heads
  pub below : (half moved hash : ℕ) → 0 < half → head_number half moved hash < half + half
  -- any words say some doubling
  pub sound : (image : List ℕ) (at : ℕ) → IsDoubling (doubling_at image at).half (doubling_at image at).moved
