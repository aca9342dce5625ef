-- The statuses of slots, and the ids that count changes.
use Rattle.std.specs.Prelude.{◌≡◌, ◌≢◌, ℕ, ◌+◌, ◌%◌, ◌==◌, ◌&&◌, ◌<◌, Bool, nat_le, nat_lt, List, All, length, slice_index, Option, None, if◌then◌else◌}
use Rattle.xf_types.specs.declared.state.Sa.{Sa}
use Rattle.xf_types.specs.ChangeIds.{ChangeIds}
use Rattle.xf_chain.specs.Lists.{Misses}
use Rattle.xf_sadidx.specs.Keys.{route_hash}
use Rattle.xf_meaning.specs.Places.{bucket_count, policy_id_place, bucket_ids_place}

-- of so many slots from a first one on, just these have the status of a listed one
pub record AreMarked (first size : ℕ) (image : List ℕ) (slots : List ℕ) : Type 0 where
  pub listed : All (λ slot. slice_index image (first + slot) ≡ 1) slots
  pub others : (slot : ℕ) → slot < size → Misses slot slots → slice_index image (first + slot) ≢ 1

-- the slot is one of so many from a first one on, and has the status of a listed one
abbrev pub is_marked : ℕ → ℕ → List ℕ → ℕ → Bool
is_marked first size image slot = nat_le first slot && nat_lt slot (first + size) && (slice_index image slot == 1)

-- what is read of such a slot
abbrev pub told_at : {B : Type 0} → ℕ → ℕ → List ℕ → (ℕ → Option B) → ℕ → Option B
told_at first size image read slot = if is_marked first size image slot then read slot else None

-- the bucket of a state, by its destination and its request id
abbrev pub bucket_of : Sa → ℕ
bucket_of x = route_hash x.spec.dst x.spec.reqid % bucket_count

-- the words of the ids tell these
pub record AreIds (p s : ℕ) (image : List ℕ) (ids : ChangeIds) : Type 0 where
  pub of_policies : slice_index image (policy_id_place p s) ≡ ids.of_policies
  pub count : length ids.of_buckets ≡ bucket_count
  pub of_buckets : (bucket : ℕ) → bucket < bucket_count
      → slice_index image (bucket_ids_place p s + bucket) ≡ slice_index ids.of_buckets bucket
