-- Chains by hash whose heads are doubled one head after another. There are twice `half` heads, of which `moved` of the first half were split
-- in two: a hash goes by its remainder by half, or by twice half where that head was split.
use Rattle.std.specs.Prelude.{ℕ, ◌+◌, ◌-◌, ◌%◌, ◌^◌, ◌<◌, ◌≤◌, nat_lt, min, if◌then◌else◌, List, Option, None, Some, Bool, false, ◌==◌, slice_index}
use Rattle.xf_doubling.specs.declared.doubling.Doubling.{Doubling}

-- the head of a hash
abbrev pub head_number : ℕ → ℕ → ℕ → ℕ
head_number half moved hash = if nat_lt (hash % half) moved then hash % (half + half) else hash % half

-- the head of a key, where there is one
abbrev pub head_of : ℕ → ℕ → Option ℕ → Option ℕ
head_of half moved None = None
head_of half moved (Some hash) = Some (head_number half moved hash)

-- how many heads there are for a lookup: the old number as long as some of the old heads aren't split
abbrev pub old_count : ℕ → ℕ → ℕ
old_count half moved = if nat_lt moved half then half else half + half

-- a key's hash goes with another one by this count
abbrev pub in_bucket : ℕ → ℕ → Option ℕ → Bool
in_bucket count hash None = false
in_bucket count hash (Some other) = (other % count) == (hash % count)

-- half as many heads as there are, where the first 8 were doubled so often: at most 2,048
abbrev pub half_in : ℕ → ℕ
half_in word = 2 ^ (2 + min word 9)

-- how far the heads are doubled, by two words from a place on: how often, and how many of the old heads aren't split yet. Any words say some
-- doubling.
abbrev pub doubling_at : List ℕ → ℕ → Doubling
doubling_at image at = record {
  half = half_in (slice_index image at);
  moved = half_in (slice_index image at) - slice_index image (at + 1);
}

-- There are heads, as many as 4,096 at most, and no more are split than there were.
pub record IsDoubling (half moved : ℕ) : Type 0 where
  pub some : 0 < half
  pub most : half ≤ 2048
  pub fits : moved ≤ half
