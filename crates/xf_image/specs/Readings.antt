-- What the header tells of any words. Where they stand for a policy list, it is what the machine shows.
use Rattle.std.specs.Prelude.{ℕ, ◌+◌, ◌-◌, min, List, slice_index}
use Rattle.xf_types.specs.PolicyRules.{last_index}
use Rattle.xf_cells.specs.Words.{next_count}
use Rattle.xf_chain.specs.Chains.{slots_of}
use Rattle.xf_chain.specs.Families.{chain_at}
use Rattle.xf_image.specs.declared.area.PolicyArea.{PolicyArea}
use Rattle.xf_image.specs.Layout.{next_index_place, next_number_place, thresholds_place, order_of}

-- the index counter, which is one of 1 to the greatest
abbrev pub next_index_in : PolicyArea → List ℕ → ℕ
next_index_in a image = min (slice_index image (next_index_place a)) (last_index - 1) + 1

-- the number of the next policy
abbrev pub next_number_in : PolicyArea → List ℕ → ℕ
next_number_in a image = next_count (slice_index image (next_number_place a))

-- the thresholds of IPv4, for the local prefix and for the remote one
abbrev pub hthresh4_in : PolicyArea → List ℕ → ℕ × ℕ
hthresh4_in a image = (32 - slice_index image (thresholds_place a), 32 - slice_index image (thresholds_place a + 1))

-- and those of IPv6
abbrev pub hthresh6_in : PolicyArea → List ℕ → ℕ × ℕ
hthresh6_in a image = (128 - slice_index image (thresholds_place a + 2), 128 - slice_index image (thresholds_place a + 3))

-- the slots of all policies, in order
abbrev pub listed_in : PolicyArea → List ℕ → List ℕ
listed_in a image = slots_of (chain_at (order_of a) 0) image
