-- Laws of the numbers that are given in cyclic order: where fewer are taken than there are, the one that is found is free.
use Rattle.std.specs.Prelude.{◌≡◌, ℕ, Bool, true, false, ◌==◌, ◌+◌, ◌*◌, ◌<◌, ◌≤◌, List, None, Some, length}
use Rattle.std.specs.List.{list_any}
use Rattle.xf_types.specs.declared.network.Dir.{Dir}
use Rattle.xf_types.specs.declared.state.AllocSpec.{AllocSpec}
use Rattle.xf_types.specs.declared.state.Sa.{Sa}
use Rattle.xf_types.specs.Machine.{Shown}
use Rattle.xf_types.specs.Same.{dir_number}
use Rattle.xf_types.specs.Counters.{first_free, IsFirstFree}
use Rattle.xf_types.specs.Replay.{is_among}
use Rattle.xf_types.specs.PolicyRules.{last_index, is_index_taken, free_number}
use Rattle.xf_types.specs.StateRules.{is_spi_taken, free_spi, IsLeastFree}
use Rattle.xf_types.specs.FlowRules.{last_seq, free_seq}
use Rattle.xf_types.specs.IsMachine.{IsShownPart}

-- the index of this number and direction
abbrev pub index_of : Dir → ℕ → ℕ
index_of dir k = 8 * k + dir_number dir

-- a listed state has this acquire number
abbrev pub is_seq_taken : Shown → ℕ → Bool
is_seq_taken s seq = list_any (λ x. x.spec.seq == seq) s.states

pub record FreeLaws : Type 0 where
  -- of the numbers 1 to greatest those that are taken are among a list that is shorter, and as many are tried as it is long
  pub first : (taken : ℕ → Bool) (numbers : List ℕ) (greatest k tries : ℕ) → 0 < k → k ≤ greatest
      → length numbers ≤ tries → tries < greatest → ((n : ℕ) → taken n ≡ true → is_among numbers n ≡ true)
      → IsFirstFree taken greatest k (first_free taken greatest k tries)
  -- a fresh index is free, and the first one that is
  pub number_first : (s : Shown) (dir : Dir) → IsShownPart s
      → IsFirstFree (λ k. is_index_taken s (index_of dir k)) last_index s.next_index (free_number s dir)
  pub index_free : (s : Shown) (dir : Dir) → IsShownPart s → is_index_taken s (index_of dir (free_number s dir)) ≡ false
  -- a fresh acquire number too
  pub seq_first : (s : Shown) → IsShownPart s → IsFirstFree (is_seq_taken s) last_seq s.next_seq (free_seq s)
  pub seq_free : (s : Shown) → IsShownPart s → is_seq_taken s (free_seq s) ≡ false
  -- an SPI that is found is the least free one of the range, and where none is found none is free
  pub spi_least : (spec : AllocSpec) (states : List Sa) (spi : ℕ) → free_spi spec states ≡ Some spi
      → IsLeastFree spec states spi
  pub no_spi : (spec : AllocSpec) (states : List Sa) → free_spi spec states ≡ None → (spi : ℕ) → spec.min ≤ spi
      → spi ≤ spec.max → is_spi_taken spec states spi ≡ true
