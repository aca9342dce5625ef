-- Where the words of the states lie. They are areas in a row, with n slots from a place on:
--
--   3            the acquire counter and the id of the next state, each less 1; how many states are listed
--   1 + n        a chain of all, in the order of adding
--   1 + n        a chain of all, the last first
--   2            how often the heads of the chains by hash were doubled, and how many of the old heads aren't split yet
--   4,096 + n    chains by SPI, with destination and protocol, the last state first
--   4,096 + n    chains by destination and request id, likewise
--   4,096 + n    chains by sequence number, of those where it isn't 0, likewise
--   48 * n       the records
--
-- A chain's head comes before its links. A record takes 46 words: the last two of a slot belong to none.
use Rattle.std.specs.Prelude.{ℕ, ◌+◌, ◌*◌, ◌^◌, ◌<◌, ◌≤◌, List, Option}
use Rattle.xf_types.specs.declared.state.Sa.{Sa}
use Rattle.xf_chain.specs.declared.family.Family.{Family}
use Rattle.xf_records.specs.States.{state_at}
use Rattle.xf_doubling.specs.declared.doubling.Doubling.{Doubling}
use Rattle.xf_doubling.specs.Heads as heads
use Rattle.xf_sadidx.specs.declared.area.StateArea.{StateArea}
use Rattle.xf_sadidx.specs.declared.kind.Kind.{Kind}
use Rattle.xf_sadidx.specs.declared.kind.Kind.TheVariants.{Spi, Route, Seq}

-- the acquire counter, less 1
abbrev pub next_seq_place : StateArea → ℕ
next_seq_place a = a.base

-- the id of the next state, less 1
abbrev pub next_sid_place : StateArea → ℕ
next_sid_place a = a.base + 1

-- how many states are listed
abbrev pub count_place : StateArea → ℕ
count_place a = a.base + 2

-- the first of two words: how often the heads were doubled, and how many of the old ones aren't split yet
abbrev pub doubling_place : StateArea → ℕ
doubling_place a = a.base + 5 + 2 * a.slots

-- the chain of all, in the order of adding
abbrev pub order_of : StateArea → Family
order_of a = record { heads = a.base + 3; count = 1; links = a.base + 4; slots = a.slots }

-- the chain of all, the last first
abbrev pub back_of : StateArea → Family
back_of a = record { heads = a.base + 4 + a.slots; count = 1; links = a.base + 5 + a.slots; slots = a.slots }

-- the chains of a kind
abbrev pub chains_of : StateArea → Kind → Family
chains_of a Spi = record { heads = a.base + 7 + 2 * a.slots; count = 4096; links = a.base + 4103 + 2 * a.slots; slots = a.slots }
chains_of a Route = record { heads = a.base + 4103 + 3 * a.slots; count = 4096; links = a.base + 8199 + 3 * a.slots; slots = a.slots }
chains_of a Seq = record { heads = a.base + 8199 + 4 * a.slots; count = 4096; links = a.base + 12295 + 4 * a.slots; slots = a.slots }

-- the first of the words of these chains, and the first behind them
abbrev pub chains_start : StateArea → ℕ
chains_start a = a.base + 7 + 2 * a.slots

abbrev pub chains_end : StateArea → ℕ
chains_end a = a.base + 12295 + 5 * a.slots

-- where the record of a slot begins
abbrev pub record_place : StateArea → ℕ → ℕ
record_place a slot = a.base + 12295 + 5 * a.slots + 48 * slot

-- the state in a slot
abbrev pub record_at : StateArea → List ℕ → ℕ → Option Sa
record_at a image slot = state_at image (record_place a slot)

-- how far the heads are doubled
abbrev pub doubling_in : StateArea → List ℕ → Doubling
doubling_in a image = heads.doubling_at image (doubling_place a)

-- the first place behind the words
abbrev pub end_of : StateArea → ℕ
end_of a = a.base + 12295 + 53 * a.slots

-- an area of 1 to 8,192 states
pub record IsArea (a : StateArea) : Type 0 where
  pub base : a.base < 2 ^ 24
  pub some : 1 ≤ a.slots
  pub most : a.slots ≤ 8192

-- an area lies in so many words
pub record Fits (a : StateArea) (size : ℕ) : Type 0 where
  pub area : IsArea a
  pub words : end_of a ≤ size
  pub fits : size < 2 ^ 32
