-- Where the words of the policies lie. They are areas in a row, with n slots from a place on:
--
--   7            the index counter and the number of the next policy, each less 1; what the thresholds lack to a whole address, of
--                IPv4 and then of IPv6, of the local prefix and then of the remote one; how many policies are listed
--   1 + n        a chain of all, in the order of the list
--   1 + n        a chain of all, the last first
--   1,024 + n    chains of those that are found by exact match, by their hash
--   1,024 + n    chains of all, by their index
--   n            the priorities
--   n            the numbers
--   104 * n      the records
--
-- A chain's head comes before its links. A record takes 101 words: the last three of a slot belong to none.
use Rattle.std.specs.Prelude.{ℕ, ◌+◌, ◌*◌, ◌^◌, ◌<◌, ◌≤◌, List, Option}
use Rattle.xf_types.specs.declared.policy.Policy.{Policy}
use Rattle.xf_chain.specs.declared.column.Column.{Column}
use Rattle.xf_chain.specs.declared.family.Family.{Family}
use Rattle.xf_chain.specs.Columns.{cell_of}
use Rattle.xf_records.specs.Policies.{policy_at}
use Rattle.xf_image.specs.declared.area.PolicyArea.{PolicyArea}

-- the index counter, less 1
abbrev pub next_index_place : PolicyArea → ℕ
next_index_place a = a.base

-- the number of the next policy, less 1
abbrev pub next_number_place : PolicyArea → ℕ
next_number_place a = a.base + 1

-- the first of four words, what the thresholds lack
abbrev pub thresholds_place : PolicyArea → ℕ
thresholds_place a = a.base + 2

-- how many policies are listed
abbrev pub count_place : PolicyArea → ℕ
count_place a = a.base + 6

-- the chain of all, in the order of the list
abbrev pub order_of : PolicyArea → Family
order_of a = record { heads = a.base + 7; count = 1; links = a.base + 8; slots = a.slots }

-- the chain of all, the last first
abbrev pub back_of : PolicyArea → Family
back_of a = record { heads = a.base + 8 + a.slots; count = 1; links = a.base + 9 + a.slots; slots = a.slots }

-- the chains of those that are found by exact match, by their hash
abbrev pub exact_of : PolicyArea → Family
exact_of a = record { heads = a.base + 9 + 2 * a.slots; count = 1024; links = a.base + 1033 + 2 * a.slots; slots = a.slots }

-- the chains of all, by their index
abbrev pub indices_of : PolicyArea → Family
indices_of a = record { heads = a.base + 1033 + 3 * a.slots; count = 1024; links = a.base + 2057 + 3 * a.slots; slots = a.slots }

-- the priorities
abbrev pub priorities_of : PolicyArea → Column
priorities_of a = record { start = a.base + 2057 + 4 * a.slots; slots = a.slots }

-- the numbers
abbrev pub numbers_of : PolicyArea → Column
numbers_of a = record { start = a.base + 2057 + 5 * a.slots; slots = a.slots }

-- where the priority of a slot stands
abbrev pub priority_place : PolicyArea → ℕ → ℕ
priority_place a slot = cell_of (priorities_of a) slot

-- where its number stands
abbrev pub number_place : PolicyArea → ℕ → ℕ
number_place a slot = cell_of (numbers_of a) slot

-- where its record begins
abbrev pub record_place : PolicyArea → ℕ → ℕ
record_place a slot = a.base + 2057 + 6 * a.slots + 104 * slot

-- the first place behind these words
abbrev pub end_of : PolicyArea → ℕ
end_of a = a.base + 2057 + 110 * a.slots

-- the record of a slot
abbrev pub record_at : PolicyArea → List ℕ → ℕ → Option Policy
record_at a image slot = policy_at image (record_place a slot)

-- an area has 1 to 4,096 slots, and begins so low that each of its places is a number of 32 bits
pub record IsArea (a : PolicyArea) : Type 0 where
  pub base : a.base < 2 ^ 24
  pub some : 1 ≤ a.slots
  pub most : a.slots ≤ 4096

-- an area lies in so many words
pub record Fits (a : PolicyArea) (size : ℕ) : Type 0 where
  pub area : IsArea a
  pub words : end_of a ≤ size
  pub fits : size < 2 ^ 32
