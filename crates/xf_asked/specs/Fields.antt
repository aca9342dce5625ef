-- Single words of a record.
use Rattle.std.specs.Prelude.{ℕ, ◌+◌, Bool, List, slice_index}
use Rattle.xf_records.specs.Codes.{small_in, flag_in}

-- the priority of the policy at a place
abbrev pub priority_at : List ℕ → ℕ → ℕ
priority_at image at = small_in (slice_index image (at + 15))

-- its number
abbrev pub number_at : List ℕ → ℕ → ℕ
number_at image at = slice_index image (at + 16)

-- the state id of the state at a place
abbrev pub sid_at : List ℕ → ℕ → ℕ
sid_at image at = slice_index image (at + 16)

-- when it was added
abbrev pub added_at : List ℕ → ℕ → ℕ
added_at image at = slice_index image (at + 17)

-- it is larval
abbrev pub larval_at : List ℕ → ℕ → Bool
larval_at image at = flag_in (slice_index image (at + 14))

-- it is dying
abbrev pub dying_at : List ℕ → ℕ → Bool
dying_at image at = flag_in (slice_index image (at + 15))
