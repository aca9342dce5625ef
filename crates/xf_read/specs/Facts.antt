-- The facts that a reader keeps.
use Rattle.std.specs.Prelude.{◌≡◌, ℕ, ◌+◌, ◌≤◌, ◌^◌, Bool, true, List, length}

-- how many bytes an input may have
abbrev pub input_limit : ℕ
input_limit = 2 ^ 32

-- no more bytes were taken than were given, a physical line has a byte at least, and no line reaches past the limit
pub record IsUnread (bytes : List ℕ) (taken line before : ℕ) : Type 0 where
  pub within : taken ≤ length bytes
  pub numbered : line ≤ before + 1
  pub limited : before ≤ input_limit

-- between the phases nothing is unread where the end was read
pub record IsBetween (bytes : List ℕ) (taken : ℕ) (ended : Bool) : Type 0 where
  pub all : ended ≡ true → taken ≡ length bytes
