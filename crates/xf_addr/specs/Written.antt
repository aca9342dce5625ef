-- The rules of the written form of an IPv6 address (RFC 5952, 4).
use Rattle.std.specs.Prelude.{◌≡◌, ℕ, ◌+◌, ◌≤◌, ◌⊎◌, List, ◌++◌, length, take, drop, replicate, slice_index, codes, All}
use Rattle.std.specs.Int.{IsInRange}
use Rattle.std.specs.Net.Grammar.{IsGroup}
use Rattle.std.specs.Net.Text.{groups_text}

-- one to four hexadecimal digits, none of them `A` to `F`, and none a leading zero (RFC 5952, 4.1 and 4.3)
pub record IsWrittenGroup (text : List ℕ) (group : ℕ) : Type 0 where
  pub spelled : IsGroup text group
  pub lower : All (λ c. ¬ (IsInRange 65 70 c)) text
  pub no_leading_zero : slice_index text 0 ≡ 48 → length text ≡ 1

-- zeros stand in the groups from start on, len of them
abbrev pub IsZeroRun : List ℕ → ℕ → ℕ → Type 0
IsZeroRun groups start len = (start + len ≤ length groups) × (take len (drop start groups) ≡ replicate len 0)

-- the run that is written `::`: two zero groups or more, none longer, and none as long before it (RFC 5952, 4.2)
pub record IsElidedRun (groups : List ℕ) (start len : ℕ) : Type 0 where
  pub zeros : IsZeroRun groups start len
  pub two : 2 ≤ len
  pub longest : (other_start other_len : ℕ) → IsZeroRun groups other_start other_len → other_len ≤ len
  pub first : (other_start : ℕ) → IsZeroRun groups other_start len → start ≤ other_start

-- no two zero groups stand side by side
abbrev pub HasNoRun : List ℕ → Type 0
HasNoRun groups = (start len : ℕ) → IsZeroRun groups start len → len ≤ 1

-- the groups before a run and those after it, with `::` between
abbrev pub elided_text : List ℕ → ℕ → ℕ → List ℕ
elided_text groups start len = groups_text (take start groups) ++ codes "::" ++ groups_text (drop (start + len) groups)

-- all groups with colons between them; or the longest run written `::`, the first of equal ones
abbrev pub IsWritten : List ℕ → List ℕ → Type 0
IsWritten text groups =
    (HasNoRun groups × (text ≡ groups_text groups))
    ⊎ ((start len : ℕ) × IsElidedRun groups start len × (text ≡ elided_text groups start len))
