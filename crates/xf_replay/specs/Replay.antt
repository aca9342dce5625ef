-- Which numbers a state accepts (RFC 4303, 3.4.3).
use Rattle.std.specs.Prelude.{◌≡◌, ℕ, zero, suc, Bool, true, false, ◌||◌, ◌&&◌, ◌⊎◌, ◌==◌, ◌+◌, ◌-◌, ◌<◌, ◌≤◌, nat_le, max, List, [], ◌∷◌, filter, IsTrue, if◌then◌else◌}
use Rattle.std.specs.List.{list_any}
use Rattle.xf_replay.specs.declared.window.Check.{Check}
use Rattle.xf_replay.specs.declared.window.Check.TheVariants.{Fresh, Zero, Old, Seen}

-- the number is in the list
abbrev pub is_among : List ℕ → ℕ → Bool
is_among numbers n = list_any (λ m. m == n) numbers

-- a number counts as accepted where it lies in 1 to start or in the list
abbrev pub counts_as_accepted : ℕ → List ℕ → ℕ → Type 0
counts_as_accepted start numbers n = ((1 ≤ n) × (n ≤ start)) ⊎ IsTrue (is_among numbers n)

-- the greatest accepted number, or 0
abbrev pub top : List ℕ → ℕ
top [] = 0
top (n ∷ numbers) = max n (top numbers)

-- with window 0 each number is fresh; else 0 is zero, one behind the window is old, and one in it is seen or fresh
abbrev pub replay_check : ℕ → List ℕ → ℕ → Check
replay_check window accepted n =
    if window == 0 then Fresh
    else if n == 0 then Zero
    else if nat_le n (top accepted) && nat_le window (top accepted - n) then Old
    else if is_among accepted n then Seen
    else Fresh

-- the number is the greatest of a set, or 0 where the set has none
pub record IsTop (set : ℕ → Bool) (top : ℕ) : Type 0 where
  pub among : 0 < top → set top ≡ true
  pub above : (n : ℕ) → top < n → set n ≡ false

-- two sets are alike for a window where their tops are equal and they have the same numbers above top - window
pub record AreAlike (window : ℕ) (a b : ℕ → Bool) (top : ℕ) : Type 0 where
  pub top_a : IsTop a top
  pub top_b : IsTop b top
  pub above : (n : ℕ) → 0 < n → top < n + window → a n ≡ b n

-- the numbers from n down, count of them, as far as 1
abbrev pub downwards : ℕ → ℕ → List ℕ
downwards n zero = []
downwards zero (suc count) = []
downwards (suc n) (suc count) = suc n ∷ downwards n count

-- the accepted numbers in the window, the greatest first: one list for all sets that are alike. With window 0 the top alone
abbrev pub in_window : ℕ → (ℕ → Bool) → ℕ → List ℕ
in_window window is_accepted top = filter is_accepted (downwards top (max window 1))

-- the numbers 1 to start are accepted, as far as the window tells
abbrev pub accepted_to : ℕ → ℕ → List ℕ
accepted_to window start = downwards start (max window 1)

-- one more number is accepted
abbrev pub accepted_with : ℕ → List ℕ → ℕ → List ℕ
accepted_with window accepted n =
    in_window window (λ m. (m == n) || is_among accepted m) (max n (top accepted))
