-- The part on reads that were overtaken, and on how many moves stand since a seat's last receipt.
use Rattle.std.specs.Prelude.{◌≡◌, ℕ, ◌-◌, ◌*◌, ◌%◌, ◌<◌, ◌≤◌, Bool, true, List, [], ◌∷◌, length, Option, Some}
use mathlib.Core.Option.{some}
use lib.ListN.{get_elem?}
use Rattle.xf_types.specs.declared.call.Receipt.{Receipt}
use Rattle.xf_types.specs.History.{moves_since}
use Rattle.xf_views.specs.declared.view.View.{View}
use Rattle.xf_views.specs.Log.{Mark, receipts_of, moves}

-- the receipts so far after these, the latest first
abbrev pub past_after : List Receipt → List Receipt → List Receipt
past_after past [] = past
past_after past (r ∷ rs) = past_after (r ∷ past) rs

-- the moves that stand since the worker's last receipt
abbrev pub since : ℕ → List Mark → ℕ
since k log = moves_since k (past_after [] (receipts_of log))

-- the generation that stands for the moves before it
abbrev pub before_last : ℕ → List Mark → ℕ
before_last k log = 2 * (length (moves log) - since k log)

-- reads one after another, from a first generation on up to a last one: each began even, and ended at a later generation
abbrev pub AreOvertaken : ℕ → List (ℕ × ℕ) → ℕ → Type 0
AreOvertaken low [] high = Unit {0}
AreOvertaken low (p ∷ ps) high = (p.0 % 2 ≡ 0) × (low ≤ p.0) × (p.0 < p.1) × (p.1 ≤ high) × AreOvertaken p.1 ps high

-- what is said of one seat: the reads that it counts began after its last receipt, and ended by now; and where the current one began after it,
-- and even, they ended by then
pub record FitsAgain (generation : ℕ) (log : List Mark) (k : ℕ) (anew : Bool) (began : Option ℕ) (pairs : List (ℕ × ℕ)) : Type 0 where
  pub counted : AreOvertaken (before_last k log) pairs generation
  pub current : (b : ℕ) → anew ≡ true → began ≡ Some b → b % 2 ≡ 0 → (before_last k log ≤ b) × AreOvertaken (before_last k log) pairs b

abbrev pub IsInAgain : ℕ → List Mark → View → Type 0
IsInAgain generation log v = FitsAgain generation log v.worker v.knows.anew v.hand.began v.knows.overtaken

pub record AgainPart (generation : ℕ) (log : List Mark) (views : List View) : Type 0 where
  pub each : (i : ℕ) (v : View) → get_elem? views i ≡ some v → v.here ≡ true → IsInAgain generation log v
