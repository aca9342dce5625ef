-- The history behind the words: what stands at each number of the draw word.
use Rattle.std.specs.Prelude.{◌≡◌, ℕ, ◌+◌, ◌==◌, ◌<◌, if◌then◌else◌, List, [], ◌∷◌, ◌++◌, Option, Some, None}
use Rattle.xf_types.specs.declared.call.Receipt.{Receipt}
use Rattle.xf_types.specs.Moves.{moves_of}
use Rattle.xf_views.specs.declared.entry.Entry.{Entry}

-- the four numbers that all seats share
pub record Numbers : Type 0 where
  pub ticket : ℕ
  pub serving : ℕ
  pub generation : ℕ
  pub draw : ℕ

-- one number of the draw word: who drew it, the state on whose own part the receipt there rests, and the receipt that stands
-- there. A number without a receipt is blank or a trial's
pub record Mark : Type 0 where
  pub by : ℕ
  pub rests : Option ℕ
  pub receipt : Option Receipt

-- a mark from its parts
abbrev pub mark : ℕ → Option ℕ → Option Receipt → Mark
mark k sid o = record { by = k; rests = sid; receipt = o }

-- what a draw records, with its number and worker
abbrev pub receipt : ℕ → ℕ → Entry → Receipt
receipt n k e = record { number = n; worker = k; at = e.at; call = e.call; reply = e.reply }

-- a receipt before others, where there is one
abbrev pub with_receipt : Option Receipt → List Receipt → List Receipt
with_receipt None rs = rs
with_receipt (Some r) rs = r ∷ rs

-- the receipts that stand, by number: the history
abbrev pub receipts_of : List Mark → List Receipt
receipts_of [] = []
receipts_of (m ∷ ms) = with_receipt m.receipt (receipts_of ms)

-- the moves drawn
abbrev pub moves : List Mark → List Receipt
moves log = moves_of (receipts_of log)

-- the receipts of one worker
abbrev pub by_worker : ℕ → List Mark → List Receipt
by_worker k [] = []
by_worker k (m ∷ ms) = if m.by == k then with_receipt m.receipt (by_worker k ms) else by_worker k ms

-- how many of these tickets the worker drew
abbrev pub tickets_of : ℕ → List ℕ → ℕ
tickets_of k [] = 0
tickets_of k (x ∷ xs) = (if x == k then 1 else 0) + tickets_of k xs

-- how many numbers of the draw word the worker drew
abbrev pub marks_of : ℕ → List Mark → ℕ
marks_of k [] = 0
marks_of k (m ∷ ms) = (if m.by == k then 1 else 0) + marks_of k ms

-- the one list begins the other
abbrev pub IsFront : List Receipt → List Receipt → Type 0
IsFront front whole = (rest : List Receipt) × (front ++ rest ≡ whole)

-- each of these receipts has a number below n
abbrev pub AreBelow : ℕ → List Receipt → Type 0
AreBelow n [] = Unit {0}
AreBelow n (r ∷ rs) = (r.number < n) × AreBelow n rs
