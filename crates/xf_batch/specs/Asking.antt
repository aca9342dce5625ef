-- What a logical line asks for where it stands, and what is left behind it.
use Rattle.std.specs.Prelude.{◌≡◌, ◌⊎◌, ℕ, ◌<◌, Bool, true, false, List, [], ◌∷◌, ◌++◌, length, take, drop, Option, None, Some, Result, Ok, Err}
use Rattle.xf_types.specs.declared.status.Reason.{Reason}
use Rattle.xf_lex.specs.LogicalLines.{lines_of}
use Rattle.xf_grammar.specs.declared.head.Head.{Head}
use Rattle.xf_grammar.specs.declared.row.Field.{Field}
use Rattle.xf_read.specs.declared.reader.Item.{Item}
use Rattle.xf_read.specs.declared.reader.Unread.{Unread}
use Rattle.xf_read.specs.Items.{asked_by, line_item}
use Rattle.xf_batch.specs.declared.fault.PhaseFault.{PhaseFault}
use Rattle.xf_batch.specs.declared.fault.PhaseFault.TheVariants as fault
use Rattle.xf_batch.specs.declared.items.Asked.{Asked}
use Rattle.xf_batch.specs.Batch.{behind, judged, passes_limit}
use Rattle.xf_batch.specs.Coming.{Breaks, ReadsOn, seen_to_come}
use Rattle.xf_batch.specs.LineEnds.{has_feed}
use Rattle.xf_batch.specs.Reading.{MayFollow, standing, unread_bytes}

-- a line is read as what its head asks for with its fields, or as its fault with the line's number, want of memory aside
abbrev pub GivesJudged : Result (Option Head) PhaseFault → List Field → ℕ → Result Item Reason → Type 0
GivesJudged (Ok head) fields number read = read ≡ asked_by head fields
GivesJudged (Err (fault.Bad line why)) fields number read = (line ≡ number) × (read ≡ Err why)
GivesJudged (Err fault.ReadFault) fields number read = ⊥
GivesJudged (Err fault.NoMemory) fields number read = Unit {0}

-- a line of so many unread bytes was taken
pub record Takes (old new : Unread) (size : ℕ) : Type 0 where
  pub bytes : unread_bytes new ≡ drop size (unread_bytes old)
  pub behind : standing new ≡ behind (standing old) (take size (unread_bytes old))
  pub ended : new.ended ≡ old.ended

-- all was read, and nothing is unread
pub record IsAllRead (u : Unread) : Type 0 where
  pub ended : u.ended ≡ true
  pub none : unread_bytes u ≡ []

-- there is no further line
pub record IsNoLine (old new : Unread) (left_old left_new : Option (List ℕ)) (faults_old faults_new : ℕ) : Type 0 where
  pub piece : List ℕ
  pub read_on : ReadsOn old true piece left_old left_new faults_old faults_new
  pub all : IsAllRead new
  pub bytes : unread_bytes old ++ piece ≡ []
  pub stands : standing new ≡ standing old

-- a line feed ended the line, or the input's end, behind which nothing is unread
abbrev pub EndsLine : List ℕ → Unread → Type 0
EndsLine line new = ((has_feed line ≡ true) × (new.ended ≡ false)) ⊎ ((has_feed line ≡ false) × IsAllRead new)

-- the next line is read as this, and it was taken
pub record IsAsked (old new : Unread) (left_old left_new : Option (List ℕ)) (faults_old faults_new : ℕ) (asked : Asked) (read : Result Item Reason)
    : Type 0 where
  pub piece : List ℕ
  pub read_on : ReadsOn old new.ended piece left_old left_new faults_old faults_new
  pub line : List ℕ
  pub some : 0 < length line
  pub bytes : unread_bytes old ++ piece ≡ line ++ unread_bytes new
  pub stands : standing new ≡ behind (standing old) line
  pub number : asked.line ≡ old.line
  pub item : judged (passes_limit (standing old) line) (line_item line) ≡ read
  pub ends : EndsLine line new
  pub lines : (rest : List ℕ) → MayFollow new.ended rest → lines_of (seen_to_come old (piece ++ rest)) ≡ line ∷ lines_of (seen_to_come new rest)

-- the next line is bad
pub record IsBadLine (old : Unread) (why : Reason) (rest : List ℕ) : Type 0 where
  pub line : List ℕ
  pub others : List (List ℕ)
  pub lines : lines_of (seen_to_come old rest) ≡ line ∷ others
  pub fault : judged (passes_limit (standing old) line) (line_item line) ≡ Err why

-- it is, whatever follows what was read
pub record IsBadNext (old : Unread) (left_old left_new : Option (List ℕ)) (faults_old faults_new line : ℕ) (why : Reason) : Type 0 where
  pub piece : List ℕ
  pub ended : Bool
  pub read_on : ReadsOn old ended piece left_old left_new faults_old faults_new
  pub number : line ≡ old.line
  pub bad : (rest : List ℕ) → MayFollow ended rest → IsBadLine old why (piece ++ rest)

-- what is said of the next line and of its fields, want of memory aside
abbrev pub Asks : Unread → Unread → Option (List ℕ) → Option (List ℕ) → ℕ → ℕ → List Field → Result (Option Asked) PhaseFault → Type 0
Asks old new left_old left_new faults_old faults_new fields (Ok None) = IsNoLine old new left_old left_new faults_old faults_new
Asks old new left_old left_new faults_old faults_new fields (Ok (Some asked)) =
    IsAsked old new left_old left_new faults_old faults_new asked (asked_by asked.head fields)
Asks old new left_old left_new faults_old faults_new fields (Err (fault.Bad line why)) =
    IsBadNext old left_old left_new faults_old faults_new line why
Asks old new left_old left_new faults_old faults_new fields (Err fault.ReadFault) = Breaks old left_old left_new
Asks old new left_old left_new faults_old faults_new fields (Err fault.NoMemory) = Unit {0}
