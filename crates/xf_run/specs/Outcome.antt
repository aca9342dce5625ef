-- What each status of a run says.
use Rattle.std.specs.Prelude.{◌≡◌, ◌≢◌, ◌⊎◌, ℕ, ◌+◌, ◌<◌, ◌^◌, Bool, true, false, List, [], ◌∷◌, ◌++◌, length, map, Option, None, Some, IfSome}
use Rattle.std.specs.Io.KnownBytes.{Appends, Consumes}
use Rattle.xf_types.specs.declared.call.Receipt.{Receipt}
use Rattle.xf_types.specs.declared.status.Reason.{Reason}
use Rattle.xf_types.specs.declared.status.Status.{Status}
use Rattle.xf_types.specs.declared.status.Status.TheVariants as status
use Rattle.xf_types.specs.Steps.{empty}
use Rattle.xf_types.specs.Batch.{WorkerLine, IsShuffle, threads_of}
use Rattle.xf_types.specs.History.{AreLegalHistories, IsUncontended, has_refusal, joined}
use Rattle.xf_types.specs.Acceptance.{AcceptsOnce}
use Rattle.xf_batch.specs.Batch.{Batch, batch_of, whole_batch_of}
use Rattle.xf_print.specs.Receipts.{text_of}
use Rattle.xf_print.specs.BadLine.{bad_line_text}

-- histories of one thread, one for each phase: the first is legal from the empty machine, each further one from the machine that those
-- before it leave; the calls are those of the phases, each once and in order, and no reply comes of other threads; so each is what the
-- lists answer there, or want of memory. Over all of them no state with a replay window accepts a number twice (RFC 4303, 3.4.3)
pub record AreHistoriesOf (phases : List (List WorkerLine)) (histories : List (List Receipt)) : Type 0 where
  pub legal : AreLegalHistories (empty 4096 8192) histories
  pub shuffle : IsShuffle (map (threads_of 1) phases) histories
  pub uncontended : IsUncontended (joined histories)
  pub once : AcceptsOnce (empty 4096 8192) (joined histories)

-- the text has grown by the front of a text
pub record PartOf (whole : List ℕ) (old new : Option (List ℕ)) : Type 0 where
  pub front : List ℕ
  pub more : List ℕ
  pub is_front : front ++ more ≡ whole
  pub text : Appends old new front

-- the first ones of these phases, the last of them perhaps cut off behind one of its lines
abbrev pub AreFirst : List (List WorkerLine) → List (List WorkerLine) → Type 0
AreFirst [] phases = Unit {0}
AreFirst (p ∷ ps) [] = ⊥
AreFirst (p ∷ []) (q ∷ qs) = (rest : List WorkerLine) × (p ++ rest ≡ q)
AreFirst (p ∷ next ∷ ps) (q ∷ qs) = (p ≡ q) × AreFirst (next ∷ ps) qs

-- all phases were answered: the text has grown by that of histories of them, and by this behind it
pub record Answered (phases : List (List WorkerLine)) (refused : Bool) (behind : List ℕ) (old new : Option (List ℕ)) : Type 0 where
  pub histories : List (List Receipt)
  pub are_histories : AreHistoriesOf phases histories
  pub text : Appends old new (text_of (joined histories) ++ behind)
  pub refusals : has_refusal (joined histories) ≡ refused

-- the batch has no bad line, the clock was asked once for each of its phases, and all of them were answered
pub record Ends (b : Batch) (asked : ℕ) (refused : Bool) (old new : Option (List ℕ)) : Type 0 where
  pub good : b.bad ≡ None
  pub asked_each : asked ≡ length b.phases
  pub answered : Answered b.phases refused [] old new

-- the first bad line is this one: the phases before its own were answered, and its text stands behind theirs
pub record Reports (b : Batch) (asked line : ℕ) (reason : Reason) (old new : Option (List ℕ)) : Type 0 where
  pub is_bad : b.bad ≡ Some (record { line = line; reason = reason })
  pub asked_each : asked ≡ length b.phases + 1
  pub refused : Bool
  pub answered : Answered b.phases refused (bad_line_text line reason) old new

-- the first phases were answered, and nothing of what follows them, a further phase or a bad line. They are those that were read whole:
-- of the bytes that were taken, the lines that are whole, whatever follows, are those of the first phases with a `sync` behind each, and a
-- part of the next phase, without a bad line
pub record StopsBetween (b : Batch) (answers : ℕ → ℕ) (input : List ℕ) (left : Option (List ℕ)) (asked : ℕ) (old new : Option (List ℕ))
    : Type 0 where
  pub first : List (List WorkerLine)
  pub rest : List (List WorkerLine)
  pub is_front : first ++ rest ≡ b.phases
  pub follows : (rest ≢ []) ⊎ (b.bad ≢ None)
  pub taken : List ℕ
  pub consumed : Consumes (Some input) left taken
  pub part : List WorkerLine
  pub whole : whole_batch_of answers taken ≡ record { phases = first ++ part ∷ []; synced = false; bad = None }
  pub asked_each : asked ≡ length first + 1
  pub refused : Bool
  pub answered : Answered first refused [] old new

-- the first lines were answered, up to some line, and their text stands whole. The clock was asked once for each of their phases, and
-- perhaps once more, for the phase behind them
pub record StopsBehindLine (b : Batch) (asked : ℕ) (old new : Option (List ℕ)) : Type 0 where
  pub first : List (List WorkerLine)
  pub are_first : AreFirst first b.phases
  pub asked_each : (asked ≡ length first) ⊎ (asked ≡ length first + 1)
  pub refused : Bool
  pub answered : Answered first refused [] old new

-- a front stands of the text of the first lines
pub record StopsWithinText (b : Batch) (asked : ℕ) (old new : Option (List ℕ)) : Type 0 where
  pub first : List (List WorkerLine)
  pub are_first : AreFirst first b.phases
  pub asked_each : asked ≡ length first
  pub histories : List (List Receipt)
  pub are_histories : AreHistoriesOf first histories
  pub part : PartOf (text_of (joined histories)) old new

-- all phases were answered, and a front stands of the text of the bad line behind them
pub record StopsWithinReport (b : Batch) (asked : ℕ) (old new : Option (List ℕ)) : Type 0 where
  pub line : ℕ
  pub reason : Reason
  pub is_bad : b.bad ≡ Some (record { line = line; reason = reason })
  pub asked_each : asked ≡ length b.phases + 1
  pub histories : List (List Receipt)
  pub are_histories : AreHistoriesOf b.phases histories
  pub part : PartOf (text_of (joined histories) ++ bad_line_text line reason) old new

-- what the status says of the batch of the input by the clock's answers, and of the text before and after, where the clock was asked so
-- often, and the source still has what is left
abbrev pub Outcome : Status → (ℕ → ℕ) → List ℕ → Option (List ℕ) → ℕ → Option (List ℕ) → Option (List ℕ) → Type 0
Outcome status.Done answers input left asked old new = Ends (batch_of answers input) asked false old new
Outcome status.Refusals answers input left asked old new = Ends (batch_of answers input) asked true old new
Outcome status.Usage answers input left asked old new = ⊥
Outcome (status.BadLine line reason) answers input left asked old new = Reports (batch_of answers input) asked line reason old new
Outcome status.ReadFault answers input left asked old new = StopsBetween (batch_of answers input) answers input left asked old new
Outcome status.WriteFault answers input left asked old new =
    StopsWithinText (batch_of answers input) asked old new ⊎ StopsWithinReport (batch_of answers input) asked old new
Outcome status.NoMemory answers input left asked old new = StopsBehindLine (batch_of answers input) asked old new

-- a clock that tells its answers has these left after so many
abbrev pub HasLeft : Option (ℕ → ℕ) → Option (ℕ → ℕ) → ℕ → Type 0
HasLeft None later asked = Unit {0}
HasLeft (Some f) None asked = ⊥
HasLeft (Some f) (Some g) asked = (k : ℕ) → g k ≡ f (k + asked)

-- the clock's answers, each a number of 64 bits: where it tells them, they are the next ones, and no other was taken
pub record ClockAnswers (coming later : Option (ℕ → ℕ)) (asked : ℕ) (answers : ℕ → ℕ) : Type 0 where
  pub in_range : (k : ℕ) → k < asked → answers k < 2 ^ 64
  pub given : IfSome coming (λ f. (k : ℕ) → k < asked → answers k ≡ f k)
  pub left : HasLeft coming later asked

-- a run may end in this status, whatever the source tells: not in the one of words that are no command
abbrev pub IsRunStatus : Status → Type 0
IsRunStatus status.Usage = ⊥
IsRunStatus _ = Unit {0}

-- by the clock's answers, one for each phase that was begun, the outcome is this, where the source tells its bytes
pub record IsOutcome (s : Status) (coming later : Option (ℕ → ℕ)) (left_old left_new old new : Option (List ℕ)) : Type 0 where
  pub may_end : IsRunStatus s
  pub answers : ℕ → ℕ
  pub asked : ℕ
  pub clock : ClockAnswers coming later asked answers
  pub outcome : IfSome left_old (λ input. Outcome s answers input left_new asked old new)

-- all was read and answered
abbrev pub IsEnd : Status → Type 0
IsEnd s = (s ≡ status.Done) ⊎ (s ≡ status.Refusals)
