-- What one phase of a run says.
use Rattle.std.specs.Prelude.{◌≡◌, ◌⊎◌, ℕ, ◌+◌, ◌*◌, ◌<◌, ◌≤◌, ◌^◌, Bool, true, false, List, [], get_or, Option, Result, Ok, Err}
use Rattle.std.specs.Io.KnownBytes.{Appends, Consumes, IsAtEnd}
use Rattle.xf_types.specs.declared.status.Reason.{Reason}
use Rattle.xf_types.specs.declared.status.Status.{Status}
use Rattle.xf_types.specs.declared.status.Status.TheVariants as status
use Rattle.xf_types.specs.Batch.{Line, WorkerLine, calls_of_thread}
use Rattle.xf_types.specs.Machine.{Machine}
use Rattle.xf_read.specs.declared.reader.Unread.{Unread}
use Rattle.xf_read.specs.declared.reader.Reader.{Reader}
use Rattle.xf_io.specs.Seconds.{ClockGives}
use Rattle.xf_batch.specs.declared.phase.Phase.{Phase}
use Rattle.xf_batch.specs.Reading.{IsCutOff, IsFirstBad, MakesUp}
use Rattle.xf_batch.specs.Shown.{threads_shown}
use Rattle.xf_print.specs.BadLine.{bad_line_text}
use Rattle.xf_run.specs.declared.run.PhaseRun.{PhaseRun}
use Rattle.xf_run.specs.Outcome.{PartOf}
use Rattle.xf_run.specs.Progress.{RunsLines, StopsBehind, StopsWithin}

-- by this answer of the clock a phase of these lines was read, and it and what is left make up the batch of what was left before
pub record ReadsLines (now : ℕ) (old new : Unread) (left_old left_new : Option (List ℕ)) (more : Bool) (ls : List Line) : Type 0 where
  pub read : List ℕ
  pub consumed : Consumes left_old left_new read
  pub end : (old.ended ≡ true → IsAtEnd left_old) → new.ended ≡ true → IsAtEnd left_new
  pub goes_on : more ≡ true → new.ended ≡ false
  pub synced : Bool
  pub calls : List WorkerLine
  pub lines : ls ≡ calls_of_thread 1 calls 0
  pub makes : MakesUp now old new read more synced calls

-- a phase was read and answered
pub record RunsPhase (now : ℕ) (old new : Unread) (left_old left_new : Option (List ℕ)) (more : Bool) (before after : Machine) (refused : Bool)
    (text_old text_new : Option (List ℕ)) : Type 0 where
  pub lines : List Line
  pub read : ReadsLines now old new left_old left_new more lines
  pub ran : RunsLines before after lines refused text_old text_new

-- a phase was read, and stopped behind one of its lines
pub record CutsPhase (now : ℕ) (old : Unread) (left_old left_new : Option (List ℕ)) (before : Machine) (text_old text_new : Option (List ℕ)) : Type 0 where
  pub new : Unread
  pub more : Bool
  pub lines : List Line
  pub read : ReadsLines now old new left_old left_new more lines
  pub stops : StopsBehind before lines text_old text_new

-- a phase was read, and stopped within the text of its lines
pub record BreaksPhase (now : ℕ) (old : Unread) (left_old left_new : Option (List ℕ)) (before : Machine) (text_old text_new : Option (List ℕ)) : Type 0 where
  pub new : Unread
  pub more : Bool
  pub lines : List Line
  pub read : ReadsLines now old new left_old left_new more lines
  pub stops : StopsWithin before lines text_old text_new

-- a bad line was found, and a front of its text was taken
pub record BreaksReport (now : ℕ) (old : Unread) (left_old left_new : Option (List ℕ)) (text_old text_new : Option (List ℕ)) : Type 0 where
  pub line : ℕ
  pub reason : Reason
  pub found : IsFirstBad now old left_old left_new line reason
  pub part : PartOf (bad_line_text line reason) text_old text_new

-- where the run ends with the phase, by the status
abbrev pub EndsPhase : Status → ℕ → Unread → Option (List ℕ) → Option (List ℕ) → Machine → Option (List ℕ) → Option (List ℕ) → Type 0
EndsPhase (status.BadLine line reason) now old left_old left_new before text_old text_new =
    IsFirstBad now old left_old left_new line reason × Appends text_old text_new (bad_line_text line reason)
EndsPhase status.ReadFault now old left_old left_new before text_old text_new = IsCutOff now old left_old left_new × Appends text_old text_new []
EndsPhase status.WriteFault now old left_old left_new before text_old text_new =
    BreaksPhase now old left_old left_new before text_old text_new ⊎ BreaksReport now old left_old left_new text_old text_new
EndsPhase status.NoMemory now old left_old left_new before text_old text_new =
    Appends text_old text_new [] ⊎ CutsPhase now old left_old left_new before text_old text_new
EndsPhase status.Done now old left_old left_new before text_old text_new = ⊥
EndsPhase status.Refusals now old left_old left_new before text_old text_new = ⊥
EndsPhase status.Usage now old left_old left_new before text_old text_new = ⊥

-- after a bad line was found
abbrev pub Reported : Status → ℕ → Reason → Option (List ℕ) → Option (List ℕ) → Type 0
Reported (status.BadLine line reason) n why old new = (line ≡ n) × (reason ≡ why) × Appends old new (bad_line_text n why)
Reported status.WriteFault n why old new = PartOf (bad_line_text n why) old new
Reported status.NoMemory n why old new = Appends old new []
Reported status.Done n why old new = ⊥
Reported status.Refusals n why old new = ⊥
Reported status.Usage n why old new = ⊥
Reported status.ReadFault n why old new = ⊥

-- where the run ends with the reading of a phase, by the status
abbrev pub EndsReading : Status → ℕ → Unread → Option (List ℕ) → Option (List ℕ) → Option (List ℕ) → Option (List ℕ) → Type 0
EndsReading (status.BadLine line reason) now old left_old left_new text_old text_new =
    IsFirstBad now old left_old left_new line reason × Appends text_old text_new (bad_line_text line reason)
EndsReading status.ReadFault now old left_old left_new text_old text_new = IsCutOff now old left_old left_new × Appends text_old text_new []
EndsReading status.WriteFault now old left_old left_new text_old text_new = BreaksReport now old left_old left_new text_old text_new
EndsReading status.NoMemory now old left_old left_new text_old text_new = Appends text_old text_new []
EndsReading status.Done now old left_old left_new text_old text_new = ⊥
EndsReading status.Refusals now old left_old left_new text_old text_new = ⊥
EndsReading status.Usage now old left_old left_new text_old text_new = ⊥

-- what the reading of a phase comes to
abbrev pub TakesPhase : ℕ → Unread → Option (List ℕ) → Option (List ℕ) → Option (List ℕ) → Option (List ℕ)
    → Result (Phase × Reader) Status → Type 0
TakesPhase now old left_old left_new text_old text_new (Ok (phase, reader)) =
    ReadsLines now old reader.unread left_old left_new phase.more (get_or (threads_shown phase.threads.items) 0 [])
TakesPhase now old left_old left_new text_old text_new (Err s) = EndsReading s now old left_old left_new text_old text_new

-- what a phase comes to
abbrev pub RunsNext : ℕ → Unread → Option (List ℕ) → Option (List ℕ) → Machine → Machine → Option (List ℕ) → Option (List ℕ)
    → Result PhaseRun Status → Type 0
RunsNext now old left_old left_new before after text_old text_new (Ok run) =
    RunsPhase now old run.reader.unread left_old left_new run.more before after run.refused text_old text_new
RunsNext now old left_old left_new before after text_old text_new (Err s) =
    EndsPhase s now old left_old left_new before text_old text_new

-- the clock was asked once, and by its answer, a number of 64 bits, a phase came to this
pub record IsNext (coming later : Option (ℕ → ℕ)) (old : Unread) (left_old left_new : Option (List ℕ)) (before after : Machine)
    (text_old text_new : Option (List ℕ)) (result : Result PhaseRun Status) : Type 0 where
  pub now : ℕ
  pub in_range : now < 2 ^ 64
  pub asked : ClockGives coming later now
  pub runs : RunsNext now old left_old left_new before after text_old text_new result

-- the numbers that the machine gives are bounded by the bytes that were read
pub record IsBounded (m : Machine) (u : Unread) : Type 0 where
  pub numbers : m.shown.next_number ≤ 7 * u.before + 1
  pub sids : m.shown.next_sid ≤ 7 * u.before + 1

-- how far the run has come with a phase
pub record KeepsUp (old : Unread) (after : Machine) (run : PhaseRun) : Type 0 where
  pub whole : run.more ≡ false → run.reader.unread.ended ≡ true
  pub further : run.more ≡ true → old.before < run.reader.unread.before
  pub bounded : IsBounded after run.reader.unread
