-- What the run of a large input that is made from a number says.
use Rattle.std.specs.Prelude.{◌≡◌, ℕ, ◌+◌, Bool, true, false, List, [], length, map, Option}
use Rattle.std.specs.Io.KnownBytes.{Appends}
use Rattle.xf_types.specs.declared.call.Receipt.{Receipt}
use Rattle.xf_types.specs.declared.status.Status.{Status}
use Rattle.xf_types.specs.declared.status.Status.TheVariants as status
use Rattle.xf_types.specs.Batch.{Line, WorkerLine, Runs}
use Rattle.xf_types.specs.Counters.{upwards}
use Rattle.xf_types.specs.History.{has_refusal, joined}
use Rattle.xf_types.specs.Machine.{Machine}
use Rattle.xf_batch.specs.Batch.{call_count}
use Rattle.xf_batch.specs.Generated.{generated}
use Rattle.xf_tally.specs.Summary.{Summary, summary_of}
use Rattle.xf_tally.specs.Text.{numbers_text}
use Rattle.xf_run.specs.Heard.{Sums, hears}
use Rattle.xf_run.specs.Outcome.{AreHistoriesOf, PartOf}
use Rattle.xf_run.specs.Turns.{Turn, Lead, receipts_from, is_refused}

-- the first phases of the input of a seed
abbrev pub phases_to : ℕ → ℕ → List (List WorkerLine)
phases_to seed count = map (generated seed) (upwards 1 count)

-- all four phases were answered, and these are the numbers of their summary
pub record Summarizes (seed : ℕ) (refused : Bool) (sums : Summary) : Type 0 where
  pub histories : List (List Receipt)
  pub are_histories : AreHistoriesOf (phases_to seed 4) histories
  pub sums_are : sums ≡ summary_of (call_count (phases_to seed 4)) (joined histories)
  pub refusals : has_refusal (joined histories) ≡ refused

-- the text has grown by their summary
pub record WritesSummary (seed : ℕ) (refused : Bool) (old new : Option (List ℕ)) : Type 0 where
  pub sums : Summary
  pub summarizes : Summarizes seed refused sums
  pub text : Appends old new (numbers_text sums)

-- the text has grown by a front of it
pub record WritesPart (seed : ℕ) (old new : Option (List ℕ)) : Type 0 where
  pub refused : Bool
  pub sums : Summary
  pub summarizes : Summarizes seed refused sums
  pub part : PartOf (numbers_text sums) old new

-- what the status says
abbrev pub IsGenOutcome : Status → ℕ → Option (List ℕ) → Option (List ℕ) → Type 0
IsGenOutcome status.Done seed old new = WritesSummary seed false old new
IsGenOutcome status.Refusals seed old new = WritesSummary seed true old new
IsGenOutcome status.WriteFault seed old new = WritesPart seed old new
IsGenOutcome status.NoMemory seed old new = Appends old new []
IsGenOutcome status.Usage seed old new = ⊥
IsGenOutcome (status.BadLine line reason) seed old new = ⊥
IsGenOutcome status.ReadFault seed old new = ⊥

-- the lines were answered, and the replies counted
pub record CountsLines (before after : Machine) (ls : List Line) (refused : Bool) (old new : Summary) : Type 0 where
  pub turns : List Turn
  pub runs : Runs ls (receipts_from 0 turns)
  pub lead : Lead before turns after
  pub refusal : is_refused turns ≡ refused
  pub counts : Sums new ≡ hears (Sums old) turns

-- the same of a phase, whose lines were counted before
pub record CountsPhase (before after : Machine) (ls : List Line) (refused : Bool) (old new : Summary) : Type 0 where
  pub counts : CountsLines before after ls refused (record old { lines = old.lines + length ls }) new
  pub lines : new.lines ≡ old.lines + length ls
