-- What the reading of a batch says that isn't run.
use Rattle.std.specs.Prelude.{◌≡◌, ℕ, Bool, List, [], ◌∷◌, ◌++◌, codes, decimal, Option, None, Some, IfSome, Result, Ok, Err}
use Rattle.std.specs.Io.KnownBytes.{Appends, Consumes}
use Rattle.xf_types.specs.declared.status.Status.{Status}
use Rattle.xf_types.specs.declared.status.Status.TheVariants as status
use Rattle.xf_types.specs.Batch.{WorkerLine}
use Rattle.xf_batch.specs.declared.fault.PhaseFault.{PhaseFault}
use Rattle.xf_batch.specs.declared.fault.PhaseFault.TheVariants as fault
use Rattle.xf_batch.specs.Batch.{Batch, BadLine, batch_of, whole_batch_of, phase_count, call_count}
use Rattle.xf_print.specs.BadLine.{bad_line_text}
use Rattle.xf_run.specs.declared.check.Counts.{Counts}
use Rattle.xf_run.specs.Outcome.{PartOf}

-- so many phases and call lines
unfoldable pub counts_text : ℕ → ℕ → List ℕ
counts_text phases lines = codes "phases " ++ decimal phases ++ codes " lines " ++ decimal lines ++ 10 ∷ []

-- the line that a batch without a bad line gives
abbrev pub batch_text : Bool → List (List WorkerLine) → List ℕ
batch_text synced phases = counts_text (phase_count synced phases) (call_count phases)

-- the line that a batch gives: its counts, or its first bad line
abbrev pub text_by : Bool → List (List WorkerLine) → Option BadLine → List ℕ
text_by synced phases None = batch_text synced phases
text_by synced phases (Some bad) = bad_line_text bad.line bad.reason

abbrev pub check_text : Batch → List ℕ
check_text b = text_by b.synced b.phases b.bad

-- the batch of an input by a clock that says 0: what it says changes no count and no bad line
abbrev pub unclocked : List ℕ → Batch
unclocked input = batch_of (λ k. 0) input

-- of the bytes that were taken no line is bad that is whole, whatever follows
pub record StopsGood (input : List ℕ) (left : Option (List ℕ)) : Type 0 where
  pub taken : List ℕ
  pub consumed : Consumes (Some input) left taken
  pub good : (whole_batch_of (λ k. 0) taken).bad ≡ None

-- what the status says of the batch and of the text before and after, where the source still has what is left
abbrev pub CheckOutcome : Status → List ℕ → Option (List ℕ) → Option (List ℕ) → Option (List ℕ) → Type 0
CheckOutcome status.Done input left old new = ((unclocked input).bad ≡ None) × Appends old new (check_text (unclocked input))
CheckOutcome status.Refusals input left old new = ⊥
CheckOutcome status.Usage input left old new = ⊥
CheckOutcome (status.BadLine line reason) input left old new =
    ((unclocked input).bad ≡ Some (record { line = line; reason = reason })) × Appends old new (check_text (unclocked input))
CheckOutcome status.ReadFault input left old new = StopsGood input left × Appends old new []
CheckOutcome status.WriteFault input left old new = PartOf (check_text (unclocked input)) old new
CheckOutcome status.NoMemory input left old new = Appends old new []

-- a check may end in this status, whatever the source tells: nothing refuses a call, and the words are a command
abbrev pub IsCheckStatus : Status → Type 0
IsCheckStatus status.Refusals = ⊥
IsCheckStatus status.Usage = ⊥
IsCheckStatus _ = Unit {0}

-- the same, where the source tells its bytes. The clock is not asked
pub record IsCheckOutcome (s : Status) (left_old left_new old new : Option (List ℕ)) : Type 0 where
  pub may_end : IsCheckStatus s
  pub outcome : IfSome left_old (λ input. CheckOutcome s input left_new old new)

-- the counts are those of a batch without a bad line
pub record AreCounts (b : Batch) (c : Counts) : Type 0 where
  pub good : b.bad ≡ None
  pub phases : c.phases ≡ phase_count b.synced b.phases
  pub lines : c.lines ≡ call_count b.phases

-- what the counting says of an input
abbrev pub Counted : List ℕ → Option (List ℕ) → Result Counts PhaseFault → Type 0
Counted input left (Ok c) = AreCounts (unclocked input) c
Counted input left (Err (fault.Bad line reason)) = (unclocked input).bad ≡ Some (record { line = line; reason = reason })
Counted input left (Err fault.ReadFault) = StopsGood input left
Counted input left (Err fault.NoMemory) = Unit {0}

-- the same, where the source tells its bytes
abbrev pub CountsBatch : Option (List ℕ) → Option (List ℕ) → Result Counts PhaseFault → Type 0
CountsBatch left_old left_new result = IfSome left_old (λ input. Counted input left_new result)

-- what the writing of counts comes to
abbrev pub TellsCounts : Status → ℕ → ℕ → Option (List ℕ) → Option (List ℕ) → Type 0
TellsCounts status.Done phases lines old new = Appends old new (counts_text phases lines)
TellsCounts status.WriteFault phases lines old new = PartOf (counts_text phases lines) old new
TellsCounts status.NoMemory phases lines old new = Appends old new []
TellsCounts status.Refusals phases lines old new = ⊥
TellsCounts status.Usage phases lines old new = ⊥
TellsCounts (status.BadLine line reason) phases lines old new = ⊥
TellsCounts status.ReadFault phases lines old new = ⊥
