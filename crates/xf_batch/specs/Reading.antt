-- What the reading of one phase says, want of memory aside.
use Rattle.std.specs.Prelude.{◌≡◌, ◌↔◌, ◌⊎◌, ℕ, ◌+◌, ◌<◌, ◌≤◌, Bool, true, false, List, [], ◌++◌, drop, length, map, sum, take, Option, Result, Ok, Err}
use Rattle.std.specs.List.{concat}
use Rattle.std.specs.Io.KnownBytes.{Consumes, IsAtEnd}
use Rattle.xf_types.specs.declared.status.Reason.{Reason}
use Rattle.xf_types.specs.Batch.{WorkerLine, threads_of}
use Rattle.xf_lex.specs.LogicalLines.{lines_of}
use Rattle.xf_read.specs.declared.reader.Unread.{Unread}
use Rattle.xf_read.specs.declared.reader.Reader.{Reader}
use Rattle.xf_batch.specs.declared.phase.Phase.{Phase}
use Rattle.xf_batch.specs.declared.fault.PhaseFault.{PhaseFault}
use Rattle.xf_batch.specs.declared.fault.PhaseFault.TheVariants as fault
use Rattle.xf_batch.specs.Batch.{Standing, batch_at, behind_all, followed, last_phase, phase_before, refused_at, later, room_behind, whole_batch_at}
use Rattle.xf_batch.specs.Shown.{PhaseShown, phase_shown}

-- the bytes that were read and that no line has taken
abbrev pub unread_bytes : Unread → List ℕ
unread_bytes u = drop u.taken u.bytes.items

-- these bytes may follow those that were read: none where the end was read too
abbrev pub MayFollow : Bool → List ℕ → Type 0
MayFollow ended rest = ended ≡ true → rest ≡ []

-- where the next line stands
abbrev pub standing : Unread → Standing
standing u = record { line = u.line; before = u.before }

-- the bytes hold no end of a phase: those lines of theirs that are whole, whatever follows, are a part of one phase, none a `sync`, none bad
pub record IsOpen (now : ℕ) (at : Standing) (bytes : List ℕ) : Type 0 where
  pub part : List WorkerLine
  pub batch : (answers : ℕ → ℕ) → answers 0 ≡ now → whole_batch_at answers at bytes ≡ last_phase false part

-- the source was left as it was
pub record IsUntouched (read : List ℕ) (left_old left_new : Option (List ℕ)) (faults_old faults_new : ℕ) : Type 0 where
  pub none : read ≡ []
  pub left : left_new ≡ left_old
  pub faults : faults_new ≡ faults_old

-- the last read, of at most 4,096 bytes, was made where the bytes read by then held no end of the phase
pub record ReadsOpen (now : ℕ) (old : Unread) (read : List ℕ) : Type 0 where
  pub front : List ℕ
  pub last : List ℕ
  pub parts : front ++ last ≡ read
  pub small : length last ≤ 4096
  pub is_open : IsOpen now (standing old) (unread_bytes old ++ front)

-- these bytes were read from the source, none of them in vain
pub record HasRead (now : ℕ) (old : Unread) (ended : Bool) (read : List ℕ) (left_old left_new : Option (List ℕ)) (faults_old faults_new : ℕ)
    : Type 0 where
  pub consumed : Consumes left_old left_new read
  pub end : (old.ended ≡ true → IsAtEnd left_old) → ended ≡ true → IsAtEnd left_new
  pub needed : IsUntouched read left_old left_new faults_old faults_new ⊎ ReadsOpen now old read
  -- the source isn't touched where the unread bytes hold the phase's end
  pub still : (IsOpen now (standing old) (unread_bytes old) → ⊥) → IsUntouched read left_old left_new faults_old faults_new

-- logical lines were taken from the bytes to come, whatever follows: the unread bytes are those behind them, and the next line stands there
pub record TakesLines (old new : Unread) (read : List ℕ) : Type 0 where
  pub lines : List (List ℕ)
  pub bytes : unread_bytes old ++ read ≡ concat lines ++ unread_bytes new
  pub are_lines : (rest : List ℕ) → MayFollow new.ended rest
      → lines_of (take (room_behind (standing old)) (unread_bytes old ++ (read ++ rest)))
      ≡ lines ++ lines_of (take (room_behind (standing new)) (unread_bytes new ++ rest))
  pub stands : standing new ≡ behind_all (standing old) lines

-- by this answer of the clock, and whatever follows, these call lines and what is left make up the batch of what was left before; and where
-- the input goes on, so it is with the lines that are known to be whole
pub record MakesUp (now : ℕ) (old new : Unread) (read : List ℕ) (more synced : Bool) (calls : List WorkerLine) : Type 0 where
  pub batch : (answers : ℕ → ℕ) (rest : List ℕ) → answers 0 ≡ now → MayFollow new.ended rest
      → batch_at answers (standing old) (unread_bytes old ++ (read ++ rest))
      ≡ followed more synced calls (batch_at (later answers) (standing new) (unread_bytes new ++ rest))
  pub whole : (answers : ℕ → ℕ) (rest : List ℕ) → answers 0 ≡ now → more ≡ true
      → whole_batch_at answers (standing old) (unread_bytes old ++ (read ++ rest))
      ≡ phase_before calls (whole_batch_at (later answers) (standing new) (unread_bytes new ++ rest))

-- a phase was read, and no more than it needed
pub record ReadsPhase (workers now : ℕ) (old new : Unread) (left_old left_new : Option (List ℕ)) (faults_old faults_new : ℕ) (phase : PhaseShown)
    : Type 0 where
  pub read : List ℕ
  pub has_read : HasRead now old new.ended read left_old left_new faults_old faults_new
  pub taken : TakesLines old new read
  pub calls : List WorkerLine
  pub threads : phase.threads ≡ threads_of workers calls
  pub makes : MakesUp now old new read phase.more phase.synced calls

-- the line is the first bad one of what was left before, whatever follows what was read
pub record IsFirstBad (now : ℕ) (old : Unread) (left_old left_new : Option (List ℕ)) (line : ℕ) (why : Reason) : Type 0 where
  pub read : List ℕ
  pub ended : Bool
  pub consumed : Consumes left_old left_new read
  pub end : (old.ended ≡ true → IsAtEnd left_old) → ended ≡ true → IsAtEnd left_new
  pub batch : (answers : ℕ → ℕ) (rest : List ℕ) → answers 0 ≡ now → MayFollow ended rest
      → batch_at answers (standing old) (unread_bytes old ++ (read ++ rest)) ≡ refused_at line why

-- what was read holds no end of the phase
pub record IsCutOff (now : ℕ) (old : Unread) (left_old left_new : Option (List ℕ)) : Type 0 where
  pub read : List ℕ
  pub consumed : Consumes left_old left_new read
  pub goes_on : old.ended ≡ false
  pub is_open : IsOpen now (standing old) (unread_bytes old ++ read)

-- what a fault says
abbrev pub FailsPhase : ℕ → Unread → Option (List ℕ) → Option (List ℕ) → PhaseFault → Type 0
FailsPhase now old left_old left_new (fault.Bad line why) = IsFirstBad now old left_old left_new line why
FailsPhase now old left_old left_new fault.ReadFault = IsCutOff now old left_old left_new
FailsPhase now old left_old left_new fault.NoMemory = Unit {0}

-- what the reading of a phase says
abbrev pub GivesPhase : ℕ → ℕ → Unread → Option (List ℕ) → Option (List ℕ) → ℕ → ℕ → Result (Phase × Reader) PhaseFault → Type 0
GivesPhase workers now old left_old left_new faults_old faults_new (Ok (phase, reader)) =
    ReadsPhase workers now old reader.unread left_old left_new faults_old faults_new (phase_shown phase)
GivesPhase workers now old left_old left_new faults_old faults_new (Err why) = FailsPhase now old left_old left_new why

-- how far the reading has come with a phase of so many threads
pub record HasPassed (threads : ℕ) (old new : Unread) (phase : PhaseShown) : Type 0 where
  pub each : length phase.threads ≡ threads
  pub whole : (phase.more ≡ false) ↔ (new.ended ≡ true)  -- exactly where the end was read; between phases nothing is unread then
  pub synced : phase.more ≡ true → phase.synced ≡ true
  pub further : phase.synced ≡ true → old.before < new.before
  pub few : sum (map length phase.threads) + old.before ≤ new.before
