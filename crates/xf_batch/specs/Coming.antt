-- The bytes and the lines to come, in whichever pieces the source gives them.
use Rattle.std.specs.Prelude.{◌≡◌, ◌⊎◌, ℕ, ◌+◌, ◌-◌, ◌<◌, ◌≤◌, ◌||◌, Bool, true, false, nat_le, List, [], ◌∷◌, ◌++◌, length, take, drop, Option, Err}
use Rattle.std.specs.Io.KnownBytes.{Consumes, IsAtEnd}
use Rattle.xf_types.specs.declared.status.Reason.TheVariants as reason
use Rattle.xf_lex.specs.declared.quoting.Quoting.TheVariants.{Bare}
use Rattle.xf_lex.specs.LogicalLines.{lines_of}
use Rattle.xf_read.specs.Items.{line_item}
use Rattle.xf_read.specs.declared.reader.Unread.{Unread}
use Rattle.xf_batch.specs.declared.fault.PhaseFault.{PhaseFault}
use Rattle.xf_batch.specs.declared.fault.PhaseFault.TheVariants as fault
use Rattle.xf_batch.specs.declared.next_line.Next.{Next}
use Rattle.xf_batch.specs.declared.next_line.Next.TheVariants as next
use Rattle.xf_batch.specs.Batch.{limit}
use Rattle.xf_batch.specs.LineEnds.{ends_within, has_feed}
use Rattle.xf_batch.specs.Reading.{IsUntouched, MayFollow, unread_bytes}

-- how many of the bytes to come are looked at
abbrev pub room_of : Unread → ℕ
room_of u = limit + 1 - u.before

-- those bytes, where these follow the unread ones
abbrev pub seen_to_come : Unread → List ℕ → List ℕ
seen_to_come u rest = take (room_of u) (unread_bytes u ++ rest)

-- no more bytes are looked at than the unread ones
abbrev pub is_all : Unread → Bool
is_all u = u.ended || nat_le (room_of u) (length (unread_bytes u))

-- the fault is none of a line
abbrev pub IsOutside : PhaseFault → Type 0
IsOutside (fault.Bad line why) = ⊥
IsOutside fault.ReadFault = Unit {0}
IsOutside fault.NoMemory = Unit {0}

-- where the end was read, the unread bytes are within one last line
abbrev pub EndsLast : Unread → Type 0
EndsLast u = u.ended ≡ true → ends_within Bare (unread_bytes u) ≡ false

-- a piece of the source, or its end, has come behind the unread bytes
pub record Fills (old new : Unread) (left_old left_new : Option (List ℕ)) : Type 0 where
  pub piece : List ℕ
  pub bytes : unread_bytes new ≡ unread_bytes old ++ piece
  pub consumed : Consumes left_old left_new piece
  pub small : length piece ≤ 4096
  pub some : new.ended ≡ false → 0 < length piece
  pub none : new.ended ≡ true → length piece ≡ 0
  pub end : new.ended ≡ true → IsAtEnd left_new
  pub line : new.line ≡ old.line
  pub before : new.before ≡ old.before

-- the last read, of at most 4,096 bytes, was made where the bytes read by then held no line's end
pub record ReadsLast (unread piece : List ℕ) (ended : Bool) : Type 0 where
  pub front : List ℕ
  pub last : List ℕ
  pub parts : front ++ last ≡ piece
  pub small : length last ≤ 4096
  pub goes_on : ended ≡ false
  pub unfinished : ends_within Bare (unread ++ front) ≡ false

-- so much was read from the source behind the unread bytes, and perhaps its end
pub record ReadsOn (old : Unread) (ended : Bool) (piece : List ℕ) (left_old left_new : Option (List ℕ)) (faults_old faults_new : ℕ) : Type 0 where
  pub consumed : Consumes left_old left_new piece
  pub still : old.ended ≡ true → (ended ≡ true) × (piece ≡ [])
  pub end : (old.ended ≡ true → IsAtEnd left_old) → ended ≡ true → IsAtEnd left_new
  pub needed : IsUntouched piece left_old left_new faults_old faults_new ⊎ ReadsLast (unread_bytes old) piece old.ended

-- the source was read on, and no byte is lost
pub record Grows (old new : Unread) (left_old left_new : Option (List ℕ)) (faults_old faults_new : ℕ) : Type 0 where
  pub piece : List ℕ
  pub bytes : unread_bytes new ≡ unread_bytes old ++ piece
  pub read_on : ReadsOn old new.ended piece left_old left_new faults_old faults_new
  pub last : EndsLast new
  pub line : new.line ≡ old.line
  pub before : new.before ≡ old.before

-- a read failed where the bytes that were read hold no line's end
pub record Breaks (old : Unread) (left_old left_new : Option (List ℕ)) : Type 0 where
  pub piece : List ℕ
  pub consumed : Consumes left_old left_new piece
  pub goes_on : old.ended ≡ false
  pub unfinished : ends_within Bare (unread_bytes old ++ piece) ≡ false

-- the last line ends with what is looked at
pub record IsLastLine (u : Unread) (size : ℕ) : Type 0 where
  pub unended : has_feed (take size (unread_bytes u)) ≡ false
  pub all : is_all u ≡ true
  pub whole : size ≡ length (take (room_of u) (unread_bytes u))

-- the next logical line is so many unread bytes
pub record IsNextLine (u : Unread) (size : ℕ) : Type 0 where
  pub some : 0 < size
  pub within : size ≤ length (unread_bytes u)
  pub room : size ≤ room_of u
  pub ends : (has_feed (take size (unread_bytes u)) ≡ true) ⊎ IsLastLine u size
  pub lines : (rest : List ℕ) → MayFollow u.ended rest
      → lines_of (seen_to_come u rest) ≡ take size (unread_bytes u) ∷ lines_of (drop size (seen_to_come u rest))

-- the next logical line is long
pub record IsLongNext (u : Unread) (rest : List ℕ) : Type 0 where
  pub line : List ℕ
  pub others : List (List ℕ)
  pub lines : lines_of (seen_to_come u rest) ≡ line ∷ others
  pub long : line_item line ≡ Err reason.Long

-- what is said of the next logical line
abbrev pub Finds : Unread → Next → Type 0
Finds u (next.Line size) = IsNextLine u size
Finds u next.End = (u.ended ≡ true) × (unread_bytes u ≡ [])
Finds u next.Long = (rest : List ℕ) → IsLongNext u rest

-- what a fault says
abbrev pub BreaksOff : Unread → Option (List ℕ) → Option (List ℕ) → PhaseFault → Type 0
BreaksOff old left_old left_new (fault.Bad line why) = ⊥
BreaksOff old left_old left_new fault.ReadFault = Breaks old left_old left_new
BreaksOff old left_old left_new fault.NoMemory = Unit {0}
