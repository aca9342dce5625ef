-- The batch of an input: its phases, and its first bad line if it has one.
use Rattle.std.specs.Prelude.{ℕ, ◌+◌, ◌-◌, Bool, true, false, ◌&&◌, ◌||◌, nat_lt, nat_le, count_by, if◌then◌else◌, List, [], ◌∷◌, ◌++◌, length, map, take, sum, Option, None, Some, Result, Ok, Err}
use Rattle.xf_types.specs.declared.call.Call.{Call}
use Rattle.xf_types.specs.declared.call.Call.TheVariants as call
use Rattle.xf_types.specs.declared.status.Reason.{Reason}
use Rattle.xf_types.specs.declared.status.Reason.TheVariants as reason
use Rattle.xf_types.specs.Batch.{Line, One, Send, WorkerLine}
use Rattle.xf_read.specs.declared.reader.Item.{Item}
use Rattle.xf_read.specs.declared.reader.Item.TheVariants as item
use Rattle.xf_read.specs.Items.{line_item}
use Rattle.std.specs.List.{filter}
use Rattle.xf_lex.specs.LogicalLines.{lines_of}
use Rattle.xf_read.specs.Facts.{input_limit}
use Rattle.xf_batch.specs.LineEnds.{lines_in, has_feed}

-- how many bytes the input may have
abbrev pub limit : ℕ
limit = input_limit

-- how many call lines a phase may have
abbrev pub call_limit : ℕ
call_limit = 16384

-- how many lists among them
abbrev pub list_limit : ℕ
list_limit = 256

-- the call lists records
abbrev pub is_list : Call → Bool
is_list (call.PolicyList filter) = true
is_list (call.StateList filter) = true
is_list _ = false

-- the line lists records
abbrev pub is_list_line : Line → Bool
is_list_line (One n c) = is_list c
is_list_line (Send n flow len) = false

-- behind so many call lines, and so many lists among them, the phase has no more room for the line
abbrev pub is_over : ℕ → ℕ → Line → Bool
is_over calls lists l = nat_le call_limit calls || (is_list_line l && nat_le list_limit lists)

-- the line's own fault, or what it asks for. That it is long comes first, and that it passes the input's limit next
abbrev pub judged : Bool → Result Item Reason → Result Item Reason
judged over (Err reason.Long) = Err reason.Long
judged true (Ok asked) = Err reason.Input
judged true (Err other) = Err reason.Input
judged false (Ok asked) = Ok asked
judged false (Err other) = Err other

-- a phase that is being read: its call lines so far, and the worker whom the lines that follow belong to
pub record Gathered : Type 0 where
  pub worker : ℕ
  pub calls : List WorkerLine

-- a phase begins with worker 0
abbrev pub beginning : Gathered
beginning = record { worker = 0; calls = [] }

-- where a logical line stands: the number of its first physical line, and how many bytes are before it
pub record Standing : Type 0 where
  pub line : ℕ
  pub before : ℕ

-- the input's first line
abbrev pub first_line : Standing
first_line = record { line = 1; before = 0 }

-- behind a logical line
abbrev pub behind : Standing → List ℕ → Standing
behind at line = record { line = at.line + lines_in line; before = at.before + length line }

-- behind some of them
abbrev pub behind_all : Standing → List (List ℕ) → Standing
behind_all at [] = at
behind_all at (line ∷ lines) = behind_all (behind at line) lines

-- the line holds the first byte that is one too many
abbrev pub passes_limit : Standing → List ℕ → Bool
passes_limit at line = nat_lt limit (at.before + length line)

-- what a logical line does to the phase that is being read: it is bad, the phase goes on, or it ends
pub data Effect : Type 0 where
  IsBad : (why : Reason) → Effect
  GoesOn : (more : Gathered) → Effect
  Ends : Effect

-- the phase with one more call line, of its worker
abbrev pub with_line : Gathered → Line → Gathered
with_line g l = record { worker = g.worker; calls = g.calls ++ (record { worker = g.worker; line = l }) ∷ [] }

-- a call line, where the phase has room for it
abbrev pub with_call : Gathered → Line → Effect
with_call g l =
    if is_over (length g.calls) (count_by (λ c. is_list_line c.line) g.calls) l then IsBad reason.Phase else GoesOn (with_line g l)

-- by what the clock says, what line n does
abbrev pub effect_of : ℕ → Gathered → ℕ → Result Item Reason → Effect
effect_of now g n (Err why) = IsBad why
effect_of now g n (Ok item.Nothing) = GoesOn g
effect_of now g n (Ok (item.Worker worker)) = GoesOn (record { worker = worker; calls = g.calls })
effect_of now g n (Ok item.Sync) = Ends
effect_of now g n (Ok item.TickNow) = with_call g (One n (call.Tick now))
effect_of now g n (Ok (item.One c)) = with_call g (One n c)
effect_of now g n (Ok (item.Send flow len)) = with_call g (Send n flow len)

-- the same, of a logical line where it stands
abbrev pub line_effect : ℕ → Gathered → Standing → List ℕ → Effect
line_effect now g at line = effect_of now g at.line (judged (passes_limit at line) (line_item line))

-- the first bad line
pub record BadLine : Type 0 where
  pub line : ℕ
  pub reason : Reason

-- the phases that are whole, each the call lines of its workers; whether a `sync` ended the last one, behind which nothing came; and
-- the first bad line, which refuses its phase and all behind it
pub record Batch : Type 0 where
  pub phases : List (List WorkerLine)
  pub synced : Bool
  pub bad : Option BadLine

-- a batch of one phase, with or without a `sync`
abbrev pub last_phase : Bool → List WorkerLine → Batch
last_phase synced calls = record { phases = calls ∷ []; synced = synced; bad = None }

-- a phase, and a batch behind it
abbrev pub phase_before : List WorkerLine → Batch → Batch
phase_before calls b = record { phases = calls ∷ b.phases; synced = b.synced; bad = b.bad }

-- a phase, and the batch behind it where the input goes on
abbrev pub followed : Bool → Bool → List WorkerLine → Batch → Batch
followed true synced calls rest = phase_before calls rest
followed false synced calls rest = last_phase synced calls

-- no phase, since this line is bad
abbrev pub refused_at : ℕ → Reason → Batch
refused_at n why = record { phases = []; synced = false; bad = Some (record { line = n; reason = why }) }

-- the clock's answers after the first one
abbrev pub later : (ℕ → ℕ) → ℕ → ℕ
later answers k = answers (k + 1)

-- by what a line does: the batch if it is bad, that of the phase gone on with, and that of the phases behind it
abbrev pub by_effect : {A : Type 0} → Effect → (Reason → A) → (Gathered → A) → A → A
by_effect (IsBad why) bad on end = bad why
by_effect (GoesOn more) bad on end = on more
by_effect Ends bad on end = end

-- the batch of the logical lines from this place on, where this much of a phase was read: its k-th phase, counted from 0, has the
-- clock's k-th answer for now; `sync` ends a phase, and the last one ends with the input. Behind the line feed of a `sync` a further phase
-- begins; where the input's end stands in its place, none does
abbrev pub batch_from : (ℕ → ℕ) → Gathered → Standing → List (List ℕ) → Batch
batch_from answers g at [] = last_phase false g.calls
batch_from answers g at (line ∷ lines) =
    by_effect (line_effect (answers 0) g at line) (refused_at at.line) (λ more. batch_from answers more (behind at line) lines)
    (followed (has_feed line) true g.calls (batch_from (later answers) beginning (behind at line) lines))

-- how many further bytes are looked at: those of the limit, and one that is too many
abbrev pub room_behind : Standing → ℕ
room_behind at = limit + 1 - at.before

-- the batch of bytes from this place on: no byte past the first one that is too many is looked at
unfoldable pub batch_at : (ℕ → ℕ) → Standing → List ℕ → Batch
batch_at answers at bytes = batch_from answers beginning at (lines_of (take (room_behind at) bytes))

-- the batch of those lines alone that are whole, whatever bytes follow
unfoldable pub whole_batch_at : (ℕ → ℕ) → Standing → List ℕ → Batch
whole_batch_at answers at bytes = batch_from answers beginning at (filter has_feed (lines_of (take (room_behind at) bytes)))

-- the batch of an input by the clock's answers
abbrev pub batch_of : (ℕ → ℕ) → List ℕ → Batch
batch_of answers input = batch_at answers first_line input

-- the same from the input's first line on
abbrev pub whole_batch_of : (ℕ → ℕ) → List ℕ → Batch
whole_batch_of answers bytes = whole_batch_at answers first_line bytes

-- a last phase counts where a `sync` ended it, or where it has a call line
abbrev pub last_count : Bool → List WorkerLine → ℕ
last_count true calls = 1
last_count false [] = 0
last_count false (call ∷ calls) = 1

-- how many phases a batch has: each that a `sync` ends, and the last one where it has a call line
abbrev pub phase_count : Bool → List (List WorkerLine) → ℕ
phase_count synced [] = 0
phase_count synced (calls ∷ []) = last_count synced calls
phase_count synced (calls ∷ next ∷ phases) = 1 + phase_count synced (next ∷ phases)

-- how many call lines
abbrev pub call_count : List (List WorkerLine) → ℕ
call_count phases = sum (map length phases)
