-- What a line asks for, or its fault.
use Rattle.std.specs.Prelude.{◌≡◌, ℕ, List, [], ◌∷◌, Option, None, Some, Result, Ok, Err}
use Rattle.xf_types.specs.declared.call.Call.TheVariants as call
use Rattle.xf_types.specs.declared.network.Flow.{Flow}
use Rattle.xf_types.specs.declared.call.Packet.{Packet}
use Rattle.xf_types.specs.declared.status.Reason.{Reason}
use Rattle.xf_lex.specs.declared.fault.LineFault.{LineFault}
use Rattle.xf_lex.specs.Gives.{Fails}
use Rattle.xf_lex.specs.Lexing.{Word}
use Rattle.xf_lex.specs.Lines.{words_of}
use Rattle.xf_grammar.specs.declared.head.Head.{Head}
use Rattle.xf_grammar.specs.declared.head.HeadTable.TheVariants.{Start}
use Rattle.xf_grammar.specs.declared.row.Field.{Field}
use Rattle.xf_grammar.specs.Grammar.{◌>>=◌, fields_of}
use Rattle.xf_grammar.specs.Heads.{head_of}
use Rattle.xf_grammar.specs.Tables.{tables_of, first_of}
use Rattle.xf_read.specs.declared.fault.ReadFault.{ReadFault}
use Rattle.xf_read.specs.declared.fault.ReadFault.TheVariants.{Bad, NoMemory}
use Rattle.xf_read.specs.declared.line_reader.LineReader.{LineReader}
use Rattle.xf_read.specs.declared.reader.Item.{Item}
use Rattle.xf_read.specs.declared.reader.Item.TheVariants.{Nothing, One}
use Rattle.xf_read.specs.Calls.{asked_of}

-- a line without words is nothing; else its head says which words may follow, and what they ask for
unfoldable pub words_item : List Word → Result Item Reason
words_item [] = Ok Nothing
words_item (w ∷ ws) = do
  found ← head_of Start (w ∷ ws)
  fields ← fields_of (tables_of found.0) (first_of found.0) found.1
  asked_of found.0 fields

-- a logical line's own faults come before those of its words
unfoldable pub line_item : List ℕ → Result Item Reason
line_item bytes = words_of bytes >>= words_item

-- the fields of the line that was read last
abbrev pub fields_read : LineReader → List Field
fields_read reader = reader.progress.fields

-- what a head asks for with its fields; a line without words is nothing
abbrev pub asked_by : Option Head → List Field → Result Item Reason
asked_by None fields = Ok Nothing
asked_by (Some head) fields = asked_of head fields

-- a flow that is asked for, or why none is
abbrev pub flow_item : Result Flow Reason → Result Item Reason
flow_item read = read >>= λ flow. Ok (One (call.Flow flow))

-- a packet that came in, or why none did
abbrev pub packet_item : Result Packet Reason → Result Item Reason
packet_item read = read >>= λ packet. Ok (One (call.Packet packet))

-- the head that was read asks with these fields for what the line is read as, or the fault is the reading's
abbrev pub GivesHead : Result (Option Head) LineFault → List Field → Result Item Reason → Type 0
GivesHead (Ok head) fields reading = reading ≡ asked_by head fields
GivesHead (Err fault) fields reading = Fails fault reading

-- a fault has the line's number
abbrev pub numbered : ℕ → Result Item Reason → Result Item ReadFault
numbered number (Ok item) = Ok item
numbered number (Err reason) = Err (Bad number reason)

-- what a line stands for, by its bytes and its number
abbrev pub item_of : List ℕ → ℕ → Result Item ReadFault
item_of bytes number = numbered number (line_item bytes)

-- the answer is what the line stands for, unless memory was refused
abbrev pub GivesItem : Result Item ReadFault → Result Item ReadFault → Type 0
GivesItem (Ok item) reading = reading ≡ Ok item
GivesItem (Err (Bad line reason)) reading = reading ≡ Err (Bad line reason)
GivesItem (Err NoMemory) reading = Unit {0}
