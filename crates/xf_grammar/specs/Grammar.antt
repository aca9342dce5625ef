-- Reading the words after a head, by tables: the first word from the left that offends decides.
use Rattle.std.specs.Prelude.{ℕ, ◌+◌, ◌-◌, ◌^◌, Bool, true, false, ◌==◌, ◌&&◌, ◌||◌, nat_le, if◌then◌else◌, List, [], ◌∷◌, ◌++◌, Option, None, Some, Result, Ok, Err}
use Rattle.std.specs.Str.{bytes_eq}
use Rattle.xf_types.specs.declared.network.Addr.{Addr}
use Rattle.xf_types.specs.declared.network.Prefix.{Prefix}
use Rattle.xf_types.specs.declared.status.Reason.{Reason}
use Rattle.xf_types.specs.declared.status.Reason.TheVariants as reason
use Rattle.xf_addr.specs.Reading.{addr_of}
use Rattle.xf_addr.specs.Prefixes.{prefix_of}
use Rattle.xf_grammar.specs.declared.keyword.Keyword.{Keyword}
use Rattle.xf_grammar.specs.declared.row.Arg.{Arg}
use Rattle.xf_grammar.specs.declared.row.Arg.TheVariants as arg
use Rattle.xf_grammar.specs.declared.row.Args.{Args}
use Rattle.xf_grammar.specs.declared.row.Args.TheVariants as args
use Rattle.xf_grammar.specs.declared.row.Field.{Field}
use Rattle.xf_grammar.specs.declared.row.Meaning.{Meaning}
use Rattle.xf_grammar.specs.declared.row.Meaning.TheVariants as meaning
use Rattle.xf_grammar.specs.declared.row.Name.{Name}
use Rattle.xf_grammar.specs.declared.row.Name.TheVariants as name
use Rattle.xf_grammar.specs.declared.row.Names.TheVariants as names
use Rattle.xf_grammar.specs.declared.row.Row.{Row}
use Rattle.xf_grammar.specs.declared.row.Row.TheVariants as row
use Rattle.xf_grammar.specs.declared.row.Slot.{Slot}
use Rattle.xf_grammar.specs.declared.row.Table.{Table}
use Rattle.xf_grammar.specs.declared.row.Table.TheVariants as table
use Rattle.xf_grammar.specs.declared.row.Value.{Value}
use Rattle.xf_grammar.specs.declared.row.Value.TheVariants as value
use Rattle.xf_grammar.specs.Keywords.{text_of}
use Rattle.xf_lex.specs.Lexing.{Word}
use Rattle.xf_grammar.specs.Numbers.{number_in}
use Rattle.xf_grammar.specs.Tables.{names_of, rows_of}

infixl 10 ◌>>=◌
-- what is read, or the first fault from the left
abbrev pub ◌>>=◌ : {A B : Type 0} → Result A Reason → (A → Result B Reason) → Result B Reason
(Ok x) >>= f = f x
(Err e) >>= f = Err e

-- ---- values

-- what a name stands for
abbrev pub value_of_meaning : Meaning → Value
value_of_meaning (meaning.U8 n) = value.U8 n
value_of_meaning meaning.Any = value.Any
value_of_meaning (meaning.Dir dir) = value.Dir dir
value_of_meaning (meaning.Ptype ptype) = value.Ptype ptype
value_of_meaning (meaning.Action action) = value.Action action
value_of_meaning (meaning.Proto proto) = value.Proto proto
value_of_meaning (meaning.Mode mode) = value.Mode mode
value_of_meaning (meaning.Level level) = value.Level level
value_of_meaning (meaning.Bool x) = value.Bool x
value_of_meaning meaning.Now = value.Now

-- the word of a name
abbrev pub name_word : Name → Keyword
name_word (name.Means word means) = word
name_word (name.Unsupported word) = word

-- the name that a word is
abbrev pub name_in : List Name → Word → Option Name
name_in [] w = None
name_in (n ∷ ns) w = if bytes_eq (text_of (name_word n)) w then Some n else name_in ns w

-- a name's value, or the reading of a word that is no name
abbrev pub named_or : Option Name → Result Value Reason → Result Value Reason
named_or None other = other
named_or (Some (name.Means word means)) other = Ok (value_of_meaning means)
named_or (Some (name.Unsupported word)) other = Err reason.Unsupported

-- a number in its range, as a value of its width
abbrev pub number_value : (ℕ → Value) → ℕ → ℕ → Word → Result Value Reason
number_value width low high w = number_in low high w >>= λ n. Ok (width n)

-- an address
abbrev pub some_addr : Option Addr → Result Value Reason
some_addr None = Err reason.Address
some_addr (Some a) = Ok (value.Addr a)

-- a prefix
abbrev pub some_prefix : Option Prefix → Result Value Reason
some_prefix None = Err reason.Address
some_prefix (Some p) = Ok (value.Prefix p)

-- a value and its place, if it has one
abbrev pub at_slot : Slot → Result Value Reason → Result (Option (Slot × Value)) Reason
at_slot slot (Ok v) = Ok (Some (slot, v))
at_slot slot (Err e) = Err e

-- the value that a word is
unfoldable pub value_in : Arg → Word → Result (Option (Slot × Value)) Reason
value_in (arg.U8 slot low high) w = at_slot slot (number_value value.U8 low high w)
value_in (arg.U16 slot low high) w = at_slot slot (number_value value.U16 low high w)
value_in (arg.U32 slot low high) w = at_slot slot (number_value value.U32 low high w)
value_in (arg.U64 slot low high) w = at_slot slot (number_value value.U64 low high w)
value_in (arg.NameOrU8 slot first second) w =
    at_slot slot (named_or (name_in (names_of first) w)
    (named_or (name_in (names_of second) w) (number_value value.U8 0 255 w)))
value_in (arg.NameOrU64 slot list) w =
    at_slot slot (named_or (name_in (names_of list) w) (number_value value.U64 0 (2 ^ 64 - 1) w))
value_in (arg.Name slot list) w = at_slot slot (named_or (name_in (names_of list) w) (Err reason.Word))
value_in (arg.Addr slot) w = at_slot slot (some_addr (addr_of w))
value_in (arg.Prefix slot) w = at_slot slot (named_or (name_in (names_of names.Anys) w) (some_prefix (prefix_of w)))
value_in arg.Forgotten w = Ok None

-- ---- the state between two words

-- what is known between two words
pub record Progress : Type 0 where
  pub fields : List Field  -- what was read so far
  pub group : ℕ  -- the group of the last word: 0 is the line's own
  pub opened : ℕ  -- how many groups were opened
  pub following : Table  -- the table whose words may come before any other word of the line
  pub pending : Args  -- what has to come next
  pub used : List (ℕ × Word)  -- which words each group had that may stand once

-- before the first word: these have to come first
abbrev pub start : Args → Progress
start first = record { fields = []; group = 0; opened = 0; following = table.None; pending = first; used = [] }

-- a value is put in its place, and these come next
abbrev pub put : Progress → Args → Option (Slot × Value) → Progress
put s rest None = record s { pending = rest }
put s rest (Some v) = record s { fields = s.fields ++ record { group = s.group; slot = v.0; value = v.1 } ∷ []; pending = rest }

-- what a word was read as is put at its slot
abbrev pub put_read : Progress → Args → Slot → Result Value Reason → Result Progress Reason
put_read s rest slot read = at_slot slot read >>= λ v. Ok (put s rest v)

-- a value is taken
abbrev pub take_value : Progress → Arg → Args → Word → Result Progress Reason
take_value s a rest w = value_in a w >>= λ v. Ok (put s rest v)

-- ---- a word of a table

-- the word of a row
abbrev pub row_word : Row → Keyword
row_word (row.Once word values next) = word
row_word (row.Often word values next) = word
row_word (row.Kept word slot next) = word
row_word (row.Opens word slot next most more) = word
row_word (row.Unsupported word) = word

-- the row of a word in a table
abbrev pub row_in : List Row → Word → Option Row
row_in [] w = None
row_in (r ∷ rs) w = if bytes_eq (text_of (row_word r)) w then Some r else row_in rs w

-- the first, if there is one, else the second
abbrev pub or_row : Option Row → Option Row → Option Row
or_row None other = other
or_row (Some r) other = Some r

-- the row of a word in some tables
abbrev pub row_among : List Table → Word → Option Row
row_among [] w = None
row_among (t ∷ ts) w = or_row (row_in (rows_of t) w) (row_among ts w)

-- a row with its group
abbrev pub in_group : ℕ → Option Row → Option (ℕ × Row) → Option (ℕ × Row)
in_group group None other = other
in_group group (Some r) other = Some (group, r)

-- a word is first sought in the table that may follow, and then among the line's own words
abbrev pub row_of : List Table → Progress → Word → Option (ℕ × Row)
row_of tables s w = in_group s.group (row_in (rows_of s.following) w) (in_group 0 (row_among tables w) None)

-- the group had the word
abbrev pub was_used : List (ℕ × Word) → ℕ → Word → Bool
was_used [] group w = false
was_used (u ∷ us) group w = ((u.0 == group) && bytes_eq u.1 w) || was_used us group w

-- a word was met: its values come next, and behind them words of the next table may come
abbrev pub entered : Progress → ℕ → Args → Table → Progress
entered s group values next = record s { group = group; following = next; pending = values }

-- a word without a value was met: that it stands is kept
abbrev pub kept : Progress → ℕ → Slot → Table → Progress
kept s group slot next = put (entered s group args.None next) args.None (Some (slot, value.Bool true))

-- a word that may stand once
abbrev pub noted : Progress → ℕ → Word → Progress
noted s group w = record s { used = s.used ++ (group, w) ∷ [] }

-- a row's word was met in a group
unfoldable pub enter : Progress → ℕ → Row → Result Progress Reason
enter s group (row.Once word values next) =
    if was_used s.used group (text_of word) then Err reason.Repeated
    else Ok (entered (noted s group (text_of word)) group values next)
enter s group (row.Often word values next) = Ok (entered s group values next)
enter s group (row.Kept word slot next) = Ok (kept s group slot next)
enter s group (row.Opens word slot next most more) =
    if nat_le most s.opened then Err more
    else Ok (kept (record s { opened = s.opened + 1 }) (s.opened + 1) slot next)
enter s group (row.Unsupported word) = Err reason.Unsupported

-- a word is met that a table has, or not
abbrev pub enter_found : Progress → Option (ℕ × Row) → Result Progress Reason
enter_found s None = Err reason.Word
enter_found s (Some found) = enter s found.0 found.1

-- ---- the words of a line

-- a word comes where this is pending
abbrev pub next_word : List Table → Progress → Word → Args → Result Progress Reason
next_word tables s w args.None = enter_found s (row_of tables s w)
next_word tables s w (args.One a) = take_value s a args.None w
next_word tables s w (args.Two a b) = take_value s a (args.One b) w
next_word tables s w (args.Three a b c) = take_value s a (args.Two b c) w
next_word tables s w (args.Word t) = enter_found s (in_group s.group (row_in (rows_of t) w) None)

-- the next word
unfoldable pub after_word : List Table → Progress → Word → Result Progress Reason
after_word tables s w = next_word tables s w s.pending

-- the fields, where no value is missing
abbrev pub ended : List Field → Args → Result (List Field) Reason
ended fields args.None = Ok fields
ended fields (args.One a) = Err reason.Missing
ended fields (args.Two a b) = Err reason.Missing
ended fields (args.Three a b c) = Err reason.Missing
ended fields (args.Word t) = Err reason.Missing

-- the fields after more words
abbrev pub after_words : List Table → Progress → List Word → Result (List Field) Reason
after_words tables s [] = ended s.fields s.pending
after_words tables s (w ∷ ws) = after_word tables s w >>= λ t. after_words tables t ws

-- the fields of a line's words, of which these have to come first
unfoldable pub fields_of : List Table → Args → List Word → Result (List Field) Reason
fields_of tables first ws = after_words tables (start first) ws
