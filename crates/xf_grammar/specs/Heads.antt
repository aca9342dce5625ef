-- The heads of lines.
use Rattle.std.specs.Prelude.{if◌then◌else◌, List, [], ◌∷◌, Option, None, Some, Result, Ok, Err}
use Rattle.std.specs.Str.{bytes_eq}
use Rattle.xf_types.specs.declared.status.Reason.{Reason}
use Rattle.xf_types.specs.declared.status.Reason.TheVariants.{Missing, Word as WordReason, Unsupported as UnsupportedReason}
use Rattle.xf_grammar.specs.declared.head.Head.{Head}
use Rattle.xf_grammar.specs.declared.head.HeadRow.{HeadRow}
use Rattle.xf_grammar.specs.declared.head.HeadRow.TheVariants.{Leads, Ends, Unsupported}
use Rattle.xf_grammar.specs.declared.head.HeadTable.{HeadTable}
use Rattle.xf_grammar.specs.declared.head.HeadTable.TheVariants as table
use Rattle.xf_grammar.specs.declared.head.TheConstants as constant
use Rattle.xf_grammar.specs.declared.keyword.Keyword.{Keyword}
use Rattle.xf_grammar.specs.Keywords.{text_of}
use Rattle.xf_lex.specs.Lexing.{Word}

-- the rows of a table
abbrev pub head_rows_of : HeadTable → List HeadRow
head_rows_of table.Start = constant.START
head_rows_of table.Xfrm = constant.XFRM
head_rows_of table.Policy = constant.POLICY
head_rows_of table.State = constant.STATE
head_rows_of table.Flow = constant.FLOW

-- the word of a row
abbrev pub head_word : HeadRow → Keyword
head_word (Leads word next) = word
head_word (Ends word head) = word
head_word (Unsupported word) = word

-- the row of a word
abbrev pub head_row_in : List HeadRow → Word → Option HeadRow
head_row_in [] w = None
head_row_in (r ∷ rs) w = if bytes_eq (text_of (head_word r)) w then Some r else head_row_in rs w

-- a word leads to further ones, which are read by rest, or ends the head
abbrev pub after_head_word : (HeadTable → Result (Head × List Word) Reason) → List Word → Option HeadRow
    → Result (Head × List Word) Reason
after_head_word rest ws None = Err WordReason
after_head_word rest ws (Some (Leads word next)) = rest next
after_head_word rest ws (Some (Ends word head)) = Ok (head, ws)
after_head_word rest ws (Some (Unsupported word)) = Err UnsupportedReason

-- The head that the words begin with, from a table on, and the words after it. A head that the end of the line cuts short
-- lacks a word.
abbrev pub head_of : HeadTable → List Word → Result (Head × List Word) Reason
head_of table [] = Err Missing
head_of table (w ∷ ws) = after_head_word (λ next. head_of next ws) ws (head_row_in (head_rows_of table) w)
