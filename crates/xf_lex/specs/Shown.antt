-- The code's values, without where they lie in memory.
use Rattle.std.specs.Prelude.{ℕ, List, map}
use Rattle.std.specs.Option.{option_map}
use Rattle.std.specs.Global.{Vec}
use Rattle.xf_lex.specs.declared.lexer.Lexer.{Lexer}
use Rattle.xf_lex.specs.declared.scan.Scan.{Scan}
use Rattle.xf_lex.specs.Lexing.{Lexed}
use Rattle.xf_lex.specs.Lines.{Scanned}

-- the words of a list
abbrev pub shown : List (Vec ℕ) → List (List ℕ)
shown ws = map (λ w. w.items) ws

-- the words so far
abbrev pub heard : Lexer → Lexed
heard s = record { quoting = s.quoting; words = shown s.words.items; word = option_map (λ w. w.items) s.word }

-- what is known of the line so far
abbrev pub scanned : Scan → Scanned
scanned s = record { lexed = heard s.lexer; length = s.length; strange = s.strange; joined = s.joined }
