-- What is known between two words, without where it lies in memory.
use Rattle.std.specs.Prelude.{ℕ, List, map}
use Rattle.xf_grammar.specs.declared.fields.Progress.{Progress as Held}
use Rattle.xf_grammar.specs.declared.fields.Used.{Used}
use Rattle.xf_grammar.specs.Grammar.{Progress}
use Rattle.xf_lex.specs.Lexing.{Word}

-- a group and its word
abbrev pub use_of : Used → ℕ × Word
use_of u = (u.group, u.word.now)

-- the words that groups had
abbrev pub uses : List Used → List (ℕ × Word)
uses us = map use_of us

-- what is known
abbrev pub seen : Held → Progress
seen s = record {
  fields = s.fields;
  group = s.group;
  opened = s.opened;
  following = s.following;
  pending = s.pending;
  used = uses s.used.items;
}
