-- What hears the replies of a run has heard.
use Rattle.std.specs.Prelude.{ℕ, ◌+◌, ◌^◌, ◌≤◌, List, [], ◌∷◌, ◌++◌}
use Rattle.xf_types.specs.declared.call.Place.{Place}
use Rattle.xf_types.specs.declared.call.Reply.{Reply}
use Rattle.xf_print.specs.Receipts.{answer_text}
use Rattle.xf_tally.specs.Summary.{Summary, counted}
use Rattle.xf_run.specs.Turns.{Turn}

-- a text, or the numbers of a summary
pub data Heard : Type 0 where
  Text : (text : List ℕ) → Heard
  Sums : (sums : Summary) → Heard

-- there is room for so many replies more to the calls of a line: as far as there is memory in a text, and in the numbers of a summary for
-- 2^40 replies in all, to lines up to number 2^20
abbrev pub HasRoom : Heard → ℕ → ℕ → Type 0
HasRoom (Text text) line count = Unit {0}
HasRoom (Sums sums) line count = (line ≤ 2 ^ 20) × (sums.calls + count ≤ 2 ^ 40)

-- no more replies were heard than so many: where there was room for these and others, there is room for the others
abbrev pub HearsAtMost : ℕ → Heard → Heard → Type 0
HearsAtMost count old new = (line others : ℕ) → HasRoom old line (others + count) → HasRoom new line others

-- one reply more: its lines stand behind the text, or it is counted
abbrev pub hear : Heard → Place → Reply → Heard
hear (Text text) at reply = Text (text ++ answer_text at reply)
hear (Sums sums) at reply = Sums (counted sums at.line reply)

-- the replies of turns
abbrev pub hears : Heard → List Turn → Heard
hears heard [] = heard
hears heard (t ∷ ts) = hears (hear heard t.at t.reply) ts
