-- The text of a summary.
use Rattle.std.specs.Prelude.{ℕ, List, [], ◌∷◌, ◌++◌, codes, decimal}
use Rattle.xf_types.specs.declared.call.Receipt.{Receipt}
use Rattle.xf_tally.specs.Summary.{Summary, summary_of}

-- a line: a word with its space, and a number
unfoldable pub number_line : List ℕ → ℕ → List ℕ
number_line word n = word ++ decimal n ++ 10 ∷ []

-- nine lines
unfoldable pub numbers_text : Summary → List ℕ
numbers_text s =
    number_line (codes "lines ") s.lines ++ number_line (codes "calls ") s.calls ++ number_line (codes "policy ") s.policy
    ++ number_line (codes "none ") s.none ++ number_line (codes "sent ") s.sent ++ number_line (codes "accepted ") s.accepted
    ++ number_line (codes "dropped ") s.dropped ++ number_line (codes "refused ") s.refused ++ number_line (codes "mix ") s.mix

-- the text of the summary of so many call lines and these receipts
abbrev pub summary_text : ℕ → List Receipt → List ℕ
summary_text lines receipts = numbers_text (summary_of lines receipts)
