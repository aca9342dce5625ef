-- The words of a plain line, which stand between its blanks.
use Rattle.std.specs.Prelude.{ℕ, ◌+◌, Bool, true, false, ◌==◌, ◌&&◌, ◌||◌, nat_le, if◌then◌else◌, List, [], ◌∷◌, ◌++◌, Option, None}
use Rattle.xf_lex.specs.declared.words.Words.{Words}
use Rattle.xf_lex.specs.declared.words.Words.TheVariants.{Plain, Listed}
use Rattle.xf_lex.specs.Lexing.{Word, closed, onto}
use Rattle.xf_lex.specs.Shown.{shown}

-- a byte that parts words: a space, or one below it
abbrev pub is_gap : ℕ → Bool
is_gap b = nat_le b 32

-- the word that is begun, and the words of more bytes
abbrev pub split_from : Option Word → List ℕ → List Word
split_from w [] = closed [] w
split_from w (b ∷ bs) = if is_gap b then closed [] w ++ split_from None bs else split_from (onto w b) bs

-- the words between the gaps of some bytes
abbrev pub split : List ℕ → List Word
split bytes = split_from None bytes

-- the words that are still to come
abbrev pub left : Words → List Word
left (Plain bytes) = split bytes.now
left (Listed words) = shown words.now

-- how many bytes from the first on part words
abbrev pub gap_count : List ℕ → ℕ
gap_count [] = 0
gap_count (b ∷ bs) = if is_gap b then 1 + gap_count bs else 0

-- how many bytes from the first on part none
abbrev pub word_count : List ℕ → ℕ
word_count [] = 0
word_count (b ∷ bs) = if is_gap b then 0 else 1 + word_count bs

-- no byte is left
abbrev pub is_empty : List ℕ → Bool
is_empty [] = true
is_empty (b ∷ bs) = false

-- the words of a line end before these bytes: a comment, the line's own line feed, or nothing
abbrev pub is_end : List ℕ → Bool
is_end [] = true
is_end (b ∷ bs) = (b == 35) || ((b == 10) && is_empty bs)
