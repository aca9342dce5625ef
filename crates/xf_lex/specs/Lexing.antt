-- The words of a logical line, byte by byte.
use Rattle.std.specs.Prelude.{ℕ, Bool, ◌==◌, ◌||◌, if◌then◌else◌, List, [], ◌∷◌, ◌++◌, Option, None, Some, unwrap_or}
use Rattle.xf_lex.specs.declared.quoting.Quoting.{Quoting}
use Rattle.xf_lex.specs.declared.quoting.Quoting.TheVariants.{Bare, Single, Double, Comment, BareSlash, SingleSlash, DoubleSlash}

-- a word is its bytes
abbrev pub Word : Type 0
Word = List ℕ

-- the words so far, and the one that is begun, which may be empty between quotes
pub record Lexed : Type 0 where
  pub quoting : Quoting
  pub words : List Word
  pub word : Option Word

-- before the first byte
abbrev pub start : Lexed
start = record { quoting = Bare; words = []; word = None }

-- a byte goes on with a word, or begins one
abbrev pub onto : Option Word → ℕ → Option Word
onto None b = Some (b ∷ [])
onto (Some w) b = Some (w ++ b ∷ [])

-- a quote goes on with a word, or begins an empty one
abbrev pub opened : Option Word → Option Word
opened None = Some []
opened (Some w) = Some w

-- the words, with the one that is begun
abbrev pub closed : List Word → Option Word → List Word
closed words None = words
closed words (Some w) = words ++ w ∷ []

-- a word ends, and this comes behind it
abbrev pub close : Lexed → Quoting → Lexed
close s m = record { quoting = m; words = closed s.words s.word; word = None }

-- the byte is the word's next
abbrev pub keep : Lexed → Quoting → ℕ → Lexed
keep s m b = record { quoting = m; words = s.words; word = onto s.word b }

-- some bytes are the word's next
abbrev pub extended : Lexed → List ℕ → Lexed
extended s run = record { quoting = s.quoting; words = s.words; word = Some (unwrap_or s.word [] ++ run) }

-- the byte is no part of a word
abbrev pub turn_to : Lexed → Quoting → Lexed
turn_to s m = record { quoting = m; words = s.words; word = s.word }

-- a quote opens
abbrev pub open_quote : Lexed → Quoting → Lexed
open_quote s m = record { quoting = m; words = s.words; word = opened s.word }

-- words are separated by spaces and tabs, and end with the line
abbrev pub is_blank : ℕ → Bool
is_blank b = (b == 32) || ((b == 9) || (b == 10))

-- a byte outside quotes
abbrev pub bare_turn : Lexed → ℕ → Lexed
bare_turn s b =
    if is_blank b then close s Bare
    else (if b == 35 then close s Comment
    else (if b == 39 then open_quote s Single
    else (if b == 34 then open_quote s Double
    else (if b == 92 then turn_to s BareSlash
    else keep s Bare b))))

-- a byte between single quotes
abbrev pub single_turn : Lexed → ℕ → Lexed
single_turn s b = if b == 39 then turn_to s Bare else (if b == 92 then turn_to s SingleSlash else keep s Single b)

-- a byte between double quotes
abbrev pub double_turn : Lexed → ℕ → Lexed
double_turn s b = if b == 34 then turn_to s Bare else (if b == 92 then turn_to s DoubleSlash else keep s Double b)

-- a backslash that joined nothing is a byte of its word
abbrev pub turn_at : Lexed → Quoting → ℕ → Lexed
turn_at s Bare b = bare_turn s b
turn_at s Single b = single_turn s b
turn_at s Double b = double_turn s b
turn_at s Comment b = s
turn_at s BareSlash b = if b == 10 then turn_to s Bare else bare_turn (keep s Bare 92) b
turn_at s SingleSlash b = if b == 10 then turn_to s Single else single_turn (keep s Single 92) b
turn_at s DoubleSlash b = if b == 10 then turn_to s Double else double_turn (keep s Double 92) b

-- the next byte
abbrev pub turn : Lexed → ℕ → Lexed
turn s b = turn_at s s.quoting b
