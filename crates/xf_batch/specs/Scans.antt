-- What is known of a logical line whose end isn't found yet.
use Rattle.std.specs.Prelude.{◌≡◌, ℕ, ◌+◌, ◌<◌, ◌≤◌, true, false, List, [], ◌∷◌, ◌++◌, length, take}
use Rattle.xf_bytes.specs.Runs.{feedless_count, mild_count}
use Rattle.xf_lex.specs.declared.quoting.Quoting.{Quoting}
use Rattle.xf_lex.specs.declared.quoting.Quoting.TheVariants.{Bare, Single, Double, Comment, BareSlash, SingleSlash, DoubleSlash}
use Rattle.xf_lex.specs.Lines.{line_limit}
use Rattle.xf_lex.specs.LogicalLines.{lines_of}
use Rattle.xf_lex.specs.Quotes.{after, counted}
use Rattle.xf_batch.specs.LineEnds.{ends_within, has_feed}
use Rattle.xf_batch.specs.declared.line_scan.LineScan.{LineScan}
use Rattle.xf_batch.specs.declared.line_scan.Walked.{Walked}
use Rattle.xf_batch.specs.declared.line_scan.Walked.TheVariants as walked

-- where these bytes leave what stands after them
abbrev pub quoting_behind : Quoting → List ℕ → Quoting
quoting_behind m [] = m
quoting_behind m (b ∷ bs) = quoting_behind (after m b) bs

-- how many of them are known to count for their line
abbrev pub counted_in : Quoting → List ℕ → ℕ
counted_in m [] = 0
counted_in m (b ∷ bs) = counted m b + counted_in (after m b) bs

-- this is known of the front of a line, which goes on behind it and isn't long yet
pub record Scans (front : List ℕ) (s : LineScan) : Type 0 where
  pub goes_on : ends_within Bare front ≡ false
  pub quoting : s.quoting ≡ quoting_behind Bare front
  pub length : s.length ≡ counted_in Bare front
  pub short : s.length ≤ line_limit

-- a logical line, whatever follows it
abbrev pub IsWholeLine : List ℕ → Type 0
IsWholeLine line = (more : List ℕ) → lines_of (line ++ more) ≡ line ∷ lines_of more

-- the front of a line that is long
pub record IsLongFront (front : List ℕ) : Type 0 where
  pub goes_on : ends_within Bare front ≡ false
  pub long : line_limit < counted_in Bare front

-- behind the front of a line, what a further piece brings
abbrev pub Walks : List ℕ → List ℕ → LineScan → Walked → Type 0
Walks front piece s (walked.Ends n) = (0 < n) × (n ≤ length piece) × IsWholeLine (front ++ take n piece) × (has_feed (front ++ take n piece) ≡ true)
Walks front piece s walked.Long = (n : ℕ) × (n ≤ length piece) × IsLongFront (front ++ take n piece)
Walks front piece s walked.GoesOn = Scans (front ++ piece) s

-- how many bytes from the first on are known to leave what stands behind them as it is, and to count for one each
abbrev pub steady_count : Quoting → List ℕ → ℕ
steady_count Bare bytes = mild_count bytes
steady_count Single bytes = mild_count bytes
steady_count Double bytes = mild_count bytes
steady_count Comment bytes = feedless_count bytes
steady_count BareSlash bytes = 0
steady_count SingleSlash bytes = 0
steady_count DoubleSlash bytes = 0
