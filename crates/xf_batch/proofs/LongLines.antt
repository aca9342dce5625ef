-- A line whose front is long is long.
use Rattle.std.proofs.Common.{◌≡◌, ℕ, ◌+◌, ◌<◌, ◌≤◌, Bool, true, false, List, [], ◌∷◌, ◌++◌, refl, sym, ap, ◌∙◌, arith, append-nil, append_assoc, Err, nat_lt, cond}
use Rattle.std.proofs.lemmas.Bool.Decides.{nat_tests}
use Rattle.xf_types.specs.declared.status.Reason.TheVariants.{Long}
use Rattle.xf_lex.specs.declared.quoting.Quoting.{Quoting}
use Rattle.xf_lex.specs.declared.quoting.Quoting.TheVariants.{Bare, Single, Double, Comment, BareSlash, SingleSlash, DoubleSlash}
use Rattle.xf_lex.specs.Quotes.{after}
use Rattle.xf_lex.specs.Lexing.{Lexed, turn, turn_at}
use Rattle.xf_lex.specs.Lines.{Scanned, line_limit, line_start, scan_turn, scanned_from, words_of}
use Rattle.xf_lex.specs.LogicalLines.{lines_from, lines_of}
use Rattle.xf_read.specs.Items.{line_item}
use Rattle.xf_batch.specs.LineEnds.{ends_at}
use Rattle.xf_batch.specs.Scans.{IsLongFront, quoting_behind, counted_in}
use Rattle.xf_batch.proofs.Lines.{lines_from-unended}

-- the words and the lines go by the same quotes
quoting-turn_at : (s : Lexed) (m : Quoting) (b : ℕ) → s.quoting ≡ m → (turn_at s m b).quoting ≡ after m b
quoting-turn_at s Bare b e = grind (arith, nat_tests)
quoting-turn_at s Single b e = grind (arith, nat_tests)
quoting-turn_at s Double b e = grind (arith, nat_tests)
quoting-turn_at s Comment b e = e
quoting-turn_at s BareSlash b e = grind (arith, nat_tests)
quoting-turn_at s SingleSlash b e = grind (arith, nat_tests)
quoting-turn_at s DoubleSlash b e = grind (arith, nat_tests)

-- a byte is one too many, or the line goes on
scanned-turn : (s : Scanned) (b : ℕ) (bs : List ℕ)
    → (nat_lt line_limit (scan_turn s b).length ≡ false → scanned_from (scan_turn s b) bs ≡ Err Long) → scanned_from s (b ∷ bs) ≡ Err Long
scanned-turn s b bs more =
    let go : (t : Bool) → (t ≡ false → scanned_from (scan_turn s b) bs ≡ Err Long) → cond t (Err Long) (scanned_from (scan_turn s b) bs) ≡ Err Long =
    λ t. elim t as (λ t. (t ≡ false → scanned_from (scan_turn s b) bs ≡ Err Long) → cond t (Err Long) (scanned_from (scan_turn s b) bs) ≡ Err Long)
    [ true ↦ λ h. refl | false ↦ λ h. h refl ] in
    go (nat_lt line_limit (scan_turn s b).length) more

scanned-long : (s : Scanned) (front more : List ℕ) → s.length ≤ line_limit → line_limit < s.length + counted_in s.lexed.quoting front
    → scanned_from s (front ++ more) ≡ Err Long
scanned-long s [] more short long = absurd (omega (arith, short, long))
scanned-long s (b ∷ bs) more short long =
    scanned-turn s b (bs ++ more)
    (λ fits.
    let quoting : (turn s.lexed b).quoting ≡ after s.lexed.quoting b = quoting-turn_at s.lexed s.lexed.quoting b refl in
    let still : (scan_turn s b).length ≤ line_limit = grind (arith, nat_tests, fits) in
    let count : counted_in (turn s.lexed b).quoting bs ≡ counted_in (after s.lexed.quoting b) bs = ap (λ q. counted_in q bs) quoting in
    scanned-long (scan_turn s b) bs more still (omega (arith, long, count)))

pub words_of-long : (front more : List ℕ) → line_limit < counted_in Bare front → words_of (front ++ more) ≡ Err Long
unfolding words_of
words_of-long front more long = scanned-long line_start front more (omega arith) (omega (arith, long))

pub line_item-long : (front more : List ℕ) → line_limit < counted_in Bare front → line_item (front ++ more) ≡ Err Long
unfolding line_item
line_item-long front more long = rw (words_of-long front more long) refl

-- the first of some lines begins with these bytes
pub record Begins (front : List ℕ) (lines : List (List ℕ)) : Type 0 where
  pub more : List ℕ
  pub rest : List (List ℕ)
  pub is : lines ≡ (front ++ more) ∷ rest

-- a line that has begun stays the first one
begun : (m : Quoting) (b : ℕ) (bs more : List ℕ) → Begins (b ∷ bs) (lines_from m (b ∷ bs) more)
begun m b bs [] = record { more = []; rest = []; is = ap (λ (l : List ℕ). l ∷ []) (sym (append-nil (b ∷ bs))) }
begun m b bs (x ∷ more) =
    let longer = bs ++ x ∷ [] in
    let go : (t : Bool) → Begins (b ∷ bs) (cond t ((b ∷ longer) ∷ lines_from Bare [] more) (lines_from (after m x) (b ∷ longer) more)) =
    λ t. elim t as (λ t. Begins (b ∷ bs) (cond t ((b ∷ longer) ∷ lines_from Bare [] more) (lines_from (after m x) (b ∷ longer) more))) [
      | true ↦ record { more = x ∷ []; rest = lines_from Bare [] more; is = refl }
      | false ↦ let r = begun (after m x) b longer more in
          record {
            more = x ∷ r.more;
            rest = r.rest;
            is = r.is ∙ ap (λ (l : List ℕ). l ∷ r.rest) (append_assoc (b ∷ bs) (x ∷ []) r.more);
          }
    ] in
    go (ends_at m x)

-- the first line begins with its front
pub Begins-front : (front more : List ℕ) → IsLongFront front → Begins front (lines_of (front ++ more))
Begins-front [] more long = absurd (omega (arith, long.long))
Begins-front (b ∷ bs) more long =
    let first = begun (quoting_behind Bare (b ∷ bs)) b bs more in
    record { more = first.more; rest = first.rest; is = lines_from-unended Bare [] (b ∷ bs) more long.goes_on ∙ first.is }
