-- One more byte of a line whose end isn't found yet.
use Rattle.std.proofs.Common.{◌≡◌, ℕ, ◌+◌, ◌<◌, ◌≤◌, true, false, List, [], ◌∷◌, ◌++◌, length, take, get_or, sym, ap, ◌∙◌, arith, append_assoc, add-zero}
use Rattle.std.proofs.lemmas.List.{take_more}
use Rattle.xf_lex.specs.declared.quoting.Quoting.TheVariants.{Bare}
use Rattle.xf_lex.specs.Lines.{line_limit}
use Rattle.xf_lex.specs.Quotes.{after, counted}
use Rattle.xf_batch.specs.declared.line_scan.LineScan.{LineScan}
use Rattle.xf_batch.specs.LineEnds.{ends_at, ends_within, has_feed}
use Rattle.xf_batch.specs.Scans.{Scans, IsWholeLine, IsLongFront, quoting_behind, counted_in}
use Rattle.xf_batch.proofs.Lines.{quoting_behind-append, counted_in-append, ends_within-append, line_ends, or_false, or_last}

-- a piece as far as its next byte
pub one_further : (front piece : List ℕ) (i : ℕ) → i < length piece
    → front ++ take (i + 1) piece ≡ (front ++ take i piece) ++ get_or piece i 0 ∷ []
one_further front piece i within =
    ap (λ (l : List ℕ). front ++ l) (take_more piece i 0 within) ∙ sym (append_assoc front (take i piece) (get_or piece i 0 ∷ []))

goes_on-more : (front : List ℕ) (s : LineScan) (b : ℕ) → Scans front s → ends_at s.quoting b ≡ false → ends_within Bare (front ++ b ∷ []) ≡ false
goes_on-more front s b scans here =
    ends_within-append Bare front (b ∷ [])
    ∙ or_false (ends_within Bare front) (ends_at (quoting_behind Bare front) b) scans.goes_on
    (ap (λ q. ends_at q b) (sym scans.quoting) ∙ here)

counted-more : (front : List ℕ) (s : LineScan) (b : ℕ) → Scans front s → counted_in Bare (front ++ b ∷ []) ≡ s.length + counted s.quoting b
counted-more front s b scans =
    counted_in-append Bare front (b ∷ [])
    ∙ ap (λ n. counted_in Bare front + n) (add-zero (counted (quoting_behind Bare front) b))
    ∙ ap (λ q. counted_in Bare front + counted q b) (sym scans.quoting)
    ∙ ap (λ n. n + counted s.quoting b) (sym scans.length)

-- the byte ends the line
pub Scans-end : (front : List ℕ) (s : LineScan) (b : ℕ) → Scans front s → ends_at s.quoting b ≡ true → IsWholeLine (front ++ b ∷ [])
Scans-end front s b scans here =
    λ more. line_ends front more b scans.goes_on (ap (λ q. ends_at q b) (sym scans.quoting) ∙ here)

pub feed-end : (front : List ℕ) (s : LineScan) (b : ℕ) → Scans front s → ends_at s.quoting b ≡ true → has_feed (front ++ b ∷ []) ≡ true
feed-end front s b scans here =
    ends_within-append Bare front (b ∷ [])
    ∙ or_last (ends_within Bare front) (ends_at (quoting_behind Bare front) b) (ap (λ q. ends_at q b) (sym scans.quoting) ∙ here)

-- the line is long with the byte
pub Scans-long : (front : List ℕ) (s : LineScan) (b : ℕ) → Scans front s → ends_at s.quoting b ≡ false
    → line_limit < s.length + counted s.quoting b → IsLongFront (front ++ b ∷ [])
Scans-long front s b scans here long = record {
  goes_on = goes_on-more front s b scans here;
  long = omega (arith, long, counted-more front s b scans);
}

-- the line goes on behind the byte
pub Scans-more : (front : List ℕ) (s new : LineScan) (b : ℕ) → Scans front s → ends_at s.quoting b ≡ false → new.quoting ≡ after s.quoting b
    → new.length ≡ s.length + counted s.quoting b → new.length ≤ line_limit → Scans (front ++ b ∷ []) new
Scans-more front s new b scans here quoting count short = record {
  goes_on = goes_on-more front s b scans here;
  quoting = quoting ∙ ap (λ q. after q b) scans.quoting ∙ sym (quoting_behind-append Bare front (b ∷ []));
  length = count ∙ sym (counted-more front s b scans);
  short = short;
}
