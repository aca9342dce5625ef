-- Bytes of a line that are taken together.
use Rattle.std.proofs.Common.{◌≡◌, ℕ, zero, suc, ◌+◌, ◌-◌, ◌<◌, ◌≤◌, Bool, true, false, cond, eqb, List, [], ◌∷◌, ◌++◌, length, take, drop, refl, sym, ap, ◌∙◌, subst, arith, append_assoc, append-nil, add-zero, length-take-le}
use Rattle.std.proofs.lemmas.Bool.Decides.{nat_tests}
use Rattle.std.proofs.lemmas.List.{take_rest}
use Rattle.std.proofs.lemmas.List.Sums.{sum_by-cons}
use Rattle.std.proofs.Math.Seq.{take-add}
use Rattle.xf_bytes.specs.Runs.{feedless_count, is_mild, mild_count}
use Rattle.xf_lex.specs.declared.quoting.Quoting.{Quoting}
use Rattle.xf_lex.specs.declared.quoting.Quoting.TheVariants.{Bare, Single, Double, Comment, BareSlash, SingleSlash, DoubleSlash}
use Rattle.xf_lex.specs.Lines.{line_limit}
use Rattle.xf_lex.specs.LogicalLines.{physical_lines}
use Rattle.xf_lex.specs.Quotes.{after, counted}
use Rattle.xf_batch.specs.declared.line_scan.LineScan.{LineScan}
use Rattle.xf_batch.specs.LineEnds.{ends_at, lines_in}
use Rattle.xf_batch.specs.Scans.{Scans, steady_count}
use Rattle.xf_batch.proofs.Walking.{Scans-more}

-- the byte ends no line, leaves what stands behind it as it is, and counts for one
record IsSteady (m : Quoting) (b : ℕ) : Type 0 where
  on : ends_at m b ≡ false
  same : after m b ≡ m
  one : counted m b ≡ 1

bare_steady : (b : ℕ) → is_mild b ≡ true → IsSteady Bare b
bare_steady b mild = record { on = grind (arith, nat_tests); same = grind (arith, nat_tests); one = grind (arith, nat_tests) }

single_steady : (b : ℕ) → is_mild b ≡ true → IsSteady Single b
single_steady b mild = record { on = grind (arith, nat_tests); same = grind (arith, nat_tests); one = grind (arith, nat_tests) }

double_steady : (b : ℕ) → is_mild b ≡ true → IsSteady Double b
double_steady b mild = record { on = grind (arith, nat_tests); same = grind (arith, nat_tests); one = grind (arith, nat_tests) }

comment_steady : (b : ℕ) → eqb b 10 ≡ false → IsSteady Comment b
comment_steady b other = record { on = grind (arith, nat_tests); same = refl; one = grind (arith, nat_tests) }

first_mild : (k n : ℕ) (t : Bool) → suc k ≤ cond t (1 + n) 0 → (t ≡ true) × (k ≤ n)
first_mild k n true low = (refl, omega (arith, low))
first_mild k n false low = absurd (omega (arith, low))

first_feedless : (b k n : ℕ) (t : Bool) → eqb b 10 ≡ t → suc k ≤ cond t 0 (1 + n) → IsSteady Comment b × (k ≤ n)
first_feedless b k n true is low = absurd (omega (arith, low))
first_feedless b k n false is low = (comment_steady b is, omega (arith, low))

first_steady : (m : Quoting) (b : ℕ) (bs : List ℕ) (k : ℕ) → suc k ≤ steady_count m (b ∷ bs) → IsSteady m b × (k ≤ steady_count m bs)
first_steady Bare b bs k low = let first = first_mild k (mild_count bs) (is_mild b) low in (bare_steady b first.0, first.1)
first_steady Single b bs k low = let first = first_mild k (mild_count bs) (is_mild b) low in (single_steady b first.0, first.1)
first_steady Double b bs k low = let first = first_mild k (mild_count bs) (is_mild b) low in (double_steady b first.0, first.1)
first_steady Comment b bs k low = first_feedless b k (feedless_count bs) (eqb b 10) refl low
first_steady BareSlash b bs k low = absurd (omega (arith, low))
first_steady SingleSlash b bs k low = absurd (omega (arith, low))
first_steady DoubleSlash b bs k low = absurd (omega (arith, low))

steady_count-nil : (m : Quoting) → steady_count m [] ≡ 0
steady_count-nil Bare = refl
steady_count-nil Comment = refl
steady_count-nil Single = refl
steady_count-nil Double = refl
steady_count-nil BareSlash = refl
steady_count-nil SingleSlash = refl
steady_count-nil DoubleSlash = refl

-- the scan behind so many of them
abbrev pub scan_on : LineScan → ℕ → LineScan
scan_on s n = record { quoting = s.quoting; length = s.length + n }

-- many are taken as one after another
pub Scans-run : (front rest : List ℕ) (s : LineScan) (n : ℕ) → n ≤ steady_count s.quoting rest → s.length + n ≤ line_limit
    → Scans front s → Scans (front ++ take n rest) (scan_on s n)
Scans-run front rest s zero low short scans =
    subst (λ (l : List ℕ). Scans l (scan_on s 0)) (sym (append-nil front))
    (subst (λ (n : ℕ). Scans front (record { quoting = s.quoting; length = n })) (sym (add-zero s.length)) scans)
Scans-run front [] s (suc n) low short scans = absurd (omega (arith, low, steady_count-nil s.quoting))
Scans-run front (b ∷ rest) s (suc n) low short scans =
    let first = first_steady s.quoting b rest n low in
    let count : s.length + 1 ≡ s.length + counted s.quoting b = omega (arith, first.0.one) in
    let next : Scans (front ++ b ∷ []) (scan_on s 1) =
    Scans-more front s (scan_on s 1) b scans first.0.on (sym first.0.same) count (omega (arith, short)) in
    let all : Scans ((front ++ b ∷ []) ++ take n rest) (scan_on (scan_on s 1) n) =
    Scans-run (front ++ b ∷ []) rest (scan_on s 1) n first.1 (omega (arith, short)) next in
    let size : (s.length + 1) + n ≡ s.length + suc n = omega arith in
    subst (λ (l : List ℕ). Scans l (scan_on s (suc n))) (append_assoc front (b ∷ []) (take n rest))
    (subst (λ (k : ℕ). Scans ((front ++ b ∷ []) ++ take n rest) (record { quoting = s.quoting; length = k })) size all)

-- a scan behind so many bytes of what is left of a piece
pub Scans-further : (front piece : List ℕ) (i n : ℕ) (s : LineScan)
    → Scans ((front ++ take i piece) ++ take n (take (length piece - i) (drop i piece))) s → Scans (front ++ take (i + n) piece) s
Scans-further front piece i n s scans =
    let same : (front ++ take i piece) ++ take n (take (length piece - i) (drop i piece)) ≡ front ++ take (i + n) piece =
    ap (λ (l : List ℕ). (front ++ take i piece) ++ take n l) (take_rest piece i)
    ∙ append_assoc front (take i piece) (take n (drop i piece))
    ∙ ap (λ (l : List ℕ). front ++ l) (sym (take-add i n piece)) in
    subst (λ (l : List ℕ). Scans l s) same scans

none_feed : (t : Bool) (n k size : ℕ) → cond t 0 (1 + n) ≡ suc size → (n ≡ size → k ≡ 0) → cond t 1 0 + k ≡ 0
none_feed true n k size all rest = absurd (omega (arith, all))
none_feed false n k size all rest = omega (arith, rest (omega (arith, all)))

-- bytes without a line feed end no physical line
pub feedless_lines : (bytes : List ℕ) → feedless_count bytes ≡ length bytes → physical_lines bytes ≡ 0
feedless_lines [] all = refl
feedless_lines (b ∷ bs) all =
    sum_by-cons (λ x. cond (eqb x 10) 1 0) b bs
    ∙ none_feed (eqb b 10) (feedless_count bs) (physical_lines bs) (length bs) all (feedless_lines bs)

-- so a line whose front has none is one
pub one_line : (line : List ℕ) → 0 < length line → feedless_count (take (length line - 1) line) ≡ length line - 1 → 1 ≡ lines_in line
one_line [] some all = absurd (omega (arith, some))
one_line (b ∷ bs) some all =
    let size : length (b ∷ bs) - 1 ≡ length bs = omega arith in
    let front : feedless_count (take (length bs) (b ∷ bs)) ≡ length bs =
    ap (λ k. feedless_count (take k (b ∷ bs))) (sym size) ∙ all ∙ size in
    omega (arith, feedless_lines (take (length bs) (b ∷ bs)) (front ∙ sym (length-take-le (length bs) (b ∷ bs) (omega arith))))
