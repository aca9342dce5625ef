-- Where logical lines end, piece by piece.
use Rattle.std.proofs.Common.{◌≡◌, ℕ, zero, suc, ◌+◌, ◌<◌, Bool, true, false, ◌||◌, List, [], ◌∷◌, ◌++◌, length, take, drop, get_or, refl, sym, ap, ◌∙◌, arith, append-nil, append_assoc}
use Rattle.std.specs.List.{filter}
use Rattle.std.proofs.lemmas.List.{take_more, take-append-drop}
use Rattle.std.proofs.lemmas.Bool.Decides.{nat_tests}
use Rattle.xf_lex.specs.declared.quoting.Quoting.{Quoting}
use Rattle.xf_lex.specs.declared.quoting.Quoting.TheVariants.{Bare}
use Rattle.xf_lex.specs.Quotes.{after, is_slash}
use Rattle.xf_lex.specs.LogicalLines.{lines_from, lines_of}
use Rattle.xf_batch.specs.LineEnds.{ends_at, ends_within, has_feed}
use Rattle.xf_batch.specs.Scans.{quoting_behind, counted_in}

pub quoting_behind-append : (m : Quoting) (xs ys : List ℕ) → quoting_behind m (xs ++ ys) ≡ quoting_behind (quoting_behind m xs) ys
quoting_behind-append m [] ys = refl
quoting_behind-append m (x ∷ xs) ys = quoting_behind-append (after m x) xs ys

pub counted_in-append : (m : Quoting) (xs ys : List ℕ) → counted_in m (xs ++ ys) ≡ counted_in m xs + counted_in (quoting_behind m xs) ys
counted_in-append m [] ys = omega arith
counted_in-append m (x ∷ xs) ys = omega (arith, counted_in-append (after m x) xs ys)

or_assoc : (a b c : Bool) → (a || (b || c)) ≡ ((a || b) || c)
or_assoc true b c = refl
or_assoc false b c = refl

pub ends_within-append : (m : Quoting) (xs ys : List ℕ)
    → ends_within m (xs ++ ys) ≡ (ends_within m xs || ends_within (quoting_behind m xs) ys)
ends_within-append m [] ys = refl
ends_within-append m (x ∷ xs) ys =
    ap (λ (e : Bool). ends_at m x || e) (ends_within-append (after m x) xs ys)
    ∙ or_assoc (ends_at m x) (ends_within (after m x) xs) (ends_within (quoting_behind (after m x) xs) ys)

pub neither : (a b : Bool) → (a || b) ≡ false → (a ≡ false) × (b ≡ false)
neither true b e = absurd cc
neither false b e = (refl, e)

-- one more byte
pub quoting_behind-more : (m : Quoting) (bytes : List ℕ) (i : ℕ) → i < length bytes
    → quoting_behind m (take (i + 1) bytes) ≡ after (quoting_behind m (take i bytes)) (get_or bytes i 0)
quoting_behind-more m bytes i within =
    ap (quoting_behind m) (take_more bytes i 0 within) ∙ quoting_behind-append m (take i bytes) (get_or bytes i 0 ∷ [])

pub or_false : (a b : Bool) → a ≡ false → b ≡ false → (a || (b || false)) ≡ false
or_false a b p q = rw (p, q) refl

pub ends_within-more : (m : Quoting) (bytes : List ℕ) (i : ℕ) → i < length bytes → ends_within m (take i bytes) ≡ false
    → ends_at (quoting_behind m (take i bytes)) (get_or bytes i 0) ≡ false → ends_within m (take (i + 1) bytes) ≡ false
ends_within-more m bytes i within before here =
    ap (ends_within m) (take_more bytes i 0 within)
    ∙ ends_within-append m (take i bytes) (get_or bytes i 0 ∷ [])
    ∙ or_false (ends_within m (take i bytes)) (ends_at (quoting_behind m (take i bytes)) (get_or bytes i 0)) before here

pub or_last : (a b : Bool) → b ≡ true → (a || (b || false)) ≡ true
or_last true b q = refl
or_last false b q = rw (q) refl

-- where no line ends within some bytes, none ends within their front
pub ends_within-front : (m : Quoting) (xs ys : List ℕ) → ends_within m (xs ++ ys) ≡ false → ends_within m xs ≡ false
ends_within-front m xs ys e = (neither (ends_within m xs) (ends_within (quoting_behind m xs) ys) (sym (ends_within-append m xs ys) ∙ e)).0

pub ends_within-take : (m : Quoting) (n : ℕ) (bytes : List ℕ) → ends_within m bytes ≡ false → ends_within m (take n bytes) ≡ false
ends_within-take m n bytes e =
    ends_within-front m (take n bytes) (drop n bytes) (ap (ends_within m) (take-append-drop n bytes) ∙ e)

or_true : (a b : Bool) → b ≡ true → (a || b) ≡ true
or_true true b e = refl
or_true false b e = e

-- where a line goes on, its bytes stand behind those before
pub lines_from-unended : (m : Quoting) (line bytes more : List ℕ) → ends_within m bytes ≡ false
    → lines_from m line (bytes ++ more) ≡ lines_from (quoting_behind m bytes) (line ++ bytes) more
lines_from-unended m line [] more on = ap (λ (l : List ℕ). lines_from m l more) (sym (append-nil line))
lines_from-unended m line (b ∷ bytes) more on =
    let parts = neither (ends_at m b) (ends_within (after m b) bytes) on in
    rw (parts.0) (
    lines_from-unended (after m b) (line ++ b ∷ []) bytes more parts.1
    ∙ ap (λ (l : List ℕ). lines_from (quoting_behind (after m b) bytes) l more) (append_assoc line (b ∷ []) bytes))

-- a byte that ends its line is a line feed behind no backslash
feed_of : (m : Quoting) (b : ℕ) → ends_at m b ≡ true → (b ≡ 10) × (is_slash m ≡ false)
feed_of m b ends = grind (arith, nat_tests)

-- a line ends at a line feed that joins nothing, whatever follows it
pub line_ends : (w more : List ℕ) (b : ℕ) → ends_within Bare w ≡ false → ends_at (quoting_behind Bare w) b ≡ true
    → lines_of ((w ++ b ∷ []) ++ more) ≡ (w ++ b ∷ []) ∷ lines_of more
line_ends w more b goes_on ends =
    ap lines_of (append_assoc w (b ∷ []) more)
    ∙ lines_from-unended Bare [] w (b ∷ more) goes_on
    ∙ rw (ends) refl

-- the same at a place of some bytes
pub line_ends-at : (bytes more : List ℕ) (i : ℕ) → i < length bytes → ends_within Bare (take i bytes) ≡ false
    → ends_at (quoting_behind Bare (take i bytes)) (get_or bytes i 0) ≡ true
    → lines_of (bytes ++ more) ≡ take (i + 1) bytes ∷ lines_of (drop (i + 1) bytes ++ more)
line_ends-at bytes more i within goes_on ends =
    let line : take (i + 1) bytes ≡ take i bytes ++ get_or bytes i 0 ∷ [] = take_more bytes i 0 within in
    let parts : bytes ++ more ≡ (take i bytes ++ get_or bytes i 0 ∷ []) ++ (drop (i + 1) bytes ++ more) =
    ap (λ (l : List ℕ). l ++ more) (sym (take-append-drop (i + 1) bytes))
    ∙ append_assoc (take (i + 1) bytes) (drop (i + 1) bytes) more
    ∙ ap (λ (l : List ℕ). l ++ (drop (i + 1) bytes ++ more)) line
    in
    ap lines_of parts
    ∙ line_ends (take i bytes) (drop (i + 1) bytes ++ more) (get_or bytes i 0) goes_on ends
    ∙ ap (λ (l : List ℕ). l ∷ lines_of (drop (i + 1) bytes ++ more)) (sym line)

-- a line ends within the bytes that hold the line feed
pub ends_within-at : (m : Quoting) (bytes : List ℕ) (i : ℕ) → i < length bytes
    → ends_at (quoting_behind m (take i bytes)) (get_or bytes i 0) ≡ true → ends_within m bytes ≡ true
ends_within-at m [] i within ends = absurd (omega (arith, within))
ends_within-at m (b ∷ bs) zero within ends = rw (ends) refl
ends_within-at m (b ∷ bs) (suc i) within ends =
    or_true (ends_at m b) (ends_within (after m b) bs) (ends_within-at (after m b) bs i (omega (arith, within)) ends)

-- the last line ends with the input
pub last_line : (bytes : List ℕ) → ends_within Bare bytes ≡ false → 0 < length bytes → lines_of bytes ≡ bytes ∷ []
last_line [] goes_on some = absurd (omega (arith, some))
last_line (b ∷ bs) goes_on some =
    ap lines_of (sym (append-nil (b ∷ bs))) ∙ lines_from-unended Bare [] (b ∷ bs) [] goes_on

-- so those of these bytes that are whole are none
pub no_feeds : (bytes : List ℕ) → ends_within Bare bytes ≡ false → filter has_feed (lines_of bytes) ≡ []
no_feeds [] goes_on = refl
no_feeds (b ∷ bs) goes_on =
    ap (λ (ls : List (List ℕ)). filter has_feed ls) (last_line (b ∷ bs) goes_on (omega arith)) ∙ rw (goes_on) refl
