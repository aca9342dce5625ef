-- On whose own part each mark says that its receipt rests.
use Rattle.std.proofs.Common.{◌≡◌, ℕ, zero, suc, Bool, true, false, List, [], ◌∷◌, ◌++◌, set, take, drop, Some, None, Option, refl, sym, ap, ◌∙◌, subst, cond}
use Rattle.std.specs.Prelude.{IfSome}
use Rattle.std.proofs.lemmas.Bool.{cond-false}
use mathlib.Core.Option.{some, some-injective, some-ne-none}
use lib.ListN.{get_elem?}
use Rattle.xf_types.specs.declared.call.Receipt.{Receipt}
use Rattle.xf_types.specs.Machine.{Shown}
use Rattle.xf_types.specs.Moves.{is_moving, after_move, after_moves, moves_of}
use Rattle.xf_late.specs.Rests.{rests_on}
use Rattle.xf_views.specs.Log.{Mark, mark, with_receipt, receipts_of, moves}
use Rattle.xf_ownpart.specs.OwnPart.{shown_with, AreMarked}

-- what is shown after all marks
abbrev pub shown_after_marks : Shown → List Mark → Shown
shown_after_marks s [] = s
shown_after_marks s (m ∷ ms) = shown_after_marks (shown_with s m.receipt) ms

one-more : (s : Shown) (r : Receipt) (rs : List Receipt) (b : Bool) → after_moves s (cond b (r ∷ rs) rs) ≡ after_moves (cond b (after_move s r.call r.reply) s) rs
one-more s r rs true = refl
one-more s r rs false = refl

with-moves : (s : Shown) (o : Option Receipt) (rs : List Receipt) → after_moves s (moves_of (with_receipt o rs)) ≡ after_moves (shown_with s o) (moves_of rs)
with-moves s None rs = refl
with-moves s (Some r) rs = one-more s r (moves_of rs) (is_moving r.reply)

-- it is what the moves make of it
pub marks-moves : (s : Shown) (log : List Mark) → shown_after_marks s log ≡ after_moves s (moves log)
marks-moves s [] = refl
marks-moves s (m ∷ ms) = marks-moves (shown_with s m.receipt) ms ∙ sym (with-moves s m.receipt (receipts_of ms))

-- one mark more
pub marked-append : (s : Shown) (log : List Mark) (m : Mark) → AreMarked s log → IfSome m.receipt (λ r. m.rests ≡ rests_on (shown_after_marks s log) r) → AreMarked s (log ++ m ∷ [])
marked-append s [] m a h = (h, tt)
marked-append s (x ∷ xs) m a h = (a.0, marked-append (shown_with s x.receipt) xs m a.1 h)

-- behind a number that has no receipt
behind-blank : (s : Shown) (m : Mark) (ms : List Mark) (k : ℕ) → some m ≡ some (mark k None None) → AreMarked s (m ∷ ms) → AreMarked s ms
behind-blank s m ms k at a = subst (λ (o : Option Receipt). AreMarked (shown_with s o) ms) (ap (λ (z : Mark). z.receipt) (some-injective m (mark k None None) at)) a.1

-- a receipt that comes to stand there
pub marked-set : (s : Shown) (log : List Mark) (x k : ℕ) (sid : Option ℕ) (r : Receipt) → get_elem? log x ≡ some (mark k None None) → is_moving r.reply ≡ false
    → sid ≡ rests_on (shown_after_marks s (take x log)) r → AreMarked s log → AreMarked s (set log x (mark k sid (Some r)))
marked-set s [] x k sid r at still h a = absurd (some-ne-none (mark k None None) (sym at))
marked-set s (m ∷ ms) zero k sid r at still h a =
    (h, subst (λ (z : Shown). AreMarked z ms) (sym (cond-false (is_moving r.reply) (after_move s r.call r.reply) s still)) (behind-blank s m ms k at a))
marked-set s (m ∷ ms) (suc x) k sid r at still h a = (a.0, marked-set (shown_with s m.receipt) ms x k sid r at still h a.1)

-- those behind it
pub marked-behind : (s : Shown) (log : List Mark) (x k : ℕ) → get_elem? log x ≡ some (mark k None None) → AreMarked s log → AreMarked (shown_after_marks s (take x log)) (drop (suc x) log)
marked-behind s [] x k at a = absurd (some-ne-none (mark k None None) (sym at))
marked-behind s (m ∷ ms) zero k at a = behind-blank s m ms k at a
marked-behind s (m ∷ ms) (suc x) k at a = marked-behind (shown_with s m.receipt) ms x k at a.1

shown-kept : (s : Shown) (o : Option Receipt) → ((r : Receipt) → o ≡ Some r → is_moving r.reply ≡ false) → shown_with s o ≡ s
shown-kept s None still = refl
shown-kept s (Some r) still = cond-false (is_moving r.reply) (after_move s r.call r.reply) s (still r refl)

-- where none moves, all say so by what is shown first
pub marked-still : (s : Shown) (ms : List Mark) → AreMarked s ms → ((j : ℕ) (m : Mark) (q : Receipt) → get_elem? ms j ≡ some m → m.receipt ≡ Some q → is_moving q.reply ≡ false)
    → (j : ℕ) (m : Mark) (q : Receipt) → get_elem? ms j ≡ some m → m.receipt ≡ Some q → m.rests ≡ rests_on s q
marked-still s [] a still j m q at got = absurd (some-ne-none m (sym at))
marked-still s (y ∷ ys) a still zero m q at got =
    let same : y ≡ m = some-injective y m at in
    sym (ap (λ (z : Mark). z.rests) same)
    ∙ subst (λ (o : Option Receipt). IfSome o (λ (r : Receipt). y.rests ≡ rests_on s r)) (ap (λ (z : Mark). z.receipt) same ∙ got) a.0
marked-still s (y ∷ ys) a still (suc j) m q at got =
    marked-still s ys (subst (λ (z : Shown). AreMarked z ys) (shown-kept s y.receipt (λ r e. still zero y r refl e)) a.1) (λ i u p e g. still (suc i) u p e g) j m q at got
