-- What a receipt that comes to stand late does to them.
use Rattle.std.proofs.Common.{◌≡◌, ◌≢◌, ℕ, zero, suc, ◌+◌, ◌<◌, Bool, false, List, [], ◌∷◌, ◌++◌, set, Some, None, Option, refl, sym, ap, ◌∙◌, arith, eq-eqb, ne_eqb}
use Rattle.std.specs.Prelude.{if◌then◌else◌, ◌==◌}
use mathlib.Core.Option.{some, some-injective, some-ne-none}
use lib.ListN.{get_elem?}
use Rattle.xf_types.specs.declared.call.Receipt.{Receipt}
use Rattle.xf_types.specs.Moves.{is_moving, moves_of}
use Rattle.xf_views.specs.Log.{Mark, mark, with_receipt, receipts_of, moves, by_worker, marks_of}
use Rattle.xf_views.proofs.Logs.{if-append}

own_none : (k : ℕ) (ms : List Mark) → ((i : ℕ) (m : Mark) → get_elem? ms i ≡ some m → m.by ≢ k) → by_worker k ms ≡ []
own_none k [] none = refl
own_none k (m ∷ ms) none = ap (λ (b : Bool). if b then with_receipt m.receipt (by_worker k ms) else by_worker k ms) (ne_eqb m.by k (none zero m refl)) ∙ own_none k ms (λ i u e. none (suc i) u e)

pub own_settle : (k : ℕ) (log : List Mark) (x : ℕ) (s : Option ℕ) (r : Receipt) → get_elem? log x ≡ some (mark k None None) → ((i : ℕ) (m : Mark) → x < i → get_elem? log i ≡ some m → m.by ≢ k) → by_worker k (set log x (mark k s (Some r))) ≡ by_worker k log ++ r ∷ []
own_settle k [] x s r at later = absurd (some-ne-none (mark k None None) (sym at))
own_settle k (m ∷ ms) zero s r at later =
    let rest : by_worker k ms ≡ [] = own_none k ms (λ i u e. later (suc i) u (omega arith) e) in
    let one : by_worker k (mark k s (Some r) ∷ ms) ≡ r ∷ [] = ap (λ (b : Bool). if b then r ∷ by_worker k ms else by_worker k ms) (eq-eqb k k refl) ∙ ap (λ (l : List Receipt). r ∷ l) rest in
    let two : by_worker k (mark k None None ∷ ms) ≡ [] = ap (λ (b : Bool). if b then by_worker k ms else by_worker k ms) (eq-eqb k k refl) ∙ rest in
    let three : by_worker k (m ∷ ms) ≡ [] = ap (λ (u : Mark). by_worker k (u ∷ ms)) (some-injective m (mark k None None) at) ∙ two in
    one ∙ sym (ap (λ (l : List Receipt). l ++ r ∷ []) three)
own_settle k (m ∷ ms) (suc x) s r at later = ap (λ (l : List Receipt). if m.by == k then with_receipt m.receipt l else l) (own_settle k ms x s r at (λ i u h e. later (suc i) u (omega arith) e)) ∙ if-append (m.by == k) m.receipt (by_worker k ms) (r ∷ [])

pub own_settle_other : (k j : ℕ) (log : List Mark) (x : ℕ) (s : Option ℕ) (o : Option Receipt) (t : Option ℕ) (p : Option Receipt) → j ≢ k → get_elem? log x ≡ some (mark j s o) → by_worker k (set log x (mark j t p)) ≡ by_worker k log
own_settle_other k j [] x s o t p other at = refl
own_settle_other k j (m ∷ ms) zero s o t p other at =
    let is : (m.by == k) ≡ false = ap (λ (u : Mark). u.by == k) (some-injective m (mark j s o) at) ∙ ne_eqb j k other in
    ap (λ (b : Bool). if b then with_receipt p (by_worker k ms) else by_worker k ms) (ne_eqb j k other) ∙ sym (ap (λ (b : Bool). if b then with_receipt m.receipt (by_worker k ms) else by_worker k ms) is)
own_settle_other k j (m ∷ ms) (suc x) s o t p other at = ap (λ (l : List Receipt). if m.by == k then with_receipt m.receipt l else l) (own_settle_other k j ms x s o t p other at)

under_mark : (o : Option Receipt) (rs qs : List Receipt) → moves_of rs ≡ moves_of qs → moves_of (with_receipt o rs) ≡ moves_of (with_receipt o qs)
under_mark None rs qs e = e
under_mark (Some q) rs qs e = ap (λ (l : List Receipt). if is_moving q.reply then q ∷ l else l) e

pub moves_settle : (k : ℕ) (log : List Mark) (x : ℕ) (s : Option ℕ) (r : Receipt) → get_elem? log x ≡ some (mark k None None) → is_moving r.reply ≡ false → moves (set log x (mark k s (Some r))) ≡ moves log
moves_settle k [] x s r at still = refl
moves_settle k (m ∷ ms) zero s r at still = ap (λ (b : Bool). if b then r ∷ moves ms else moves ms) still ∙ sym (ap (λ (u : Mark). moves (u ∷ ms)) (some-injective m (mark k None None) at))
moves_settle k (m ∷ ms) (suc x) s r at still = under_mark m.receipt (receipts_of (set ms x (mark k s (Some r)))) (receipts_of ms) (moves_settle k ms x s r at still)

pub marks_settle : (j k : ℕ) (log : List Mark) (x : ℕ) (s : Option ℕ) (o : Option Receipt) (t : Option ℕ) (p : Option Receipt) → get_elem? log x ≡ some (mark k s o) → marks_of j (set log x (mark k t p)) ≡ marks_of j log
marks_settle j k [] x s o t p at = refl
marks_settle j k (m ∷ ms) zero s o t p at = ap (λ (u : ℕ). (if u == j then 1 else 0) + marks_of j ms) (sym (ap (λ (u : Mark). u.by) (some-injective m (mark k s o) at)))
marks_settle j k (m ∷ ms) (suc x) s o t p at = ap (λ (n : ℕ). (if m.by == j then 1 else 0) + n) (marks_settle j k ms x s o t p at)
