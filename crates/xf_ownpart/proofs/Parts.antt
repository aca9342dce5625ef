-- The receipts before a number that has none, and those behind it.
use Rattle.std.proofs.Common.{◌≡◌, ℕ, zero, suc, ◌+◌, List, [], ◌∷◌, ◌++◌, set, take, drop, Some, None, Option, refl, sym, ap, ◌∙◌, subst, arith, All}
use Rattle.std.proofs.lemmas.List.Elements.{All-nil, All-cons}
use mathlib.Core.Option.{some, some-injective, some-ne-none}
use lib.ListN.{get_elem?}
use Rattle.xf_types.specs.declared.call.Receipt.{Receipt}
use Rattle.xf_views.specs.Log.{Mark, mark, with_receipt, receipts_of}

with-append : (o : Option Receipt) (a c : List Receipt) → with_receipt o (a ++ c) ≡ with_receipt o a ++ c
with-append None a c = refl
with-append (Some r) a c = refl

pub receipts-part : (log : List Mark) (x k : ℕ) → get_elem? log x ≡ some (mark k None None) → receipts_of log ≡ receipts_of (take x log) ++ receipts_of (drop (suc x) log)
receipts-part [] x k at = absurd (some-ne-none (mark k None None) (sym at))
receipts-part (m ∷ ms) zero k at = ap (λ (z : Mark). with_receipt z.receipt (receipts_of ms)) (some-injective m (mark k None None) at)
receipts-part (m ∷ ms) (suc x) k at =
    ap (with_receipt m.receipt) (receipts-part ms x k at) ∙ with-append m.receipt (receipts_of (take x ms)) (receipts_of (drop (suc x) ms))

-- and one that comes to stand there
pub receipts-set : (log : List Mark) (x k : ℕ) (sid : Option ℕ) (r : Receipt) → get_elem? log x ≡ some (mark k None None)
    → receipts_of (set log x (mark k sid (Some r))) ≡ receipts_of (take x log) ++ r ∷ receipts_of (drop (suc x) log)
receipts-set [] x k sid r at = absurd (some-ne-none (mark k None None) (sym at))
receipts-set (m ∷ ms) zero k sid r at = refl
receipts-set (m ∷ ms) (suc x) k sid r at =
    ap (with_receipt m.receipt) (receipts-set ms x k sid r at) ∙ with-append m.receipt (receipts_of (take x ms)) (r ∷ receipts_of (drop (suc x) ms))

pub at_drop : {A : Type 0} (l : List A) (n j k : ℕ) (a : A) → k ≡ n + j → get_elem? (drop n l) j ≡ some a → get_elem? l k ≡ some a
at_drop [] zero j k a e h = absurd (some-ne-none a (sym h))
at_drop [] (suc n) j k a e h = absurd (some-ne-none a (sym h))
at_drop (x ∷ xs) zero j k a e h = let same : j ≡ k = omega arith in subst (λ z. get_elem? (x ∷ xs) z ≡ some a) same h
at_drop (x ∷ xs) (suc n) j zero a e h = absurd (omega arith)
at_drop (x ∷ xs) (suc n) j (suc k) a e h = at_drop xs n j k a (omega arith) h

with-all : (P : Receipt → Type 0) (o : Option Receipt) (rs : List Receipt) → ((r : Receipt) → o ≡ Some r → P r) → All P rs → All P (with_receipt o rs)
with-all P None rs h all = all
with-all P (Some r) rs h all = All-cons P r rs (h r refl) all

-- what holds of the receipt of each mark
pub receipts-all : (P : Receipt → Type 0) (ms : List Mark) → ((j : ℕ) (m : Mark) (q : Receipt) → get_elem? ms j ≡ some m → m.receipt ≡ Some q → P q) → All P (receipts_of ms)
receipts-all P [] h = All-nil P
receipts-all P (m ∷ ms) h = with-all P m.receipt (receipts_of ms) (λ r e. h zero m r refl e) (receipts-all P ms (λ j u q at got. h (suc j) u q at got))
