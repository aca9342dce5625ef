-- The moves of others since a worker's last receipt, with one receipt more.
use Rattle.std.proofs.Common.{arith, ◌≡◌, ◌≢◌, ℕ, ◌+◌, Bool, true, false, cond, not, List, [], ◌∷◌, refl, ap, sym, ◌∙◌, eq-eqb, ne_eqb}
use Rattle.std.specs.Prelude.{◌==◌, count_by, take_while}
use Rattle.std.proofs.lemmas.List.Sums.{sum_by-cons, take_while-cons}
use mathlib.Core.Logic.{dite}
use native.Mathlib.Decide.{ℕ_discrete}
use Rattle.xf_types.specs.declared.call.Receipt.{Receipt}
use Rattle.xf_types.specs.Moves.{is_moving}
use Rattle.xf_types.specs.History.{moves_since}

count-cons : {X : Type 0} (p : X → Bool) (x : X) (xs : List X) → count_by p (x ∷ xs) ≡ cond (p x) (1 + count_by p xs) (count_by p xs)
count-cons p x xs = sum_by-cons (λ y. cond (p y) 1 0) x xs ∙ out (p x) (count_by p xs)
  where
    out : (b : Bool) (n : ℕ) → cond b 1 0 + n ≡ cond b (1 + n) n
    out true n = refl
    out false n = omega arith

-- after a receipt of another
pub since-other : (w : ℕ) (r : Receipt) (l : List Receipt) → r.worker ≢ w → moves_since w (r ∷ l) ≡ cond (is_moving r.reply) (1 + moves_since w l) (moves_since w l)
since-other w r l other =
    let test : Receipt → Bool = λ q. not (q.worker == w) in
    let moves : Receipt → Bool = λ q. is_moving q.reply in
    ap (count_by moves)
    (take_while-cons test r l ∙ ap (λ (b : Bool). cond (not b) (r ∷ take_while test l) []) (ne_eqb r.worker w other))
    ∙ count-cons moves r (take_while test l)

-- after the worker's own
pub since-own : (w : ℕ) (r : Receipt) (l : List Receipt) → r.worker ≡ w → moves_since w (r ∷ l) ≡ 0
since-own w r l same =
    let test : Receipt → Bool = λ q. not (q.worker == w) in
    ap (count_by (λ (q : Receipt). is_moving q.reply))
    (take_while-cons test r l ∙ ap (λ (b : Bool). cond (not b) (r ∷ take_while test l) []) (eq-eqb r.worker w same))

-- both pasts have as many moves since each worker's last receipt, but for this one's
abbrev pub PastApart : ℕ → List Receipt → List Receipt → Type 0
PastApart k l m = (w : ℕ) → w ≢ k → moves_since w l ≡ moves_since w m

pub past-more : (l m : List Receipt) (k : ℕ) → PastApart k l m → (q : Receipt) → PastApart k (q ∷ l) (q ∷ m)
past-more l m k past q w other = dite (ℕ_discrete q.worker w)
    (λ same. since-own w q l same ∙ sym (since-own w q m same))
    (λ apart. since-other w q l apart ∙ ap (λ (z : ℕ). cond (is_moving q.reply) (1 + z) z) (past w other) ∙ sym (since-other w q m apart))

pub past-one : (l : List Receipt) (r : Receipt) → is_moving r.reply ≡ false → PastApart r.worker l (r ∷ l)
past-one l r still w other = sym (since-other w r l (λ same. other (sym same)) ∙ ap (λ (b : Bool). cond b (1 + moves_since w l) (moves_since w l)) still)
