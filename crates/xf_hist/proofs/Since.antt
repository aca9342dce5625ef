-- Moves of others since a worker's last receipt.
use Rattle.std.proofs.Common.{arith, ◌≡◌, ◌≢◌, ℕ, ◌+◌, ◌==◌, ◌<◌, Bool, true, false, cond, not, List, [], ◌∷◌, ◌++◌, length, get_or, take, reverse, refl, ap, sym, ◌∙◌, eq-eqb, eqb-true}
use Rattle.std.specs.Prelude.{count_by, take_while}
use Rattle.std.proofs.lemmas.List.{take_more, reverse-append}
use Rattle.std.proofs.lemmas.List.Sums.{sum_by-cons, take_while-cons}
use Rattle.xf_types.specs.declared.call.Receipt.{Receipt}
use Rattle.xf_types.specs.Moves.{is_moving}
use Rattle.xf_types.specs.History.{moves_since}

count-cons : {X : Type 0} (p : X → Bool) (x : X) (xs : List X) → count_by p (x ∷ xs) ≡ cond (p x) (1 + count_by p xs) (count_by p xs)
count-cons p x xs = sum_by-cons (λ y. cond (p y) 1 0) x xs ∙ out (p x) (count_by p xs)
  where
    out : (b : Bool) (n : ℕ) → cond b 1 0 + n ≡ cond b (1 + n) n
    out true n = refl
    out false n = omega arith

other_number : (m n : ℕ) → m ≢ n → (m == n) ≡ false
other_number m n apart = elim (m == n) as (λ b. (m == n) ≡ b → b ≡ false) [ true ↦ (λ e. absurd (apart (eqb-true m n e))) | false ↦ (λ e. refl) ] refl

-- after a receipt of another
since-other : (w : ℕ) (r : Receipt) (l : List Receipt) → r.worker ≢ w → moves_since w (r ∷ l) ≡ cond (is_moving r.reply) (1 + moves_since w l) (moves_since w l)
since-other w r l other =
    let test : Receipt → Bool = λ q. not (q.worker == w) in
    let moves : Receipt → Bool = λ q. is_moving q.reply in
    ap (count_by moves)
    (take_while-cons test r l ∙ ap (λ (b : Bool). cond (not b) (r ∷ take_while test l) []) (other_number r.worker w other))
    ∙ count-cons moves r (take_while test l)

-- after the worker's own
since-own : (w : ℕ) (r : Receipt) (l : List Receipt) → r.worker ≡ w → moves_since w (r ∷ l) ≡ 0
since-own w r l same =
    let test : Receipt → Bool = λ q. not (q.worker == w) in
    ap (count_by (λ (q : Receipt). is_moving q.reply))
    (take_while-cons test r l ∙ ap (λ (b : Bool). cond (not b) (r ∷ take_while test l) []) (eq-eqb r.worker w same))

-- one receipt more of a list
since-more : (w : ℕ) (rs : List Receipt) (i : ℕ) (r : Receipt) → i < length rs → r ≡ get_or rs i r
    → moves_since w (reverse (take (i + 1) rs)) ≡ moves_since w (r ∷ reverse (take i rs))
since-more w rs i r within at_i =
    ap (λ xs. moves_since w (reverse xs)) (take_more rs i r within)
    ∙ ap (λ (x : Receipt). moves_since w (reverse (take i rs ++ x ∷ []))) (sym at_i)
    ∙ ap (moves_since w) (reverse-append (take i rs) (r ∷ []))

-- one that is the worker's own
pub own-more : (w : ℕ) (rs : List Receipt) (i : ℕ) (r : Receipt) (new : ℕ) → i < length rs → r ≡ get_or rs i r → r.worker ≡ w → new ≡ 0
    → new ≡ moves_since w (reverse (take (i + 1) rs))
own-more w rs i r new within at_i same is =
    is ∙ sym (since-more w rs i r within at_i ∙ since-own w r (reverse (take i rs)) same)

-- one that is of another
pub other-more : (w : ℕ) (rs : List Receipt) (i : ℕ) (r : Receipt) (moves new : ℕ) → i < length rs → r ≡ get_or rs i r → r.worker ≢ w
    → moves ≡ moves_since w (reverse (take i rs)) → new ≡ cond (is_moving r.reply) (1 + moves) moves
    → new ≡ moves_since w (reverse (take (i + 1) rs))
other-more w rs i r moves new within at_i other so is =
    is ∙ ap (λ n. cond (is_moving r.reply) (1 + n) n) so
    ∙ sym (since-more w rs i r within at_i ∙ since-other w r (reverse (take i rs)) other)
