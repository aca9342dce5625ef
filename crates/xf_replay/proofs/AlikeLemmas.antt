-- The laws of alike lists, one lemma for each.
use Rattle.std.proofs.Common.{arith, ◌≡◌, ℕ, ◌+◌, ◌-◌, ◌<◌, max, List, ◌∷◌, Bool, true, false, ◌||◌, ◌&&◌, cond, refl, ap, ◌∙◌, sym, subst, inl, inr}
use Rattle.std.specs.Prelude.{◌==◌, nat_le}
use Rattle.std.proofs.lemmas.Bool.{eqb-false}
use Rattle.std.proofs.lemmas.Bool.Decides.{nat_tests, leb_tells}
use Rattle.xf_replay.specs.declared.window.Check.TheVariants.{Fresh, Zero, Old, Seen}
use Rattle.xf_replay.specs.Replay.{is_among, top, replay_check, IsTop, downwards, in_window, accepted_to, accepted_with}
use Rattle.xf_replay.specs.History.{normal_form}
use Rattle.xf_replay.specs.Laws.{AreAlikeLists}
use Rattle.xf_replay.proofs.Runs.{top-filter, filter-same, filter-all, is_among-downwards}
use Rattle.xf_replay.proofs.Sets.{eq-turned, IsTop-list, IsTop-one, IsTop-with, top-in_window, AreAlike-agree, in_window-alike, AreAlike-in_window, normal_form-in_window}

-- alike lists have one top
pub top-alike : (window : ℕ) (xs ys : List ℕ) → AreAlikeLists window xs ys → top xs ≡ top ys
top-alike window xs ys is = IsTop-one (is_among ys) (top xs) (top ys) is.top_b (IsTop-list ys)

-- an answer from its four tests
same_cases : (none nil old old' seen seen' : Bool) → old ≡ old' → (none ≡ false → nil ≡ false → old' ≡ false → seen ≡ seen')
    → cond none Fresh (cond nil Zero (cond old Old (cond seen Seen Fresh))) ≡ cond none Fresh (cond nil Zero (cond old' Old (cond seen' Seen Fresh)))
same_cases true nil old old' seen seen' e s = refl
same_cases false true old old' seen seen' e s = refl
same_cases false false old true seen seen' e s = rw e refl
same_cases false false old false seen seen' e s = rw (e, s refl refl refl) refl

-- a number that is not old lies right of the window's left edge
not_old : (window n t : ℕ) → (nat_le n t && nat_le window (t - n)) ≡ false → (window == 0) ≡ false → t < n + window
not_old window n t o s = grind (arith, nat_tests)

-- alike lists answer alike
pub replay_check-alike : (window n : ℕ) (xs ys : List ℕ) → AreAlikeLists window xs ys → replay_check window xs n ≡ replay_check window ys n
replay_check-alike window n xs ys is =
    let tops = top-alike window xs ys is in
    same_cases (window == 0) (n == 0) _ _ (is_among xs n) (is_among ys n) (ap (λ t. nat_le n t && nat_le window (t - n)) tops)
    (λ s z o.
    let some = eqb-false n 0 z in
    is.above n (omega arith) (not_old window n (top xs) (ap (λ t. nat_le n t && nat_le window (t - n)) tops ∙ o) s))

-- alike lists stay alike when the same number is accepted
pub AreAlike-cons : (window n : ℕ) (xs ys : List ℕ) → AreAlikeLists window xs ys → AreAlikeLists window (n ∷ xs) (n ∷ ys)
AreAlike-cons window n xs ys is =
    record {
      top_a = IsTop-list (n ∷ xs);
      top_b = subst (λ (t : ℕ). IsTop (is_among (n ∷ ys)) (max n t)) (sym (top-alike window xs ys is)) (IsTop-list (n ∷ ys));
      above = λ m pos near. ap (λ b. (n == m) || b) (is.above m pos (omega arith));
    }

-- alike lists have one normal form
pub normal_form-alike : (window : ℕ) (xs ys : List ℕ) → AreAlikeLists window xs ys → normal_form window xs ≡ normal_form window ys
normal_form-alike window xs ys is =
    in_window-alike window (top xs) (is_among xs) (is_among ys) is
    ∙ ap (λ t. in_window window (is_among ys) t) (top-alike window xs ys is)

-- the top of a list is that of its normal form
pub top-normal_form : (window : ℕ) (xs : List ℕ) → top (normal_form window xs) ≡ top xs
top-normal_form window xs = top-in_window window (top xs) (is_among xs) (IsTop-list xs)

-- lists with one normal form are alike
pub AreAlike-normal_form : (window : ℕ) (xs ys : List ℕ) → normal_form window xs ≡ normal_form window ys → AreAlikeLists window xs ys
AreAlike-normal_form window xs ys e =
    let tops : top ys ≡ top xs = sym (top-normal_form window ys) ∙ ap top (sym e) ∙ top-normal_form window xs in
    AreAlike-in_window window (top xs) (is_among xs) (is_among ys) (IsTop-list xs)
    (subst (λ (t : ℕ). IsTop (is_among ys) t) tops (IsTop-list ys))
    (e ∙ ap (λ t. in_window window (is_among ys) t) tops)

-- a normal form is its own
pub normal_form-twice : (window : ℕ) (xs : List ℕ) → normal_form window (normal_form window xs) ≡ normal_form window xs
normal_form-twice window xs = normal_form-in_window window (top xs) (is_among xs) (top-normal_form window xs)

-- what a window shows of a list is alike to it
pub shows-alike : (window : ℕ) (xs : List ℕ) → AreAlikeLists window (normal_form window xs) xs
shows-alike window xs = AreAlike-normal_form window (normal_form window xs) xs (normal_form-twice window xs)

-- the greatest of the numbers 1 to start
pub top-downwards : (start c : ℕ) → 0 < c → top (downwards start c) ≡ start
top-downwards start c h = ap top (sym (filter-all (downwards start c))) ∙ top-filter (λ _. true) start c refl h

pub top-start : (start : ℕ) → top (downwards start start) ≡ start
top-start start =
    elim (leb_tells 1 start) [
      | inl some ↦ top-downwards start start some.1
      | inr none ↦ (let e : start ≡ 0 = omega arith in rw e refl)
    ]

-- the list of a new window is that of 1 to start
pub accepted_to-normal : (window start : ℕ) → accepted_to window start ≡ normal_form window (downwards start start)
accepted_to-normal window start =
    sym (ap (λ t. in_window window (is_among (downwards start start)) t) (top-start start)
    ∙ filter-same (is_among (downwards start start)) (λ _. true) start (max window 1)
    (λ n pos le near. is_among-downwards start start n pos le (omega arith))
    ∙ filter-all (downwards start (max window 1)))

-- a list with one more number is that of each alike set with that number
pub accepted_with-alike : (window n : ℕ) (accepted numbers : List ℕ) → AreAlikeLists window accepted numbers
    → accepted_with window accepted n ≡ normal_form window (n ∷ numbers)
accepted_with-alike window n accepted numbers is =
    filter-same (λ m. (m == n) || is_among accepted m) (λ m. (n == m) || is_among numbers m) (max n (top accepted)) (max window 1)
    (λ m pos le near.
    ap (λ b. b || is_among accepted m) (eq-turned m n)
    ∙ ap (λ b. (n == m) || b) (AreAlike-agree window (top accepted) m (is_among accepted) (is_among numbers) is pos (omega arith)))
    ∙ ap (λ t. in_window window (is_among (n ∷ numbers)) (max n t)) (top-alike window accepted numbers is)

-- the list of a new window is in normal form
pub normal_form-accepted_to : (window start : ℕ) → normal_form window (accepted_to window start) ≡ accepted_to window start
normal_form-accepted_to window start =
    let e = accepted_to-normal window start in
    ap (normal_form window) e ∙ normal_form-twice window (downwards start start) ∙ sym e

-- the list with one more number is in normal form
pub normal_form-accepted_with : (window n : ℕ) (accepted : List ℕ) → normal_form window (accepted_with window accepted n) ≡ accepted_with window accepted n
normal_form-accepted_with window n accepted =
    let set : ℕ → Bool = λ m. (m == n) || is_among accepted m in
    normal_form-in_window window (max n (top accepted)) set
    (top-in_window window (max n (top accepted)) set (IsTop-with (is_among accepted) (top accepted) n (IsTop-list accepted)))
