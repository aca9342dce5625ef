-- A move retires no more slots of a list than it removes records.
use Rattle.std.proofs.Common.{◌≡◌, ℕ, zero, suc, ◌+◌, ◌<◌, ◌≤◌, Bool, true, false, true≢false, not, List, [], ◌∷◌, length, cond, Some, None, Option, refl, sym, ap, ◌∙◌, subst, arith, ⊎_elim, inl, inr, Contains, eqb-true}
use Rattle.std.specs.Prelude.{◌==◌, ◌||◌, nat_le, count_by, slice_index}
use Rattle.std.specs.List.{list_any}
use Rattle.std.proofs.lemmas.Bool.{cases_Bool, leb-true, le-leb}
use Rattle.std.proofs.lemmas.List.Sums.{sum_by-cons}
use Rattle.xf_invariant.specs.PinPart.{Has}
use Rattle.xf_ownpart.proofs.Haves.{has_first, has_more}
use Rattle.xf_retired.specs.Pools.{IsPool, retired_slots}
use Rattle.xf_retired.specs.RetiredLaws.{KeepsPool}
use Rattle.xf_retired.proofs.Counts.{counts-few}

count-cons : {X : Type 0} (p : X → Bool) (x : X) (xs : List X) → count_by p (x ∷ xs) ≡ cond (p x) (1 + count_by p xs) (count_by p xs)
count-cons p x xs = sum_by-cons (λ y. cond (p y) 1 0) x xs ∙ out (p x) (count_by p xs)
  where
    out : (b : Bool) (n : ℕ) → cond b 1 0 + n ≡ cond b (1 + n) n
    out true n = refl
    out false n = omega arith

-- the keys of those that pass
abbrev keys_of : {X : Type 0} → (X → ℕ) → (X → Bool) → List X → List ℕ
keys_of key p [] = []
keys_of key p (x ∷ xs) = cond (p x) (key x ∷ keys_of key p xs) (keys_of key p xs)

keys-length : {X : Type 0} (key : X → ℕ) (p : X → Bool) (xs : List X) → length (keys_of key p xs) ≡ count_by p xs
keys-length key p [] = refl
keys-length key p (x ∷ xs) = by (p x) (keys-length key p xs) ∙ sym (count-cons p x xs)
  where
    by : (b : Bool) → length (keys_of key p xs) ≡ count_by p xs → length (cond b (key x ∷ keys_of key p xs) (keys_of key p xs)) ≡ cond b (1 + count_by p xs) (count_by p xs)
    by true h = omega arith
    by false h = h

keys-has : {X : Type 0} (key : X → ℕ) (p : X → Bool) (xs : List X) (x : X) → Contains xs x → p x ≡ true → Has (keys_of key p xs) (key x)
keys-has key p [] x here is = absurd (let within = here.1 in omega arith)
keys-has {X} key p (y ∷ ys) x (zero, within, at) is =
    subst (λ (l : List ℕ). Has l (key x)) (sym (ap (λ (b : Bool). cond b (key y ∷ keys_of key p ys) (keys_of key p ys)) (ap p at ∙ is)))
    (subst (λ k. Has (k ∷ keys_of key p ys) (key x)) (sym (ap key at)) (has_first (key x) (keys_of key p ys)))
keys-has {X} key p (y ∷ ys) x (suc k, within, at) is = more (p y) (keys-has key p ys x (k, omega arith, at) is)
  where
    more : (b : Bool) → Has (keys_of key p ys) (key x) → Has (cond b (key y ∷ keys_of key p ys) (keys_of key p ys)) (key x)
    more true h = has_more (key y) (key x) (keys_of key p ys) h
    more false h = h

-- one of a list passes
any-one : {X : Type 0} (p : X → Bool) (xs : List X) → list_any p xs ≡ true → (x : X) × Contains xs x × (p x ≡ true)
any-one p [] h = absurd (true≢false (sym h))
any-one {X} p (x ∷ xs) h =
    elim (p x) as (λ b. p x ≡ b → (b || list_any p xs) ≡ true → (y : X) × Contains (x ∷ xs) y × (p y ≡ true)) [
      | true ↦ λ is k. (x, (zero, omega arith, refl), is)
      | false ↦ λ is k. let r = any-one p xs k in (r.0, (suc r.1.0, omega (arith, r.1.1), r.1.2), r.2)
    ] refl h

abbrev value_of : Option ℕ → ℕ
value_of None = 0
value_of (Some n) = n

-- of a list's slots
pub retires : {X : Type 0} (key : X → ℕ) (at : List ℕ → ℕ → Option ℕ) (first size : ℕ) (old new : List ℕ) (olds news : List X) (room more : ℕ)
    → IsPool key at first size old olds room → IsPool key at first size new news more → KeepsPool at first size old new
    → retired_slots new first size ≤ retired_slots old first size + count_by (λ x. not (list_any (λ y. key y == key x) news)) olds
retires {X} key at first size old new olds news room more before after keeps =
    let gone : X → Bool = λ x. not (list_any (λ y. key y == key x) news) in
    subst (λ n. retired_slots new first size ≤ retired_slots old first size + n) (keys-length key gone olds)
    (counts-few size (λ k. nat_le 2 (slice_index old (first + k))) (λ k. nat_le 2 (slice_index new (first + k))) (λ k. value_of (at old (first + k))) (keys_of key gone olds)
    (λ s less now was.
    let x = had s less now was in
    subst (Has (keys_of key gone olds)) (sym (ap value_of x.2)) (keys-has key gone olds x.0 x.1 (left s x.0 x.2 now)))
    (λ s t less lesser now was nows wasn same.
    let x = had s less now was in
    let y = had t lesser nows wasn in
    let one : key x.0 ≡ key y.0 = sym (ap value_of x.2) ∙ same ∙ ap value_of y.2 in
    let slots : first + s ≡ first + t = before.once (first + s) (first + t) (key y.0) (x.2 ∙ ap Some one) y.2 in
    omega arith))
  where
    -- a slot that is newly retired had a record
    had : (s : ℕ) → s < size → nat_le 2 (slice_index new (first + s)) ≡ true → nat_le 2 (slice_index old (first + s)) ≡ false → (x : X) × Contains olds x × (at old (first + s) ≡ Some (key x))
    had s less now was = ⊎_elim
        (λ (one : slice_index old (first + s) ≡ 1). before.listed (first + s) (omega arith) (omega arith) one)
        (λ (many : 2 ≤ slice_index old (first + s)). absurd (true≢false (sym (le-leb 2 (slice_index old (first + s)) many) ∙ was)))
        (keeps.retires (first + s) (omega arith) (omega arith) (leb-true 2 (slice_index new (first + s)) now))

    -- which is gone
    left : (s : ℕ) (x : X) → at old (first + s) ≡ Some (key x) → nat_le 2 (slice_index new (first + s)) ≡ true → not (list_any (λ y. key y == key x) news) ≡ true
    left s x there now = elim (cases_Bool (list_any (λ y. key y == key x) news)) [
      | inl listed ↦
          let y = any-one (λ (z : X). key z == key x) news listed in
          let p = after.placed y.0 y.1 in
          let same : first + s ≡ p.0 = keeps.stays (first + s) p.0 (key x) there (p.1 ∙ ap Some (eqb-true (key y.0) (key x) y.2)) in
          let one : slice_index new (first + s) ≡ 1 = ap (slice_index new) same ∙ p.2 in
          let many = leb-true 2 (slice_index new (first + s)) now in
          absurd (omega arith)
      | inr none ↦ ap not none
    ]
