-- What is at home in slots, after one of the values was replaced and after one more came.
use Rattle.std.proofs.Common.{◌≡◌, ◌≢◌, ℕ, ◌+◌, ◌==◌, ◌||◌, if◌then◌else◌, Bool, true, false, List, [], ◌∷◌, refl, sym, ap, ◌∙◌, arith, Option, Some, None, eqb-true, eq-eqb}
use Rattle.std.proofs.lemmas.Bool.{ne_eqb}
use Rattle.xf_cells.specs.Frees.{is_among}
use Rattle.xf_live.specs.Values.{slots_in, holds, home_at, with_home}

-- a test of two numbers, either way round
pub flip : (a b : ℕ) → (a == b) ≡ (b == a)
flip a b = elim (a == b) as (λ t. (a == b) ≡ t → (a == b) ≡ (b == a)) [
  | true ↦ λ e. let same : a ≡ b = eqb-true a b e in e ∙ sym (eq-eqb b a (sym same))
  | false ↦ λ e. e ∙ sym (ne_eqb b a (λ f. let t = eq-eqb a b (sym f) in absurd cc))
] refl

-- a slot further on
pub shift : (p a b : ℕ) → (p + a == p + b) ≡ (a == b)
shift p a b = elim (a == b) as (λ t. (a == b) ≡ t → (p + a == p + b) ≡ (a == b)) [
  | true ↦ λ e. let same : a ≡ b = eqb-true a b e in eq-eqb (p + a) (p + b) (ap (λ n. p + n) same) ∙ sym e
  | false ↦ λ e. ne_eqb (p + a) (p + b) (λ f. let g : a ≡ b = omega (arith, f) in let t = eq-eqb a b g in absurd cc) ∙ sym e
] refl

module _ {X : Type 0} where
  head_slot : (b : Bool) (slot : ℕ) (o : Option X) (x : ℕ × Option X) → (b ≡ true → x.0 ≡ slot) → (if b then (slot, o) else x).0 ≡ x.0
  head_slot true slot o x e = sym (e refl)
  head_slot false slot o x e = refl

  -- the slots stay
  pub same_slots : (xs : List (ℕ × Option X)) (slot : ℕ) (o : Option X) → slots_in (with_home xs slot o) ≡ slots_in xs
  same_slots [] slot o = refl
  same_slots (x ∷ xs) slot o =
      ap (λ n. n ∷ slots_in (with_home xs slot o)) (head_slot (x.0 == slot) slot o x (λ e. eqb-true x.0 slot e))
      ∙ ap (λ ns. x.0 ∷ ns) (same_slots xs slot o)

  pub same_holds : (xs : List (ℕ × Option X)) (slot : ℕ) (o : Option X) (other : ℕ) → holds (with_home xs slot o) other ≡ holds xs other
  same_holds xs slot o other = ap (λ ns. is_among other ns) (same_slots xs slot o)

  -- the slot has what was put there
  pub home_put : (xs : List (ℕ × Option X)) (slot : ℕ) (o : Option X) → holds xs slot ≡ true → home_at (with_home xs slot o) slot ≡ Some o
  home_put [] slot o h = absurd cc
  home_put (x ∷ xs) slot o h = go (home_put xs slot o) (x.0 == slot) refl
    where
      go : (holds xs slot ≡ true → home_at (with_home xs slot o) slot ≡ Some o) → (b : Bool) → (x.0 == slot) ≡ b → home_at (with_home (x ∷ xs) slot o) slot ≡ Some o
      go before true e = ap (λ t. home_at ((if t then (slot, o) else x) ∷ with_home xs slot o) slot) e ∙ ap (λ t. if t then Some o else home_at (with_home xs slot o) slot) (eq-eqb slot slot refl)
      go before false e =
          ap (λ t. home_at ((if t then (slot, o) else x) ∷ with_home xs slot o) slot) e
          ∙ ap (λ t. if t then Some x.1 else home_at (with_home xs slot o) slot) e
          ∙ before (sym (ap (λ t. t || holds xs slot) (flip slot x.0 ∙ e)) ∙ h)

  -- others have what they had
  pub home_other : (xs : List (ℕ × Option X)) (slot : ℕ) (o : Option X) (other : ℕ) → other ≢ slot → home_at (with_home xs slot o) other ≡ home_at xs other
  home_other [] slot o other d = refl
  home_other (x ∷ xs) slot o other d = go (home_other xs slot o other d) (x.0 == slot) refl
    where
      go : home_at (with_home xs slot o) other ≡ home_at xs other → (b : Bool) → (x.0 == slot) ≡ b → home_at (with_home (x ∷ xs) slot o) other ≡ home_at (x ∷ xs) other
      go before true e =
          let is : x.0 ≡ slot = eqb-true x.0 slot e in
          let no : (slot == other) ≡ false = ne_eqb slot other (λ f. d (sym f)) in
          ap (λ t. home_at ((if t then (slot, o) else x) ∷ with_home xs slot o) other) e
          ∙ ap (λ t. if t then Some o else home_at (with_home xs slot o) other) no
          ∙ before
          ∙ sym (ap (λ t. if t then Some x.1 else home_at xs other) (ap (λ n. n == other) is ∙ no))
      go before false e =
          ap (λ t. home_at ((if t then (slot, o) else x) ∷ with_home xs slot o) other) e
          ∙ ap (λ h. if (x.0 == other) then Some x.1 else h) before

  -- what was put there first doesn't matter
  pub put_twice : (xs : List (ℕ × Option X)) (slot : ℕ) (o p : Option X) → with_home (with_home xs slot o) slot p ≡ with_home xs slot p
  put_twice [] slot o p = refl
  put_twice (x ∷ xs) slot o p = ap (λ y. y ∷ with_home (with_home xs slot o) slot p) (go (x.0 == slot) refl) ∙ ap (λ ys. (if (x.0 == slot) then (slot, p) else x) ∷ ys) (put_twice xs slot o p)
    where
      put : (ℕ × Option X) → (ℕ × Option X)
      put y = if (y.0 == slot) then (slot, p) else y

      go : (b : Bool) → (x.0 == slot) ≡ b → put (if (x.0 == slot) then (slot, o) else x) ≡ put x
      go true e = ap (λ t. put (if t then (slot, o) else x)) e ∙ ap (λ t. if t then (slot, p) else (slot, o)) (eq-eqb slot slot refl) ∙ sym (ap (λ t. if t then (slot, p) else x) e)
      go false e = ap (λ t. put (if t then (slot, o) else x)) e

  there : (o : Option X) → Some o ≢ Some None → (v : X) × (Some o ≡ Some (Some v))
  there None out = absurd (out refl)
  there (Some v) out = (v, refl)

  -- a held slot whose value isn't out has it
  pub held_home : (xs : List (ℕ × Option X)) (slot : ℕ) → holds xs slot ≡ true → home_at xs slot ≢ Some None → (v : X) × (home_at xs slot ≡ Some (Some v))
  held_home [] slot h out = absurd cc
  held_home (x ∷ xs) slot h out = go (held_home xs slot) (x.0 == slot) refl
    where
      go : (holds xs slot ≡ true → home_at xs slot ≢ Some None → (v : X) × (home_at xs slot ≡ Some (Some v))) → (b : Bool) → (x.0 == slot) ≡ b → (v : X) × (home_at (x ∷ xs) slot ≡ Some (Some v))
      go before true e =
          let is : home_at (x ∷ xs) slot ≡ Some x.1 = ap (λ t. if t then Some x.1 else home_at xs slot) e in
          let v = there x.1 (λ f. out (is ∙ f)) in
          (v.0, is ∙ v.1)
      go before false e =
          let is : home_at (x ∷ xs) slot ≡ home_at xs slot = ap (λ t. if t then Some x.1 else home_at xs slot) e in
          let v = before (sym (ap (λ t. t || holds xs slot) (flip slot x.0 ∙ e)) ∙ h) (λ f. out (is ∙ f)) in
          (v.0, is ∙ v.1)
