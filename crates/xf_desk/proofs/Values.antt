-- Lists of values, slot by slot.
use Rattle.std.proofs.Common.{◌≡◌, ◌≢◌, ◌≤◌, ℕ, zero, suc, ◌+◌, ◌<◌, ◌∷◌, length, refl, sym, ap, ◌∙◌, arith}
use Rattle.std.specs.Prelude.{get_or, slice_set}
use Rattle.xf_local.specs.View.{LocalView, Dead}
use Rattle.xf_desk.specs.Values.{values_from}

pub values_length : (value : ℕ → LocalView) (first n : ℕ) → length (values_from value first n) ≡ n
values_length value first zero = refl
values_length value first (suc n) = ap suc (values_length value (first + 1) n)

pub value_at : (value : ℕ → LocalView) (first n slot : ℕ) → slot < n → get_or (values_from value first n) slot Dead ≡ value (first + slot)
value_at value first zero slot l = absurd (omega (arith, l))
value_at value first (suc n) zero l = let e : first ≡ first + 0 = omega arith in ap value e
value_at value first (suc n) (suc slot) l =
    let e : (first + 1) + slot ≡ first + suc slot = omega arith in
    value_at value (first + 1) n slot (omega (arith, l)) ∙ ap value e

pub value_behind : (value : ℕ → LocalView) (first n slot : ℕ) → n ≤ slot → get_or (values_from value first n) slot Dead ≡ Dead
value_behind value first zero slot l = refl
value_behind value first (suc n) zero l = absurd (omega (arith, l))
value_behind value first (suc n) (suc slot) l = value_behind value (first + 1) n slot (omega (arith, l))

-- two lists of which each value is the same
pub values_same : (old new : ℕ → LocalView) (first n : ℕ) → ((slot : ℕ) → first ≤ slot → new slot ≡ old slot) → values_from new first n ≡ values_from old first n
values_same old new first zero same = refl
values_same old new first (suc n) same =
    ap (λ v. v ∷ values_from new (first + 1) n) (same first (omega arith))
    ∙ ap (λ vs. old first ∷ vs) (values_same old new (first + 1) n (λ slot a. same slot (omega (arith, a))))

-- one value is another one
pub values_put : (old new : ℕ → LocalView) (first n slot : ℕ) → slot < n → ((other : ℕ) → other ≢ first + slot → new other ≡ old other)
    → values_from new first n ≡ slice_set (values_from old first n) slot (new (first + slot))
values_put old new first zero slot l others = absurd (omega (arith, l))
values_put old new first (suc n) zero l others =
    let e : first ≡ first + 0 = omega arith in
    ap (λ v. v ∷ values_from new (first + 1) n) (ap new e)
    ∙ ap (λ vs. new (first + 0) ∷ vs) (values_same old new (first + 1) n (λ slot a. others slot (λ d. absurd (omega (arith, a, d)))))
values_put old new first (suc n) (suc slot) l others =
    let e : (first + 1) + slot ≡ first + suc slot = omega arith in
    ap (λ v. v ∷ values_from new (first + 1) n) (others first (λ d. absurd (omega (arith, d))))
    ∙ ap (λ vs. old first ∷ vs) (values_put old new (first + 1) n slot (omega (arith, l)) (λ other d. others other (λ f. d (f ∙ sym e))))
    ∙ ap (λ k. old first ∷ slice_set (values_from old (first + 1) n) slot (new k)) e
