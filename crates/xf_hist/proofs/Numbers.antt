-- Numbers that increase.
use Rattle.std.proofs.Common.{arith, ◌≡◌, ℕ, zero, suc, ◌-◌, ◌<◌, ◌≤◌, List, [], ◌∷◌, length, get_or, refl, ap, sym, ◌∙◌, subst}
use Rattle.xf_types.specs.declared.call.Receipt.{Receipt}
use Rattle.xf_types.specs.History.{IsIncreasing}

-- each number is below the next
pub adjacent : (rs : List Receipt) → ((k : ℕ) (d : Receipt) → suc k < length rs → (get_or rs k d).number < (get_or rs (suc k) d).number) → IsIncreasing rs
adjacent [] f = tt
adjacent (r ∷ []) f = tt
adjacent (r ∷ q ∷ rs) f = (f 0 r (omega arith), adjacent (q ∷ rs) (λ k d w. f (suc k) d (omega (arith, w))))

increasing-at : (rs : List Receipt) (k : ℕ) (d : Receipt) → IsIncreasing rs → suc k < length rs → (get_or rs k d).number < (get_or rs (suc k) d).number
increasing-at [] k d h w = absurd (omega (arith, w))
increasing-at (r ∷ []) k d h w = absurd (omega (arith, w))
increasing-at (r ∷ q ∷ rs) zero d h w = h.0
increasing-at (r ∷ q ∷ rs) (suc k) d h w = increasing-at (q ∷ rs) k d h.1 (omega (arith, w))

any-default : (xs : List Receipt) (k : ℕ) (d e : Receipt) → k < length xs → get_or xs k d ≡ get_or xs k e
any-default [] k d e w = absurd (omega (arith, w))
any-default (x ∷ xs) zero d e w = refl
any-default (x ∷ xs) (suc k) d e w = any-default xs k d e (omega (arith, w))

-- a number that isn't above the one before it
pub not-increasing : (rs : List Receipt) (p : ℕ) (a b : Receipt) → 0 < p → p < length rs → a ≡ get_or rs (p - 1) a → b ≡ get_or rs p b
    → b.number ≤ a.number → IsIncreasing rs → ⊥
not-increasing rs p a b low within is_a is_b falls inc =
    let before : suc (p - 1) ≡ p = omega (arith, low) in
    let less = increasing-at rs (p - 1) a inc (omega (arith, within, before)) in
    let same : get_or rs (suc (p - 1)) a ≡ b =
    ap (λ k. get_or rs k a) before ∙ any-default rs p a b within ∙ sym is_b in
    let less' : a.number < b.number =
    subst (λ (x : Receipt). x.number < b.number) (sym is_a) (subst (λ (y : Receipt). (get_or rs (p - 1) a).number < y.number) same less) in
    omega (arith, less', falls)
