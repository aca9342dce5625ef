-- The first free number, turn by turn.
use Rattle.std.proofs.Common.{◌≡◌, ℕ, zero, suc, ◌-◌, ◌<◌, Bool, true, false, cond, refl, ap, sym, ◌∙◌, arith}
use Rattle.xf_types.specs.Counters.{first_free, next_in}

pub free_found : (taken : ℕ → Bool) (greatest k left : ℕ) → 0 < left → taken k ≡ false → first_free taken greatest k left ≡ k
free_found taken greatest k zero h e = absurd (omega arith)
free_found taken greatest k (suc n) h e = ap (λ (b : Bool). cond b (first_free taken greatest (next_in greatest k) n) k) e

pub free_next : (taken : ℕ → Bool) (greatest k left : ℕ) → 0 < left → taken k ≡ true
    → first_free taken greatest (next_in greatest k) (left - 1) ≡ first_free taken greatest k left
free_next taken greatest k zero h e = absurd (omega arith)
free_next taken greatest k (suc n) h e =
    let m : suc n - 1 ≡ n = omega arith in
    ap (λ (x : ℕ). first_free taken greatest (next_in greatest k) x) m
    ∙ sym (ap (λ (b : Bool). cond b (first_free taken greatest (next_in greatest k) n) k) e)

-- two tests that agree give one number
pub free_same : (taken other : ℕ → Bool) (greatest k tries : ℕ) → ((n : ℕ) → taken n ≡ other n) → first_free taken greatest k tries ≡ first_free other greatest k tries
free_same taken other greatest k zero f = refl
free_same taken other greatest k (suc n) f =
    ap (λ (b : Bool). cond b (first_free taken greatest (next_in greatest k) n) k) (f k)
    ∙ ap (λ (x : ℕ). cond (other k) x k) (free_same taken other greatest (next_in greatest k) n f)
