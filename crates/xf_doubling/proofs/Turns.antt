-- One turn of a split.
use Rattle.std.proofs.Common.{◌≡◌, ℕ, zero, suc, ◌+◌, Bool, List, Option, None, Some, refl, ◌∙◌, add-one}
use Rattle.xf_chain.specs.declared.chain.Chain.{Chain}
use Rattle.xf_chain.specs.Chains.{next_in}
use Rattle.xf_doubling.specs.Splits.{moved_one, either, split_from}

pub split_next : (low high : Chain) (moves : List ℕ → ℕ → Bool) (slot rest left : ℕ) (at next last stays other goes : Option ℕ) (words new : List ℕ) (b : Bool)
    → at ≡ Some slot → left ≡ rest + 1 → b ≡ moves words slot → next ≡ next_in low words slot
    → stays ≡ either b last (Some slot) → goes ≡ either b (Some slot) other → new ≡ either b (moved_one low high slot last other words) words
    → split_from low high moves rest next stays goes new ≡ split_from low high moves left at last other words
split_next low high moves slot rest left at next last stays other goes words new b a l t n s o w =
    let k : left ≡ suc rest = l ∙ add-one rest in
    let step : split_from low high moves (suc rest) (Some slot) last other words
    ≡ split_from low high moves rest (next_in low words slot) (either (moves words slot) last (Some slot)) (either (moves words slot) (Some slot) other)
    (either (moves words slot) (moved_one low high slot last other words) words) = refl in
    cc

pub none_comes : (low high : Chain) (moves : List ℕ → ℕ → Bool) (left : ℕ) (last other : Option ℕ) (words : List ℕ)
    → split_from low high moves left None last other words ≡ words
none_comes low high moves zero last other words = refl
none_comes low high moves (suc left) last other words = refl
