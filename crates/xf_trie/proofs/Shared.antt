-- In how many first bits two keys agree.
use Rattle.std.proofs.Common.{◌≡◌, ◌≢◌, ℕ, zero, suc, ◌+◌, ◌/◌, ◌^◌, ◌<◌, ◌≤◌, Bool, ap, arith, eq-eqb, false, if◌then◌else◌, not, refl, sym, true, ◌∙◌}
use Rattle.xf_trie.specs.Keys.{agrees, bit, common}
use Rattle.xf_trie.proofs.Agreeing.{agrees_more}
use Rattle.xf_trie.proofs.Bools.{not_both}

agrees_none : (a b : ℕ) → a < 2 ^ 128 → b < 2 ^ 128 → agrees a b 0 ≡ true
unfolding agrees
agrees_none a b h k =
    let x : a / 2 ^ 128 ≡ 0 = omega arith in
    let y : b / 2 ^ 128 ≡ 0 = omega arith in
    eq-eqb _ _ (x ∙ sym y)

common_step : (a b n c : ℕ) (v : Bool) → agrees a b (suc n) ≡ v → agrees a b c ≡ true → agrees a b (if v then suc n else c) ≡ true
common_step a b n c true e h = e
common_step a b n c false e h = h

pub common_agrees : (a b n : ℕ) → a < 2 ^ 128 → b < 2 ^ 128 → agrees a b (common a b n) ≡ true
common_agrees a b zero h k = agrees_none a b h k
common_agrees a b (suc n) h k = common_step a b n (common a b n) (agrees a b (suc n)) refl (common_agrees a b n h k)

pub common_most : (a b n : ℕ) → common a b n ≤ n
common_most a b zero = omega arith
common_most a b (suc n) = elim (agrees a b (suc n)) as (λ v. (if v then suc n else common a b n) ≤ suc n)
    [ true ↦ omega arith | false ↦ omega (arith, common_most a b n) ]

least_step : (a b n c : ℕ) (v : Bool) → agrees a b (suc n) ≡ v → ((m : ℕ) → m ≤ n → agrees a b m ≡ true → m ≤ c)
    → (m : ℕ) → m ≤ suc n → agrees a b m ≡ true → m ≤ (if v then suc n else c)
least_step a b n c true e f m h k = h
least_step a b n c false e f m h k =
    let g : m ≢ suc n = λ q. not_both (agrees a b m) k (ap (λ x. agrees a b x) q ∙ e) in
    f m (omega arith) k

pub common_least : (a b n m : ℕ) → m ≤ n → agrees a b m ≡ true → m ≤ common a b n
common_least a b zero m h k = omega arith
common_least a b (suc n) m h k = least_step a b n (common a b n) (agrees a b (suc n)) refl (λ q l e. common_least a b n q l e) m h k

other_side : (x y : Bool) → x ≢ y → y ≡ not x
other_side true true h = absurd (h refl)
other_side true false h = refl
other_side false true h = refl
other_side false false h = absurd (h refl)

-- behind what they have in common two keys go to different sides
pub common_sides : (a b n : ℕ) → a < 2 ^ 128 → b < 2 ^ 128 → n ≤ 128 → common a b n < n → bit b (common a b n) ≡ not (bit a (common a b n))
common_sides a b n h k l m =
    other_side _ _ (λ e.
    let more : agrees a b (common a b n + 1) ≡ true = agrees_more a b (common a b n) (omega arith) (common_agrees a b n h k) e in
    let least : common a b n + 1 ≤ common a b n = common_least a b n (common a b n + 1) (omega arith) more in
    absurd (omega arith))
