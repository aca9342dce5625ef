-- One number after another, until one is free.
use Rattle.std.proofs.Common.{◌≡◌, ℕ, zero, suc, ◌+◌, ◌-◌, ◌*◌, ◌<◌, ◌≤◌, Bool, true, false, cond, Option, None, Some, find, refl, ap, sym, ◌∙◌, arith}
use Rattle.std.proofs.Math.Nat.{mul-le-mul_left}
use Rattle.xf_types.specs.Counters.{first_free, next_in, upwards}

-- ---- in cyclic order

pub free_found : (taken : ℕ → Bool) (greatest k tries : ℕ) → taken k ≡ false → first_free taken greatest k tries ≡ k
free_found taken greatest k zero e = refl
free_found taken greatest k (suc n) e = ap (λ (b : Bool). cond b (first_free taken greatest (next_in greatest k) n) k) e

pub free_next : (taken : ℕ → Bool) (greatest k tried tries : ℕ) → tried < tries → taken k ≡ true
    → first_free taken greatest (next_in greatest k) (tries - (tried + 1)) ≡ first_free taken greatest k (tries - tried)
free_next taken greatest k tried tries h e =
    let m : tries - tried ≡ suc (tries - (tried + 1)) = omega arith in
    sym (ap (λ n. first_free taken greatest k n) m
    ∙ ap (λ (b : Bool). cond b (first_free taken greatest (next_in greatest k) (tries - (tried + 1))) k) e)

pub free_end : (taken : ℕ → Bool) (greatest k tried tries : ℕ) → tries ≤ tried → first_free taken greatest k (tries - tried) ≡ k
free_end taken greatest k tried tries h =
    let m : tries - tried ≡ 0 = omega arith in
    ap (λ n. first_free taken greatest k n) m

-- ---- upwards

-- the numbers that are left after some tries
abbrev pub left_from : (ℕ → Bool) → ℕ → ℕ → ℕ → Option ℕ
left_from test from tried tries = find test (upwards (from + tried) (tries - tried))

pub left_start : (test : ℕ → Bool) (from tries : ℕ) → left_from test from 0 tries ≡ find test (upwards from tries)
left_start test from tries =
    let m : from + 0 ≡ from = omega arith in
    let n : tries - 0 ≡ tries = omega arith in
    ap (λ k. find test (upwards k (tries - 0))) m ∙ ap (λ k. find test (upwards from k)) n

one_left : (test : ℕ → Bool) (from tried tries : ℕ) (b : Bool) → tried < tries → test (from + tried) ≡ b
    → left_from test from tried tries ≡ cond b (Some (from + tried)) (left_from test from (tried + 1) tries)
one_left test from tried tries b h e =
    let m : tries - tried ≡ suc (tries - (tried + 1)) = omega arith in
    let n : from + tried + 1 ≡ from + (tried + 1) = omega arith in
    ap (λ k. find test (upwards (from + tried) k)) m
    ∙ ap (λ (k : Bool). cond k (Some (from + tried)) (find test (upwards (from + tried + 1) (tries - (tried + 1))))) e
    ∙ ap (λ k. cond b (Some (from + tried)) (find test (upwards k (tries - (tried + 1))))) n

pub left_found : (test : ℕ → Bool) (from tried tries : ℕ) → tried < tries → test (from + tried) ≡ true → left_from test from tried tries ≡ Some (from + tried)
left_found test from tried tries h e = one_left test from tried tries true h e

pub left_next : (test : ℕ → Bool) (from tried tries : ℕ) → tried < tries → test (from + tried) ≡ false
    → left_from test from (tried + 1) tries ≡ left_from test from tried tries
left_next test from tried tries h e = sym (one_left test from tried tries false h e)

pub left_end : (test : ℕ → Bool) (from tried tries : ℕ) → tries ≤ tried → left_from test from tried tries ≡ None
left_end test from tried tries h =
    let m : tries - tried ≡ 0 = omega arith in
    ap (λ k. find test (upwards (from + tried) k)) m

-- ---- what they cost

pub tries_cost : (cost tried tries start now : ℕ) → tried ≤ tries → now ≤ start + cost * tried → now ≤ start + cost * tries
tries_cost cost tried tries start now h k =
    let more = mul-le-mul_left cost h in
    omega (arith, more, k)
