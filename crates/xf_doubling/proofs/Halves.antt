-- What the word of a doubling says.
use Rattle.std.proofs.Common.{◌≡◌, ℕ, ◌+◌, List, slice_index, ◌*◌, ◌%◌, ◌^◌, ◌<◌, ◌≤◌, min, sym, subst, arith}
use Rattle.std.proofs.lemmas.Nat.{one_shl}
use Rattle.std.proofs.Math.Nat.{pow-le-pow_right, one-le-pow, min-le_right}
use Rattle.xf_doubling.specs.Heads.{half_in, doubling_at, IsDoubling}

pub half_is : (k : ℕ) → k < 32 → (1 * 2 ^ k) % 2 ^ 32 ≡ 2 ^ k
half_is k h = one_shl k 32 h

pub half_most : (k : ℕ) → k ≤ 9 → (1 * 2 ^ (2 + k)) % 2 ^ 32 ≤ 2048
half_most k h =
    let some : 0 < 2 = omega arith in
    let l : 2 + k ≤ 11 = omega arith in
    let a : 2 ^ (2 + k) ≤ 2 ^ 11 = pow-le-pow_right some l in
    subst (λ (n : ℕ). n ≤ 2048) (sym (half_is (2 + k) (omega arith))) a

pub half_some : (k : ℕ) → k ≤ 9 → 0 < (1 * 2 ^ (2 + k)) % 2 ^ 32
half_some k h =
    let a : 1 ≤ 2 ^ (2 + k) = one-le-pow (2 + k) 2 (omega arith) in
    subst (λ (n : ℕ). 0 < n) (sym (half_is (2 + k) (omega arith))) (omega arith)

half_in_most : (word : ℕ) → half_in word ≤ 2048
half_in_most word =
    let k : min word 9 ≤ 9 = min-le_right word 9 in
    let some : 0 < 2 = omega arith in
    let l : 2 + min word 9 ≤ 11 = omega arith in
    let a : 2 ^ (2 + min word 9) ≤ 2 ^ 11 = pow-le-pow_right some l in
    a

half_in_some : (word : ℕ) → 0 < half_in word
half_in_some word = one-le-pow (2 + min word 9) 2 (omega arith)

pub doubling_is : (image : List ℕ) (at : ℕ) → IsDoubling (doubling_at image at).half (doubling_at image at).moved
doubling_is image at =
    record { some = half_in_some (slice_index image at); most = half_in_most (slice_index image at); fits = omega arith }
