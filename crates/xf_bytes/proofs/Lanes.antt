-- From the mask of a vector to the bytes that pass a test.
use Rattle.std.proofs.Common.{◌≡◌, ℕ, ◌+◌, ◌%◌, ◌^◌, ◌≤◌, Bool, true, not, cond, List, [], ◌∷◌, map, length, get_or, Fits, w8, refl, ap, ◌∙◌, arith}
use Rattle.std.specs.List.{prefix_len}
use Rattle.std.specs.Simd.Lanes.{Each1, chunk, mask_l, top}
use Rattle.std.proofs.lemmas.Bool.{agree_below, agree_below_at}
use Rattle.std.proofs.lemmas.List.{length-map}
use Rattle.std.proofs.lemmas.Simd.{map-map, mask_l-mod, length-chunk, chunk-fits, first_set_mask_l}
use Rattle.xf_bytes.specs.Lanes.{first_set}

pub itself : (v : List ℕ) → v ≡ map (λ x. x) v
itself [] = refl
itself (x ∷ xs) = ap (λ (r : List ℕ). x ∷ r) (itself xs)

-- two tests that agree on each byte count alike
prefix_len-agree : (p q : ℕ → Bool) → agree_below p q 256 ≡ true → (v : List ℕ) → Each1 (Fits w8) v → prefix_len p v ≡ prefix_len q v
prefix_len-agree p q same [] fit = refl
prefix_len-agree p q same (b ∷ bs) fit =
    ap (λ t. cond t (1 + prefix_len p bs) 0) (agree_below_at p q 256 b same (fit.0).fits)
    ∙ ap (λ n. cond (q b) (1 + n) 0) (prefix_len-agree p q same bs fit.1)

-- the first lane whose top bit is set is the first byte that doesn't pass q, where f makes the lanes of the bytes
pub run_of_mask : (q : ℕ → Bool) (bytes : List ℕ) (at n r : ℕ) (z : List ℕ) → at + n ≤ length bytes → n ≤ 64
    → ((k : ℕ) → Fits w8 (get_or bytes k 0)) → r ≡ first_set (mask_l (map (top 7) z) % 2 ^ 64) n
    → (f : ℕ → ℕ) → z ≡ map f (chunk at n bytes) → agree_below (λ x. not (top 7 (f x))) q 256 ≡ true
    → r ≡ prefix_len q (chunk at n bytes)
run_of_mask q bytes at n r z room few fits found f lanes same =
    let v = chunk at n bytes in
    let long : length v ≡ n = length-chunk at n bytes room in
    let stops : ℕ → Bool = λ x. top 7 (f x) in
    let mask : mask_l (map (top 7) z) % 2 ^ 64 ≡ mask_l (map stops v) =
    ap (λ (l : List ℕ). mask_l (map (top 7) l) % 2 ^ 64) lanes
    ∙ ap (λ (l : List Bool). mask_l l % 2 ^ 64) (map-map (top 7) f v)
    ∙ mask_l-mod (map stops v) 64 (omega (arith, length-map v stops, long)) in
    found
    ∙ ap (λ m. first_set m n) mask
    ∙ first_set_mask_l stops v n long few
    ∙ prefix_len-agree (λ x. not (stops x)) q same v (chunk-fits w8 at n bytes fits)
