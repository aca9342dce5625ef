-- How many bytes pass a test from the first on, part by part.
use Rattle.std.proofs.Common.{◌≡◌, ℕ, zero, suc, ◌+◌, ◌-◌, ◌<◌, ◌≤◌, Bool, true, false, not, cond, List, [], ◌∷◌, length, drop, refl, sym, ap, ◌∙◌, arith, eqb, take-append-drop, drop-drop, length-drop}
use Rattle.std.specs.List.{prefix_len}
use Rattle.std.specs.Simd.Lanes.{chunk}
use Rattle.std.proofs.lemmas.Bool.{cond-true, cond-false, eq-eqb, ne_eqb}
use Rattle.std.proofs.lemmas.List.{take_all}
use Rattle.std.proofs.lemmas.List.Folds.{prefix_len-append}
use Rattle.std.proofs.lemmas.List.Sums.{prefix_len-le-length}
use Rattle.std.proofs.lemmas.Simd.{length-chunk}
use Rattle.xf_bytes.specs.Runs.{is_mild, mild_count, is_plain, plain_count, is_feedless, feedless_count}

pub mild_count-prefix_len : (bytes : List ℕ) → mild_count bytes ≡ prefix_len is_mild bytes
mild_count-prefix_len [] = refl
mild_count-prefix_len (b ∷ bs) = ap (λ n. cond (is_mild b) (1 + n) 0) (mild_count-prefix_len bs)

pub plain_count-prefix_len : (bytes : List ℕ) → plain_count bytes ≡ prefix_len is_plain bytes
plain_count-prefix_len [] = refl
plain_count-prefix_len (b ∷ bs) = ap (λ n. cond (is_plain b) (1 + n) 0) (plain_count-prefix_len bs)

feedless_of : (t : Bool) (n : ℕ) → cond t 0 (1 + n) ≡ cond (not t) (1 + n) 0
feedless_of true n = refl
feedless_of false n = refl

pub feedless_count-prefix_len : (bytes : List ℕ) → feedless_count bytes ≡ prefix_len is_feedless bytes
feedless_count-prefix_len [] = refl
feedless_count-prefix_len (b ∷ bs) =
    ap (λ n. cond (eqb b 10) 0 (1 + n)) (feedless_count-prefix_len bs) ∙ feedless_of (eqb b 10) (prefix_len is_feedless bs)

module _ (p : ℕ → Bool) where
  -- those of a vector's bytes, and of those behind it where they all pass
  by_vector : (bytes : List ℕ) (at n : ℕ) → at + n ≤ length bytes
      → prefix_len p (drop at bytes)
      ≡ cond (eqb (prefix_len p (chunk at n bytes)) n) (n + prefix_len p (drop (at + n) bytes)) (prefix_len p (chunk at n bytes))
  by_vector bytes at n room =
      let run = prefix_len p (chunk at n bytes) in
      ap (prefix_len p) (sym (take-append-drop n (drop at bytes)))
      ∙ prefix_len-append p (chunk at n bytes) (drop n (drop at bytes))
      ∙ ap (λ k. cond (eqb run k) (k + prefix_len p (drop n (drop at bytes))) run) (length-chunk at n bytes room)
      ∙ ap (λ (l : List ℕ). cond (eqb run n) (n + prefix_len p l) run) (drop-drop n at bytes)

  -- a vector with a byte that doesn't pass
  pub vector_stops : (bytes : List ℕ) (at n r : ℕ) → at + n ≤ length bytes → r ≡ prefix_len p (chunk at n bytes) → r < n
      → prefix_len p (drop at bytes) ≡ r
  vector_stops bytes at n r room run short =
      by_vector bytes at n room
      ∙ cond-false _ _ _ (ne_eqb (prefix_len p (chunk at n bytes)) n (λ (e : prefix_len p (chunk at n bytes) ≡ n). omega arith))
      ∙ sym run

  -- a vector whose bytes all pass
  pub vector_passes : (bytes : List ℕ) (at n r : ℕ) → at + n ≤ length bytes → r ≡ prefix_len p (chunk at n bytes) → n ≤ r
      → prefix_len p (drop at bytes) ≡ n + prefix_len p (drop (at + n) bytes)
  vector_passes bytes at n r room run whole =
      let most : prefix_len p (chunk at n bytes) ≤ length (chunk at n bytes) = prefix_len-le-length p (chunk at n bytes) in
      by_vector bytes at n room
      ∙ cond-true _ _ _ (eq-eqb (prefix_len p (chunk at n bytes)) n (omega (arith, length-chunk at n bytes room)))

  behind : (b : Bool) (bytes : List ℕ) (k n : ℕ) → suc k ≤ cond b (1 + n) 0 → (k ≤ n → k + prefix_len p (drop k bytes) ≡ n)
      → suc k + prefix_len p (drop k bytes) ≡ cond b (1 + n) 0
  behind true bytes k n low rest = omega (arith, rest (omega arith))
  behind false bytes k n low rest = absurd (omega arith)

  -- those behind bytes that pass
  pub prefix_len_from : (bytes : List ℕ) (k : ℕ) → k ≤ prefix_len p bytes → k + prefix_len p (drop k bytes) ≡ prefix_len p bytes
  prefix_len_from bytes zero low = omega arith
  prefix_len_from [] (suc k) low = absurd (omega arith)
  prefix_len_from (b ∷ bytes) (suc k) low = behind (p b) bytes k (prefix_len p bytes) low (prefix_len_from bytes k)

  -- those of the last vector, which begins among bytes that pass
  pub last_vector : (bytes : List ℕ) (n seen r : ℕ) → n ≤ length bytes → length bytes - n ≤ seen
      → seen + prefix_len p (drop seen bytes) ≡ prefix_len p bytes → r ≡ prefix_len p (chunk (length bytes - n) n bytes)
      → (length bytes - n) + r ≡ prefix_len p bytes
  last_vector bytes n seen r room overlaps count run =
      let at = length bytes - n in
      let whole : chunk at n bytes ≡ drop at bytes = take_all n (drop at bytes) (omega (arith, length-drop at bytes)) in
      ap (λ k. at + k) (run ∙ ap (prefix_len p) whole) ∙ prefix_len_from bytes at (omega arith)
