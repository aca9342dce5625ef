-- The words of some bytes are taken one after another.
use Rattle.std.proofs.Common.{◌≡◌, ℕ, ◌+◌, ◌<◌, suc, Bool, true, false, refl, sym, ap, ◌∙◌, arith, List, [], ◌∷◌, ◌++◌, append_assoc, append-nil, length, take, drop, eqb, Some}
use Rattle.std.proofs.lemmas.Bool.Decides.{nat_tests}
use Rattle.xf_lex.specs.Lexing.{Word}
use Rattle.xf_lex.specs.Plain.{is_gap, gap_count, word_count, split_from, split}

-- a count that goes on
pub one_more : (n : ℕ) → 1 + n ≡ suc n
one_more n = omega arith

-- a word that is begun ends before the next gap
begun_first : (w : Word) (bytes : List ℕ)
    → split_from (Some w) bytes ≡ (w ++ take (word_count bytes) bytes) ∷ split (drop (word_count bytes) bytes)
begun_first w [] = ap (λ v. v ∷ []) (sym (append-nil w))
begun_first w (b ∷ bs) =
    let Claim : Type 0 =
    split_from (Some w) (b ∷ bs) ≡ (w ++ take (word_count (b ∷ bs)) (b ∷ bs)) ∷ split (drop (word_count (b ∷ bs)) (b ∷ bs)) in
    let go : (t : Bool) → is_gap b ≡ t → Claim =
    λ t. elim t as (λ t. is_gap b ≡ t → Claim) [
      | true ↦ λ is. rw (is, is) (ap (λ v. v ∷ split bs) (sym (append-nil w)))
      | false ↦ λ isnt.
          rw (isnt, one_more (word_count bs))
          (begun_first (w ++ b ∷ []) bs
          ∙ ap (λ v. v ∷ split (drop (word_count bs) bs)) (append_assoc w (b ∷ []) (take (word_count bs) bs)))
    ]
    in go (is_gap b) refl

-- the first word stands behind the first gap, and ends before the next one
pub first_word : (bytes rest : List ℕ) → rest ≡ drop (gap_count bytes) bytes → 0 < length rest
    → split bytes ≡ take (word_count rest) rest ∷ split (drop (word_count rest) rest)
first_word [] rest e some = absurd (omega (arith, ap length e, some))
first_word (b ∷ bs) rest e some =
    let Claim : Type 0 = split (b ∷ bs) ≡ take (word_count rest) rest ∷ split (drop (word_count rest) rest) in
    let go : (t : Bool) → is_gap b ≡ t → Claim =
    λ t. elim t as (λ t. is_gap b ≡ t → Claim) [
      | true ↦ λ is.
          let behind : rest ≡ drop (gap_count bs) bs = rw (is, one_more (gap_count bs)) at e in
          rw is (first_word bs rest behind some)
      | false ↦ λ isnt.
          let whole : rest ≡ b ∷ bs = rw isnt at e in
          rw (whole, isnt, one_more (word_count bs)) (begun_first (b ∷ []) bs)
    ]
    in go (is_gap b) refl

-- there is no word where there are gaps alone
pub no_word : (bytes : List ℕ) → length (drop (gap_count bytes) bytes) ≡ 0 → split bytes ≡ []
no_word [] none = refl
no_word (b ∷ bs) none =
    let go : (t : Bool) → is_gap b ≡ t → split (b ∷ bs) ≡ [] =
    λ t. elim t as (λ t. is_gap b ≡ t → split (b ∷ bs) ≡ []) [
      | true ↦ λ is. rw is (no_word bs (rw (is, one_more (gap_count bs)) at none))
      | false ↦ λ isnt.
          let some : suc (length bs) ≡ 0 = rw isnt at none in
          absurd (omega (arith, some))
    ]
    in go (is_gap b) refl

-- a count that goes on with the other
both_more : (n m : ℕ) → eqb (1 + n) (suc m) ≡ eqb n m
both_more n m = grind (arith, nat_tests)

-- neither is none
neither_none : (n m : ℕ) → eqb 0 (suc n) ≡ eqb (suc m) 0
neither_none n m = grind (arith, nat_tests)

-- no word is left exactly where there are gaps alone
pub gaps_alone : (bytes : List ℕ) → eqb (gap_count bytes) (length bytes) ≡ eqb (length (split bytes)) 0
gaps_alone [] = refl
gaps_alone (b ∷ bs) =
    let Claim : Type 0 = eqb (gap_count (b ∷ bs)) (length (b ∷ bs)) ≡ eqb (length (split (b ∷ bs))) 0 in
    let go : (t : Bool) → is_gap b ≡ t → Claim =
    λ t. elim t as (λ t. is_gap b ≡ t → Claim) [
      | true ↦ λ is. rw is (both_more (gap_count bs) (length bs) ∙ gaps_alone bs)
      | false ↦ λ isnt.
          rw (isnt, begun_first (b ∷ []) bs) (neither_none (length bs) (length (split (drop (word_count bs) bs))))
    ]
    in go (is_gap b) refl
