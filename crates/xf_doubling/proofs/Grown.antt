-- An index when a doubling begins, and how long its chains are.
use Rattle.std.proofs.Common.{◌≡◌, ℕ, ◌+◌, ◌%◌, ◌<◌, ◌≤◌, Bool, true, false, List, [], ◌∷◌, Option, None, Some, cond, filter, length, refl, ap, sym, ◌∙◌, subst, arith}
use Rattle.std.proofs.lemmas.Bool.Decides.{nat_tests}
use Rattle.xf_chain.specs.declared.family.Family.{Family}
use Rattle.xf_chain.specs.Families.{chain_at}
use Rattle.xf_chain.specs.Lists.{IsChain}
use Rattle.xf_index.specs.Indexes.{records_in, is_number, picked, Indexed}
use Rattle.xf_doubling.specs.Heads.{head_number, head_of, old_count, in_bucket}
use Rattle.xf_doubling.proofs.Heads.{key_grown}
use Rattle.xf_doubling.proofs.Numbers.{head_bucket}

picked_grown : {A : Type 0} (half number : ℕ) (hash : A → Option ℕ) (es : List (ℕ × A)) → 0 < half
    → picked (λ r. head_of (half + half) 0 (hash r)) number es ≡ picked (λ r. head_of half half (hash r)) number es
picked_grown half number hash [] l = refl
picked_grown half number hash (e ∷ es) l =
    ap (λ o. cond (is_number number o) (e.0 ∷ picked (λ r. head_of (half + half) 0 (hash r)) number es) (picked (λ r. head_of (half + half) 0 (hash r)) number es))
    (key_grown half (hash e.1) l)
    ∙ ap (λ xs. cond (is_number number (head_of half half (hash e.1))) (e.0 ∷ xs) xs) (picked_grown half number hash es l)

pub indexed_grown : {A : Type 0} (family : Family) (image : List ℕ) (half : ℕ) (hash : A → Option ℕ) (es : List (ℕ × A)) → 0 < half
    → Indexed family image (λ r. head_of half half (hash r)) es → Indexed family image (λ r. head_of (half + half) 0 (hash r)) es
indexed_grown family image half hash es l is = record {
  chains = λ n k. subst (λ (xs : List ℕ). IsChain (chain_at family n) image xs) (sym (picked_grown half n hash es l)) (is.chains n k);
}

-- who stands at the head of a hash is in its bucket
bucket : (half moved hash : ℕ) (key : Option ℕ) → 0 < half → moved ≤ half → is_number (head_number half moved hash) (head_of half moved key) ≡ true
    → in_bucket (old_count half moved) hash key ≡ true
bucket half moved hash None p m e = e
bucket half moved hash (Some other) p m e =
    let q : head_number half moved other ≡ head_number half moved hash = grind (arith, nat_tests) in
    let r : other % old_count half moved ≡ hash % old_count half moved = head_bucket half moved other hash p m q in
    grind (arith, nat_tests)

shorter : {A : Type 0} (b c : Bool) (x : ℕ) (y : A) (xs : List ℕ) (ys : List A) → (b ≡ true → c ≡ true) → length xs ≤ length ys
    → length (cond b (x ∷ xs) xs) ≤ length (cond c (y ∷ ys) ys)
shorter true true x y xs ys f l = omega (arith, l)
shorter true false x y xs ys f l = absurd (let e : false ≡ true = f refl in cc)
shorter false true x y xs ys f l = omega (arith, l)
shorter false false x y xs ys f l = l

pub picked_short : {A : Type 0} (half moved hash : ℕ) (key : A → Option ℕ) (es : List (ℕ × A)) → 0 < half → moved ≤ half
    → length (picked (λ r. head_of half moved (key r)) (head_number half moved hash) es)
    ≤ length (filter (λ r. in_bucket (old_count half moved) hash (key r)) (records_in es))
picked_short half moved hash key [] p m = omega arith
picked_short half moved hash key (e ∷ es) p m =
    shorter (is_number (head_number half moved hash) (head_of half moved (key e.1))) (in_bucket (old_count half moved) hash (key e.1)) e.0 e.1
    (picked (λ r. head_of half moved (key r)) (head_number half moved hash) es) (filter (λ r. in_bucket (old_count half moved) hash (key r)) (records_in es))
    (bucket half moved hash (key e.1) p m) (picked_short half moved hash key es p m)
