-- The better of what two parts have is the first of the list.
use Rattle.std.proofs.Common.{◌≡◌, ℕ, suc, ◌<◌, Bool, true, false, cond, ◌&&◌, ◌||◌, List, [], ◌∷◌, Option, None, Some, length, get_or, refl, ap, sym, ◌∙◌, arith, rules}
use Rattle.std.proofs.lemmas.Bool.Decides.{nat_tests}
use Rattle.std.specs.Prelude.{⊤}
use Rattle.xf_types.specs.declared.policy.Policy.{Policy}
use Rattle.xf_types.specs.PolicyList.{comes_after, IsPolicyOrder}
use Rattle.xf_index.specs.Indexes.{records_in, AllAre}
use Rattle.xf_exact.specs.declared.hit.Hit.{Hit}
use Rattle.xf_image.specs.Placing.{comes}
use Rattle.xf_exact.specs.Hits.{hit_of, first_of, hit_after, better}

-- each policy comes after those before it
abbrev pub Sorted : List (ℕ × Policy) → Type 0
Sorted [] = ⊤
Sorted (e ∷ es) = AllAre (λ p. comes_after p e.1) true es × Sorted es

all_after : (x : Policy) (es : List (ℕ × Policy)) → ((j : ℕ) (d : Policy) → j < length (records_in es) → comes_after (get_or (records_in es) j d) x ≡ true)
    → AllAre (λ p. comes_after p x) true es
all_after x [] f = search rules
all_after x (e ∷ es) f = (f 0 x (omega arith), all_after x es (λ j d l. f (suc j) d (omega arith)))

pub sorted : (es : List (ℕ × Policy)) → IsPolicyOrder (records_in es) → Sorted es
sorted [] a = search rules
sorted (e ∷ es) a = (
  all_after e.1 es (λ j d l. a 0 (suc j) d (omega arith) (omega arith)),
  sorted es (λ i j d lt within. a (suc i) (suc j) d (omega arith) (omega arith)),
)

not_both : (a m b n : ℕ) → comes a m b n ≡ true → comes b n a m ≡ false
not_both a m b n h = grind (arith, nat_tests)

-- what is found after an entry comes after it
found_after : (x : Policy) (test : Policy → Bool) (es : List (ℕ × Policy)) (hit : Hit) → AllAre (λ p. comes_after p x) true es
    → first_of test es ≡ Some hit → comes hit.priority hit.number x.spec.priority x.number ≡ true
found_after x test [] hit a e = absurd (cc)
found_after x test (y ∷ es) hit a e = here x y (test y.1) (first_of test es) hit a.0 (λ k. found_after x test es hit a.1 k) e
  where
    here : (x : Policy) (y : ℕ × Policy) (b : Bool) (rest : Option Hit) (hit : Hit) → comes_after y.1 x ≡ true
        → (rest ≡ Some hit → comes hit.priority hit.number x.spec.priority x.number ≡ true)
        → cond b (Some (hit_of y)) rest ≡ Some hit → comes hit.priority hit.number x.spec.priority x.number ≡ true
    here x y true rest hit h k e =
        let s : hit_of y ≡ hit = cc in
        ap (λ (g : Hit). comes g.priority g.number x.spec.priority x.number) (sym s) ∙ h
    here x y false rest hit h k e = k e

better_left : (a : Hit) (o : Option Hit) → ((f : Hit) → o ≡ Some f → hit_after f a ≡ true) → better (Some a) o ≡ Some a
better_left a None h = refl
better_left a (Some b) h = ap (λ (c : Bool). cond c (Some a) (Some b)) (h b refl)

better_right : (b : Hit) (o : Option Hit) → ((f : Hit) → o ≡ Some f → hit_after f b ≡ true) → better o (Some b) ≡ Some b
better_right b None h = refl
better_right b (Some a) h =
    ap (λ (c : Bool). cond c (Some a) (Some b)) (not_both a.priority a.number b.priority b.number (h a refl))

better_same : (a : Hit) → better (Some a) (Some a) ≡ Some a
better_same a = both (hit_after a a) a
  where
    both : (c : Bool) (a : Hit) → cond c (Some a) (Some a) ≡ Some a
    both true a = refl
    both false a = refl

better_step : (e : Hit) (m p q : Bool) (x y z : Option Hit) → (m ≡ true → (p || q) ≡ true)
    → ((f : Hit) → x ≡ Some f → hit_after f e ≡ true) → ((f : Hit) → y ≡ Some f → hit_after f e ≡ true) → better x y ≡ z
    → better (cond (p && m) (Some e) x) (cond (q && m) (Some e) y) ≡ cond m (Some e) z
better_step e true true true x y z c h k i = better_same e
better_step e true true false x y z c h k i = better_left e y k
better_step e true false true x y z c h k i = better_right e x h
better_step e true false false x y z c h k i = absurd (let w : false ≡ true = c refl in cc)
better_step e false true true x y z c h k i = i
better_step e false true false x y z c h k i = i
better_step e false false true x y z c h k i = i
better_step e false false false x y z c h k i = i

better_sorted : (test one other : Policy → Bool) (es : List (ℕ × Policy)) → ((p : Policy) → test p ≡ true → (one p || other p) ≡ true)
    → Sorted es → better (first_of (λ p. one p && test p) es) (first_of (λ p. other p && test p) es) ≡ first_of test es
better_sorted test one other [] c s = refl
better_sorted test one other (e ∷ es) c s =
    better_step (hit_of e) (test e.1) (one e.1) (other e.1) (first_of (λ p. one p && test p) es) (first_of (λ p. other p && test p) es)
    (first_of test es) (c e.1)
    (λ f k. found_after e.1 (λ p. one p && test p) es f s.0 k) (λ f k. found_after e.1 (λ p. other p && test p) es f s.0 k)
    (better_sorted test one other es c s.1)

pub better_is : (test one other : Policy → Bool) (es : List (ℕ × Policy)) → ((p : Policy) → test p ≡ true → (one p || other p) ≡ true)
    → IsPolicyOrder (records_in es)
    → better (first_of (λ p. one p && test p) es) (first_of (λ p. other p && test p) es) ≡ first_of test es
better_is test one other es c o = better_sorted test one other es c (sorted es o)
