-- A new policy goes to its place in the order.
use Rattle.std.proofs.Common.{arith, ℕ, ◌≡◌, ◌<◌, ◌≤◌, Bool, true, false, ◌&&◌, ◌||◌, ltb, eqb, List, length, get_or, sym, ◌∙◌, All, inl, inr, ap}
use Rattle.std.proofs.lemmas.Bool.{cases_lt}
use Rattle.std.proofs.lemmas.Bool.Decides.{nat_tests}
use Rattle.std.proofs.lemmas.List.Sums.{fails_before_first, passes_at_first, prefix_len-le-length}
use Rattle.std.specs.List.{position_or_len}
use Rattle.std.specs.Prelude.{not, IsTrue}
use Rattle.xf_types.specs.declared.policy.Policy.{Policy}
use Rattle.xf_types.specs.PolicyList.{comes_after, inserted, IsPolicyOrder}
use Rattle.xf_laws.proofs.ListLemmas.{AllPairs-insert}

-- the test of the order on priorities and numbers
comes : ℕ → ℕ → ℕ → ℕ → Bool
comes a m b n = ltb b a || (eqb a b && ltb n m)

-- where the older one doesn't come after the newer one, the newer one comes after the older one
newer-comes : (a m b n : ℕ) → n < m → comes b n a m ≡ false → comes a m b n ≡ true
unfolding comes
newer-comes a m b n lt h = grind (arith, nat_tests)

-- what comes after one that comes after the newest comes after the newest
later-comes : (a m b n c o : ℕ) → n < m → comes b n a m ≡ true → comes c o b n ≡ true → comes c o a m ≡ true
unfolding comes
later-comes a m b n c o lt h k = grind (arith, nat_tests)

-- the same of policies
policy-newer : (p q : Policy) → q.number < p.number → comes_after q p ≡ false → comes_after p q ≡ true
unfolding comes
policy-newer p q = newer-comes p.spec.priority p.number q.spec.priority q.number

-- and so is this
policy-later : (p q r : Policy) → q.number < p.number → comes_after q p ≡ true → comes_after r q ≡ true → comes_after r p ≡ true
unfolding comes
policy-later p q r = later-comes p.spec.priority p.number q.spec.priority q.number r.spec.priority r.number

-- a policy with a number greater than all keeps the order
pub ordered-inserted : (p : Policy) (policies : List Policy) → All (λ q. q.number < p.number) policies → IsPolicyOrder policies
    → IsPolicyOrder (inserted p policies)
ordered-inserted p policies newest ordered =
    let test : Policy → Bool = λ q. comes_after q p in
    let place : ℕ = position_or_len test policies in
    let within : place ≤ length policies = prefix_len-le-length (λ q. not (test q)) policies in
    AllPairs-insert (λ q r. IsTrue (comes_after r q)) policies place p within ordered
    (λ k d lt.
    policy-newer p (get_or policies k d) (newest k d (omega arith)) (fails_before_first test policies k d lt))
    (λ k d ge less.
    let here : place < length policies = omega arith in
    let first : comes_after (get_or policies place d) p ≡ true = passes_at_first test policies d here in
    from_first p policies place k d (newest place d here) first ge less ordered)
  where
    from_first : (p : Policy) (policies : List Policy) (place k : ℕ) (d : Policy) → (get_or policies place d).number < p.number
        → comes_after (get_or policies place d) p ≡ true → place ≤ k → k < length policies → IsPolicyOrder policies
        → comes_after (get_or policies k d) p ≡ true
    from_first p policies place k d older first ge less ordered =
        elim (cases_lt place k) [
          | inl lt ↦
              policy-later p (get_or policies place d) (get_or policies k d) older first (ordered place k d lt less)
          | inr le ↦ (let same : place ≡ k = omega arith in ap (λ (n : ℕ). comes_after (get_or policies n d) p) (sym same) ∙ first)
        ]
