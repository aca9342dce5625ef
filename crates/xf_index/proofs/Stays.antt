-- An index that stays, since none of its own words was written, or a record was replaced by one with the same key.
use Rattle.std.proofs.Common.{◌≡◌, ℕ, ◌+◌, ◌*◌, ◌<◌, ◌≤◌, List, ◌∷◌, ◌++◌, Option, ap, sym, ◌∙◌, subst, arith, slice_index, cond}
use Rattle.xf_chain.specs.Lists.{IsChain}
use Rattle.xf_chain.specs.declared.family.Family.{Family}
use Rattle.xf_chain.specs.Families.{chain_at, Lays}
use Rattle.xf_index.specs.Indexes.{is_number, picked, Indexed}
use Rattle.xf_chain.proofs.Beside.{chain_stays}
use Rattle.xf_index.proofs.Picks.{picked_append}

-- an index none of whose words was written stays
pub indexed_apart : {A : Type 0} (family : Family) (i j : List ℕ) (size : ℕ) (key : A → Option ℕ) (es : List (ℕ × A)) → Lays family size
    → ((q : ℕ) → family.heads ≤ q → q < family.links + family.slots → slice_index j q ≡ slice_index i q)
    → Indexed family i key es → Indexed family j key es
indexed_apart family i j size key es l f is = record {
  chains = λ number n. chain_stays (chain_at family number) i j (picked key number es)
      (f (family.heads + number) (omega arith) (let a = l.heads in omega (arith, a, n)))
      (λ s h. f (family.links + 1 * s) (let a = l.heads in omega (arith, a, n, h)) (omega (arith, h)))
      (is.chains number n);
}

pub indexed_changed : {A : Type 0} (family : Family) (image : List ℕ) (key : A → Option ℕ) (front back : List (ℕ × A)) (slot : ℕ) (r s : A) → key r ≡ key s
    → Indexed family image key (front ++ ((slot, r) ∷ back)) → Indexed family image key (front ++ ((slot, s) ∷ back))
indexed_changed family image key front back slot r s e is = record {
  chains = λ number n. subst (λ (xs : List ℕ). IsChain (chain_at family number) image xs)
      (picked_append key number front ((slot, r) ∷ back)
      ∙ (ap (λ o. picked key number front ++ cond (is_number number o) (slot ∷ picked key number back) (picked key number back)) e
      ∙ sym (picked_append key number front ((slot, s) ∷ back))))
      (is.chains number n);
}
