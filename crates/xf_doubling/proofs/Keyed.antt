-- Entries with what is made of their records.
use Rattle.std.proofs.Common.{◌≡◌, ℕ, List, [], ◌∷◌, ◌++◌, Option, cond, refl, ap, sym, subst, rules}
use Rattle.xf_chain.specs.declared.family.Family.{Family}
use Rattle.xf_chain.specs.Families.{chain_at}
use Rattle.xf_chain.specs.Lists.{IsChain}
use Rattle.xf_index.specs.Indexes.{slots_in, is_number, picked, Indexed, Holds}
use Rattle.xf_doubling.specs.Splits.{keyed}

pub keyed_append : {A B : Type 0} (f : A → B) (front back : List (ℕ × A)) → keyed f (front ++ back) ≡ keyed f front ++ keyed f back
keyed_append f [] back = refl
keyed_append f (e ∷ es) back = ap (λ r. (e.0, f e.1) ∷ r) (keyed_append f es back)

pub keyed_slots : {A B : Type 0} (f : A → B) (es : List (ℕ × A)) → slots_in (keyed f es) ≡ slots_in es
keyed_slots f [] = refl
keyed_slots f (e ∷ es) = ap (λ r. e.0 ∷ r) (keyed_slots f es)

pub keyed_picked : {A B : Type 0} (key : B → Option ℕ) (f : A → B) (number : ℕ) (es : List (ℕ × A))
    → picked key number (keyed f es) ≡ picked (λ r. key (f r)) number es
keyed_picked key f number [] = refl
keyed_picked key f number (e ∷ es) = ap (λ xs. cond (is_number number (key (f e.1))) (e.0 ∷ xs) xs) (keyed_picked key f number es)

pub keyed_holds : {A B : Type 0} (read : ℕ → B) (f : A → B) (es : List (ℕ × A)) → Holds read f es → Holds read (λ k. k) (keyed f es)
keyed_holds read f [] h = search rules
keyed_holds read f (e ∷ es) h = (h.0, keyed_holds read f es h.1)

pub keyed_index : {A B : Type 0} (family : Family) (image : List ℕ) (key : B → Option ℕ) (f : A → B) (es : List (ℕ × A))
    → Indexed family image (λ r. key (f r)) es → Indexed family image key (keyed f es)
keyed_index family image key f es is = record {
  chains = λ n l. subst (λ (xs : List ℕ). IsChain (chain_at family n) image xs) (sym (keyed_picked key f n es)) (is.chains n l);
}

pub plain_index : {A B : Type 0} (family : Family) (image : List ℕ) (key : B → Option ℕ) (f : A → B) (es : List (ℕ × A))
    → Indexed family image key (keyed f es) → Indexed family image (λ r. key (f r)) es
plain_index family image key f es is = record {
  chains = λ n l. subst (λ (xs : List ℕ). IsChain (chain_at family n) image xs) (keyed_picked key f n es) (is.chains n l);
}
