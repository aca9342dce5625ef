-- Chains of one index share no slot.
use Rattle.std.proofs.Common.{◌≡◌, ◌≢◌, ℕ, ◌+◌, ◌*◌, ◌<◌, Bool, true, false, List, [], ◌∷◌, ◌++◌, Option, None, Some, refl, sym, subst, arith, rules, cond}
use Rattle.std.proofs.lemmas.Bool.Decides.{nat_tests}
use Rattle.std.specs.Prelude.{⊤}
use Rattle.xf_chain.specs.Chains.{from_of}
use Rattle.xf_chain.specs.Lists.{Misses, Apart, last_from, last_of}
use Rattle.xf_chain.specs.declared.family.Family.{Family}
use Rattle.xf_chain.specs.Families.{chain_at, Lays}
use Rattle.xf_index.specs.Indexes.{slots_in, is_number, picked}
use Rattle.xf_chain.proofs.Places.{Clear}
use Rattle.xf_index.proofs.Picks.{picked_misses}

-- a slot that isn't in a list of slots has a link of its own
pub clear_of : (family : Family) (number slot : ℕ) (xs : List ℕ) → Misses slot xs → Clear (chain_at family number) (family.links + 1 * slot) xs
clear_of family number slot [] m = search rules
clear_of family number slot (x ∷ xs) m = ((λ e. m.0 (omega (arith, e))), clear_of family number slot xs m.1)

-- no link of a list of slots is a head
pub clear_head_of : (family : Family) (number place : ℕ) (xs : List ℕ) → place < family.links → Clear (chain_at family number) place xs
clear_head_of family number place [] l = search rules
clear_head_of family number place (x ∷ xs) l = ((λ e. omega (arith, e, l)), clear_head_of family number place xs l)

-- two lists of slots that share none
abbrev pub Disjoint : List ℕ → List ℕ → Type 0
Disjoint [] ys = ⊤
Disjoint (x ∷ xs) ys = Misses x ys × Disjoint xs ys

disjoint_last : (x : ℕ) (xs ys : List ℕ) (s : ℕ) → Disjoint (x ∷ xs) ys → last_of (x ∷ xs) ≡ Some s → Misses s ys
disjoint_last x [] ys s d e = let k : x ≡ s = cc in subst (λ (q : ℕ). Misses q ys) k d.0
disjoint_last x (y ∷ xs) ys s d e = disjoint_last y xs ys s d.1 e

pub disjoint_from : (family : Family) (size number other : ℕ) (after xs : List ℕ) → Lays family size → number < family.count → Disjoint after xs
    → Clear (chain_at family other) (from_of (chain_at family number) (last_of after)) xs
disjoint_from family size number other [] xs l n d = clear_head_of family other (family.heads + number) xs (let a = l.heads in omega (arith, a, n))
disjoint_from family size number other (x ∷ after) xs l n d = clear_of family other (last_from x after) xs (disjoint_last x after xs (last_from x after) d refl)

disjoint_more : (x : ℕ) (xs ys : List ℕ) → Misses x xs → Disjoint xs ys → Disjoint xs (x ∷ ys)
disjoint_more x [] ys k d = search rules
disjoint_more x (y ∷ xs) ys k d = (((λ e. k.0 (sym e)), d.0), disjoint_more x xs ys k.1 d.1)

pub disjoint_front : (xs ys zs : List ℕ) → Disjoint (xs ++ ys) zs → Disjoint xs zs
disjoint_front [] ys zs d = search rules
disjoint_front (x ∷ xs) ys zs d = (d.0, disjoint_front xs ys zs d.1)

-- two chains

-- two chains of one index share no slot
cond_disjoint : (c d : Bool) (x : ℕ) (xs ys : List ℕ) → (c ≡ true → d ≡ true → ⊥) → Misses x ys → Misses x xs → Disjoint xs ys
    → Disjoint (cond c (x ∷ xs) xs) (cond d (x ∷ ys) ys)
cond_disjoint true true x xs ys f m k d = absurd (f refl refl)
cond_disjoint true false x xs ys f m k d = (m, d)
cond_disjoint false true x xs ys f m k d = disjoint_more x xs ys k d
cond_disjoint false false x xs ys f m k d = d

not_both : (n m : ℕ) (o : Option ℕ) → n ≢ m → is_number n o ≡ true → is_number m o ≡ true → ⊥
not_both n m None h a b = absurd (cc)
not_both n m (Some k) h a b = h (grind (arith, nat_tests))

pub picked_disjoint : {A : Type 0} (key : A → Option ℕ) (n m : ℕ) (es : List (ℕ × A)) → n ≢ m → Apart (slots_in es) → Disjoint (picked key n es) (picked key m es)
picked_disjoint key n m [] h a = search rules
picked_disjoint key n m (e ∷ es) h a =
    cond_disjoint (is_number n (key e.1)) (is_number m (key e.1)) e.0 (picked key n es) (picked key m es)
    (λ p q. not_both n m (key e.1) h p q) (picked_misses key m e.0 es a.0) (picked_misses key n e.0 es a.0) (picked_disjoint key n m es h a.1)

pub head_not : (after : List ℕ) (family : Family) (size number m : ℕ) → Lays family size → number < family.count → m < family.count → m ≢ number
    → family.heads + m ≢ from_of (chain_at family number) (last_of after)
head_not [] family size number m l n k o = λ e. o (omega (arith, e))
head_not (x ∷ xs) family size number m l n k o = let a = l.heads in λ e. omega (arith, a, k, e)
