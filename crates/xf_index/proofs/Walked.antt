-- Where a walk along a chain of an index stops.
use Rattle.std.proofs.Common.{◌≡◌, ℕ, ◌<◌, Bool, true, false, List, [], ◌∷◌, ◌++◌, Option, None, Some, refl, ap, ◌∙◌, subst, rules, cond, reverse}
use Rattle.std.proofs.lemmas.List.{reverse-append}
use Rattle.std.specs.List.{find}
use Rattle.xf_chain.specs.Chains.{slots_of}
use Rattle.xf_chain.specs.Lists.{IsChain, last_of, first_of}
use Rattle.xf_chain.specs.declared.family.Family.{Family}
use Rattle.xf_chain.specs.Families.{chain_at, last_while, is_other}
use Rattle.xf_index.specs.Indexes.{slots_in, is_number, picked, Indexed, Holds, AllAre}
use Rattle.xf_chain.proofs.Stops.{AllSlots, last_is}
use Rattle.xf_chain.proofs.Neighbours.{chain_before}
use Rattle.xf_chain.proofs.Walks.{chain_walk}
use Rattle.xf_index.proofs.Turned.{first_reverse, all_reverse}
use Rattle.xf_index.proofs.Picks.{picked_append, picked_own, picked_slots, picked_reverse}
use Rattle.xf_index.proofs.Holds.{holds_front, holds_back}

-- a walk passes the slots of the entries that stand in the chain
pub walk_picked : {A : Type 0} (family : Family) (image : List ℕ) (key : A → Option ℕ) (number : ℕ) (es : List (ℕ × A)) → number < family.count
    → Indexed family image key es → slots_of (chain_at family number) image ≡ picked key number es
walk_picked family image key number es n is = chain_walk (chain_at family number) image (picked key number es) (is.chains number n)

all_cond : (test : ℕ → Bool) (b c : Bool) (x : ℕ) (xs : List ℕ) → test x ≡ b → AllSlots test b xs → AllSlots test b (cond c (x ∷ xs) xs)
all_cond test b true x xs e a = (e, a)
all_cond test b false x xs e a = a

pub picked_all : {A : Type 0} (key : A → Option ℕ) (number : ℕ) (test : ℕ → Bool) (t : A → Bool) (b : Bool) (es : List (ℕ × A))
    → Holds test t es → AllAre t b es → AllSlots test b (picked key number es)
picked_all key number test t b [] h a = search rules
picked_all key number test t b (e ∷ es) h a =
    all_cond test b (is_number number (key e.1)) e.0 (picked key number es) (h.0 ∙ a.0) (picked_all key number test t b es h.1 a.1)

-- the walk along a chain of an index, to the first whose record fails, stops where the entries are parted
pub last_picked : {A : Type 0} (key : A → Option ℕ) (number : ℕ) (test : ℕ → Bool) (t : A → Bool) (front back : List (ℕ × A))
    → Holds test t (front ++ back) → AllAre t true front → AllAre t false back
    → last_while test None (picked key number front ++ picked key number back) ≡ last_of (picked key number front)
last_picked key number test t front back h a b =
    last_is test (picked key number front) (picked key number back)
    (picked_all key number test t true front (holds_front test t front back h) a)
    (picked_all key number test t false back (holds_back test t front back h) b)

-- a walk to a slot ends at the one before it
pub before_walked : {A : Type 0} (family : Family) (image : List ℕ) (key : A → Option ℕ) (number : ℕ) (front back : List (ℕ × A)) (slot : ℕ) (r : A)
    → number < family.count → key r ≡ Some number → Indexed family image key (front ++ ((slot, r) ∷ back))
    → last_while (is_other slot) None (slots_of (chain_at family number) image) ≡ last_of (picked key number front)
before_walked family image key number front back slot r n own is =
    chain_before (chain_at family number) image (picked key number front) (picked key number back) slot
    (subst (λ (xs : List ℕ). IsChain (chain_at family number) image xs) (picked_own key number slot r front back own) (is.chains number n))

-- a walk to the first slot that fails a test ends where the entries are parted
pub last_walked : {A : Type 0} (family : Family) (image : List ℕ) (key : A → Option ℕ) (number : ℕ) (test : ℕ → Bool) (t : A → Bool) (front back : List (ℕ × A))
    → number < family.count → Holds test t (front ++ back) → AllAre t true front → AllAre t false back → Indexed family image key (front ++ back)
    → last_while test None (slots_of (chain_at family number) image) ≡ last_of (picked key number front)
last_walked family image key number test t front back n h f g is =
    ap (last_while test None) (walk_picked family image key number (front ++ back) n is ∙ picked_append key number front back)
    ∙ last_picked key number test t front back h f g

find_fails : (test : ℕ → Bool) (xs ys : List ℕ) → AllSlots test false xs → find test (xs ++ ys) ≡ find test ys
find_fails test [] ys a = refl
find_fails test (x ∷ xs) ys a = ap (λ b. cond b (Some x) (find test (xs ++ ys))) a.0 ∙ find_fails test xs ys a.1

find_first : (test : ℕ → Bool) (xs : List ℕ) → AllSlots test true xs → find test xs ≡ first_of xs
find_first test [] a = refl
find_first test (x ∷ xs) a = ap (λ b. cond b (Some x) (find test xs)) a.0

-- from the last entry back, the first slot that passes a test is the last of the front
pub find_back : {A : Type 0} (key : A → Option ℕ) (number : ℕ) (test : ℕ → Bool) (t : A → Bool) (front back : List (ℕ × A))
    → Holds test t (front ++ back) → AllAre t true front → AllAre t false back
    → find test (picked key number (reverse (front ++ back))) ≡ last_of (picked key number front)
find_back key number test t front back h f g =
    let fs : List ℕ = picked key number front in
    let bs : List ℕ = picked key number back in
    let whole : picked key number (reverse (front ++ back)) ≡ reverse bs ++ reverse fs =
    picked_reverse key number (front ++ back) ∙ ap reverse (picked_append key number front back) ∙ reverse-append fs bs in
    ap (find test) whole
    ∙ find_fails test (reverse bs) (reverse fs) (all_reverse test false bs (picked_all key number test t false back (holds_back test t front back h) g))
    ∙ find_first test (reverse fs) (all_reverse test true fs (picked_all key number test t true front (holds_front test t front back h) f))
    ∙ first_reverse fs

pub found_back : {A : Type 0} (family : Family) (image : List ℕ) (key : A → Option ℕ) (number : ℕ) (test : ℕ → Bool) (t : A → Bool) (front back : List (ℕ × A))
    → number < family.count → Holds test t (front ++ back) → AllAre t true front → AllAre t false back → Indexed family image key (reverse (front ++ back))
    → find test (slots_of (chain_at family number) image) ≡ last_of (picked key number front)
found_back family image key number test t front back n h f g is =
    ap (find test) (walk_picked family image key number (reverse (front ++ back)) n is)
    ∙ find_back key number test t front back h f g

-- the same of the one chain of all
pub all_found_back : {A : Type 0} (family : Family) (image : List ℕ) (key : A → Option ℕ) (test : ℕ → Bool) (t : A → Bool) (front back : List (ℕ × A))
    → ((r : A) → key r ≡ Some 0) → 0 < family.count → Holds test t (front ++ back) → AllAre t true front → AllAre t false back
    → Indexed family image key (reverse (front ++ back))
    → find test (slots_of (chain_at family 0) image) ≡ last_of (slots_in front)
all_found_back family image key test t front back every n h f g is =
    found_back family image key 0 test t front back n h f g is ∙ ap last_of (picked_slots key front every)
