-- An index whose one chain has all entries, in their order or the other way round.
use Rattle.std.proofs.Common.{◌≡◌, ℕ, ◌<◌, ◌≤◌, List, ◌∷◌, ◌++◌, Option, Some, length, ◌∙◌, subst, arith, reverse}
use Rattle.xf_chain.specs.Chains.{slots_of}
use Rattle.xf_chain.specs.Lists.{Misses, Apart, Within, IsChain, last_of, first_of}
use Rattle.xf_chain.specs.declared.family.Family.{Family}
use Rattle.xf_chain.specs.Families.{chain_at, Lays, put_in, taken_out}
use Rattle.xf_index.specs.Indexes.{slots_in, picked, Indexed}
use Rattle.xf_chain.proofs.Slots.{slots_fit}
use Rattle.xf_chain.proofs.Walks.{chain_walk}
use Rattle.xf_index.proofs.Entries.{slots_length}
use Rattle.xf_index.proofs.Picks.{picked_slots}
use Rattle.xf_index.proofs.Puts.{indexed_put}
use Rattle.xf_index.proofs.Takes.{indexed_taken}
use Rattle.xf_index.proofs.Latest.{back_put, back_taken}

-- the slots of all entries
pub all_walk : {A : Type 0} (family : Family) (image : List ℕ) (key : A → Option ℕ) (es : List (ℕ × A)) → ((r : A) → key r ≡ Some 0) → 0 < family.count
    → Indexed family image key es → slots_of (chain_at family 0) image ≡ slots_in es
all_walk family image key es every n is = chain_walk (chain_at family 0) image (picked key 0 es) (is.chains 0 n) ∙ picked_slots key es every

-- they are apart, and slots of the family
pub all_apart : {A : Type 0} (family : Family) (image : List ℕ) (key : A → Option ℕ) (es : List (ℕ × A)) → ((r : A) → key r ≡ Some 0) → 0 < family.count
    → Indexed family image key es → Apart (slots_in es)
all_apart family image key es every n is = subst (λ (xs : List ℕ). Apart xs) (picked_slots key es every) (IsChain.apart (is.chains 0 n))

pub all_within : {A : Type 0} (family : Family) (image : List ℕ) (key : A → Option ℕ) (es : List (ℕ × A)) → ((r : A) → key r ≡ Some 0) → 0 < family.count
    → Indexed family image key es → Within family.slots (slots_in es)
all_within family image key es every n is = subst (λ (xs : List ℕ). Within family.slots xs) (picked_slots key es every) (IsChain.within (is.chains 0 n))

-- so there are no more entries than slots
pub all_fit : {A : Type 0} (family : Family) (image : List ℕ) (key : A → Option ℕ) (es : List (ℕ × A)) → ((r : A) → key r ≡ Some 0) → 0 < family.count
    → Indexed family image key es → length es ≤ family.slots
all_fit family image key es every n is =
    let fit : length (slots_in es) ≤ family.slots = slots_fit family.slots (slots_in es) (all_apart family image key es every n is) (all_within family image key es every n is) in
    let same : length (slots_in es) ≡ length es = slots_length es in
    omega (arith, fit, same)

pub all_put : {A : Type 0} (family : Family) (image : List ℕ) (key : A → Option ℕ) (front back : List (ℕ × A)) (slot : ℕ) (r : A)
    → ((s : A) → key s ≡ Some 0) → Lays family (length image) → slot < family.slots → 0 < family.count
    → Misses slot (slots_in (front ++ back)) → Apart (slots_in (front ++ back))
    → Indexed family image key (front ++ back)
    → Indexed family (put_in family image (Some 0) (last_of (slots_in front)) slot) key (front ++ ((slot, r) ∷ back))
all_put family image key front back slot r every l s n m a is =
    subst (λ (xs : List ℕ). Indexed family (put_in family image (Some 0) (last_of xs) slot) key (front ++ ((slot, r) ∷ back))) (picked_slots key front every)
    (indexed_put family image key front back slot r (Some 0) (every r) l s n m a is)

pub all_taken : {A : Type 0} (family : Family) (image : List ℕ) (key : A → Option ℕ) (front back : List (ℕ × A)) (slot : ℕ) (r : A)
    → ((s : A) → key s ≡ Some 0) → Lays family (length image) → 0 < family.count
    → Apart (slots_in (front ++ ((slot, r) ∷ back)))
    → Indexed family image key (front ++ ((slot, r) ∷ back))
    → Indexed family (taken_out family image (Some 0) (last_of (slots_in front)) slot) key (front ++ back)
all_taken family image key front back slot r every l n a is =
    subst (λ (xs : List ℕ). Indexed family (taken_out family image (Some 0) (last_of xs) slot) key (front ++ back)) (picked_slots key front every)
    (indexed_taken family image key front back slot r (Some 0) (every r) l n a is)

-- the other way round, a new entry goes after the first slot of what comes behind it
pub all_back_put : {A : Type 0} (family : Family) (image : List ℕ) (key : A → Option ℕ) (front back : List (ℕ × A)) (slot : ℕ) (r : A)
    → ((s : A) → key s ≡ Some 0) → Lays family (length image) → slot < family.slots → 0 < family.count
    → Misses slot (slots_in (front ++ back)) → Apart (slots_in (front ++ back))
    → Indexed family image key (reverse (front ++ back))
    → Indexed family (put_in family image (Some 0) (first_of (slots_in back)) slot) key (reverse (front ++ ((slot, r) ∷ back)))
all_back_put family image key front back slot r every l s n m a is =
    subst (λ (xs : List ℕ). Indexed family (put_in family image (Some 0) (first_of xs) slot) key (reverse (front ++ ((slot, r) ∷ back)))) (picked_slots key back every)
    (back_put family image key front back slot r (Some 0) (every r) l s n m a is)

pub all_back_taken : {A : Type 0} (family : Family) (image : List ℕ) (key : A → Option ℕ) (front back : List (ℕ × A)) (slot : ℕ) (r : A)
    → ((s : A) → key s ≡ Some 0) → Lays family (length image) → 0 < family.count
    → Apart (slots_in (front ++ ((slot, r) ∷ back)))
    → Indexed family image key (reverse (front ++ ((slot, r) ∷ back)))
    → Indexed family (taken_out family image (Some 0) (first_of (slots_in back)) slot) key (reverse (front ++ back))
all_back_taken family image key front back slot r every l n a is =
    subst (λ (xs : List ℕ). Indexed family (taken_out family image (Some 0) (first_of xs) slot) key (reverse (front ++ back))) (picked_slots key back every)
    (back_taken family image key front back slot r (Some 0) (every r) l n a is)
