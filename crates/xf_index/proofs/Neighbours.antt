-- Which slot comes after another in a chain of an index, and which before it: one load each.
use Rattle.std.proofs.Common.{◌≡◌, ℕ, ◌<◌, List, ◌∷◌, ◌++◌, Option, Some, ap, sym, ◌∙◌, subst, slice_index, reverse}
use Rattle.xf_chain.specs.Chains.{slot_of, from_of, first_in, next_in}
use Rattle.xf_chain.specs.Lists.{IsChain, last_of, first_of}
use Rattle.xf_chain.specs.declared.family.Family.{Family}
use Rattle.xf_chain.specs.Families.{chain_at}
use Rattle.xf_index.specs.Indexes.{slots_in, picked, Indexed}
use Rattle.xf_chain.proofs.Neighbours.{chain_first, chain_next, chain_following}
use Rattle.xf_index.proofs.Entries.{reverse_within}
use Rattle.xf_index.proofs.Turned.{first_reverse}
use Rattle.xf_index.proofs.Picks.{picked_append, picked_own, picked_slots, picked_reverse}

-- after the front the back comes
pub following_picked : {A : Type 0} (family : Family) (image : List ℕ) (key : A → Option ℕ) (number : ℕ) (front back : List (ℕ × A)) → number < family.count
    → Indexed family image key (front ++ back)
    → slot_of family.slots (slice_index image (from_of (chain_at family number) (last_of (picked key number front)))) ≡ first_of (picked key number back)
following_picked family image key number front back n is =
    chain_following (chain_at family number) image (picked key number front) (picked key number back)
    (subst (λ (xs : List ℕ). IsChain (chain_at family number) image xs) (picked_append key number front back) (is.chains number n))

-- the head names the first
pub first_picked : {A : Type 0} (family : Family) (image : List ℕ) (key : A → Option ℕ) (number : ℕ) (es : List (ℕ × A)) → number < family.count
    → Indexed family image key es → first_in (chain_at family number) image ≡ first_of (picked key number es)
first_picked family image key number es n is = chain_first (chain_at family number) image (picked key number es) (is.chains number n)

-- the link of a slot names the one after it
pub next_picked : {A : Type 0} (family : Family) (image : List ℕ) (key : A → Option ℕ) (number : ℕ) (front back : List (ℕ × A)) (slot : ℕ) (r : A)
    → number < family.count → key r ≡ Some number → Indexed family image key (front ++ ((slot, r) ∷ back))
    → next_in (chain_at family number) image slot ≡ first_of (picked key number back)
next_picked family image key number front back slot r n own is =
    chain_next (chain_at family number) image (picked key number front) (picked key number back) slot
    (subst (λ (xs : List ℕ). IsChain (chain_at family number) image xs) (picked_own key number slot r front back own) (is.chains number n))

-- of the entries the other way round: the head names the last
pub last_picked_back : {A : Type 0} (family : Family) (image : List ℕ) (key : A → Option ℕ) (number : ℕ) (es : List (ℕ × A)) → number < family.count
    → Indexed family image key (reverse es) → first_in (chain_at family number) image ≡ last_of (picked key number es)
last_picked_back family image key number es n is =
    first_picked family image key number (reverse es) n is ∙ ap first_of (picked_reverse key number es) ∙ first_reverse (picked key number es)

-- and the link of a slot the one before it
pub before_picked : {A : Type 0} (family : Family) (image : List ℕ) (key : A → Option ℕ) (number : ℕ) (front back : List (ℕ × A)) (slot : ℕ) (r : A)
    → number < family.count → key r ≡ Some number → Indexed family image key (reverse (front ++ ((slot, r) ∷ back)))
    → next_in (chain_at family number) image slot ≡ last_of (picked key number front)
before_picked {A = A} family image key number front back slot r n own is =
    next_picked family image key number (reverse back) (reverse front) slot r n own
    (subst (λ (xs : List (ℕ × A)). Indexed family image key xs) (reverse_within front back (slot, r)) is)
    ∙ ap first_of (picked_reverse key number front) ∙ first_reverse (picked key number front)

-- the same of the one chain of all
pub all_following : {A : Type 0} (family : Family) (image : List ℕ) (key : A → Option ℕ) (front back : List (ℕ × A)) → ((r : A) → key r ≡ Some 0) → 0 < family.count
    → Indexed family image key (front ++ back)
    → slot_of family.slots (slice_index image (from_of (chain_at family 0) (last_of (slots_in front)))) ≡ first_of (slots_in back)
all_following family image key front back every n is =
    ap (λ xs. slot_of family.slots (slice_index image (from_of (chain_at family 0) (last_of xs)))) (sym (picked_slots key front every))
    ∙ following_picked family image key 0 front back n is ∙ ap first_of (picked_slots key back every)

pub all_next : {A : Type 0} (family : Family) (image : List ℕ) (key : A → Option ℕ) (front back : List (ℕ × A)) (slot : ℕ) (r : A)
    → ((s : A) → key s ≡ Some 0) → 0 < family.count → Indexed family image key (front ++ ((slot, r) ∷ back))
    → next_in (chain_at family 0) image slot ≡ first_of (slots_in back)
all_next family image key front back slot r every n is =
    next_picked family image key 0 front back slot r n (every r) is ∙ ap first_of (picked_slots key back every)

pub all_before : {A : Type 0} (family : Family) (image : List ℕ) (key : A → Option ℕ) (front back : List (ℕ × A)) (slot : ℕ) (r : A)
    → ((s : A) → key s ≡ Some 0) → 0 < family.count → Indexed family image key (reverse (front ++ ((slot, r) ∷ back)))
    → next_in (chain_at family 0) image slot ≡ last_of (slots_in front)
all_before family image key front back slot r every n is =
    before_picked family image key 0 front back slot r n (every r) is ∙ ap last_of (picked_slots key front every)

pub all_last : {A : Type 0} (family : Family) (image : List ℕ) (key : A → Option ℕ) (es : List (ℕ × A)) → ((r : A) → key r ≡ Some 0) → 0 < family.count
    → Indexed family image key (reverse es) → first_in (chain_at family 0) image ≡ last_of (slots_in es)
all_last family image key es every n is = last_picked_back family image key 0 es n is ∙ ap last_of (picked_slots key es every)
