-- One index, and one column, while the areas around them are written.
use Rattle.std.proofs.Common.{◌≡◌, ◌≢◌, ℕ, ◌+◌, ◌<◌, ◌≤◌, List, ◌∷◌, ◌++◌, Option, length, reverse, sym, subst, slice_index}
use Rattle.xf_chain.specs.declared.family.Family.{Family}
use Rattle.xf_chain.specs.Families.{Lays, IsOf, put_in, taken_out}
use Rattle.xf_chain.specs.Lists.{Misses, Apart, Within, first_of, last_of}
use Rattle.xf_index.proofs.Latest.{back_put, back_taken}
use Rattle.xf_index.proofs.Holds.{holds_same, holds_put, holds_taken, holds_kept}
use Rattle.xf_index.proofs.Puts.{indexed_put}
use Rattle.xf_index.proofs.Stays.{indexed_apart}
use Rattle.xf_index.proofs.Takes.{indexed_taken}
use Rattle.xf_index.specs.Indexes.{slots_in, picked_of, Indexed, Holds}

-- the words of two images are the same where an index lies
abbrev pub SameWords : Family → List ℕ → List ℕ → Type 0
SameWords b i j = (q : ℕ) → b.heads ≤ q → q < b.links + b.slots → slice_index j q ≡ slice_index i q

-- an index, from the words before all to the words after all: before it is written nothing of it was, and afterwards nothing is
pub link_put : {A : Type 0} (b : Family) (image before after : List ℕ) (n : ℕ) (key : A → Option ℕ) (front back : List (ℕ × A)) (slot : ℕ) (r : A) (o place : Option ℕ)
    → Lays b n → length before ≡ n → SameWords b image before → SameWords b (put_in b before o place slot) after
    → key r ≡ o → place ≡ last_of (picked_of key o front) → slot < b.slots → IsOf b o
    → Misses slot (slots_in (front ++ back)) → Apart (slots_in (front ++ back))
    → Indexed b image key (front ++ back) → Indexed b after key (front ++ ((slot, r) ∷ back))
link_put {A = A} b image before after n key front back slot r o place l e f g own p s k m a is =
    indexed_apart b (put_in b before o place slot) after n key (front ++ ((slot, r) ∷ back)) l g
    (subst (λ (x : Option ℕ). Indexed b (put_in b before o x slot) key (front ++ ((slot, r) ∷ back))) (sym p)
    (indexed_put b before key front back slot r o own (subst (λ (size : ℕ). Lays b size) (sym e) l) s k m a
    (indexed_apart b image before n key (front ++ back) l f is)))

pub link_taken : {A : Type 0} (b : Family) (image before after : List ℕ) (n : ℕ) (key : A → Option ℕ) (front back : List (ℕ × A)) (slot : ℕ) (r : A) (o place : Option ℕ)
    → Lays b n → length before ≡ n → SameWords b image before → SameWords b (taken_out b before o place slot) after
    → key r ≡ o → place ≡ last_of (picked_of key o front) → IsOf b o
    → Apart (slots_in (front ++ ((slot, r) ∷ back)))
    → Indexed b image key (front ++ ((slot, r) ∷ back)) → Indexed b after key (front ++ back)
link_taken {A = A} b image before after n key front back slot r o place l e f g own p k a is =
    indexed_apart b (taken_out b before o place slot) after n key (front ++ back) l g
    (subst (λ (x : Option ℕ). Indexed b (taken_out b before o x slot) key (front ++ back)) (sym p)
    (indexed_taken b before key front back slot r o own (subst (λ (size : ℕ). Lays b size) (sym e) l) k a
    (indexed_apart b image before n key (front ++ ((slot, r) ∷ back)) l f is)))

-- the same of an index of the list the other way round

pub turned_put : {A : Type 0} (b : Family) (image before after : List ℕ) (n : ℕ) (key : A → Option ℕ) (front back : List (ℕ × A)) (slot : ℕ) (r : A) (o place : Option ℕ)
    → Lays b n → length before ≡ n → SameWords b image before → SameWords b (put_in b before o place slot) after
    → key r ≡ o → place ≡ first_of (picked_of key o back) → slot < b.slots → IsOf b o
    → Misses slot (slots_in (front ++ back)) → Apart (slots_in (front ++ back))
    → Indexed b image key (reverse (front ++ back)) → Indexed b after key (reverse (front ++ ((slot, r) ∷ back)))
turned_put {A = A} b image before after n key front back slot r o place l e f g own p s k m a is =
    indexed_apart b (put_in b before o place slot) after n key (reverse (front ++ ((slot, r) ∷ back))) l g
    (subst (λ (x : Option ℕ). Indexed b (put_in b before o x slot) key (reverse (front ++ ((slot, r) ∷ back)))) (sym p)
    (back_put b before key front back slot r o own (subst (λ (size : ℕ). Lays b size) (sym e) l) s k m a
    (indexed_apart b image before n key (reverse (front ++ back)) l f is)))

pub turned_taken : {A : Type 0} (b : Family) (image before after : List ℕ) (n : ℕ) (key : A → Option ℕ) (front back : List (ℕ × A)) (slot : ℕ) (r : A) (o place : Option ℕ)
    → Lays b n → length before ≡ n → SameWords b image before → SameWords b (taken_out b before o place slot) after
    → key r ≡ o → place ≡ first_of (picked_of key o back) → IsOf b o
    → Apart (slots_in (front ++ ((slot, r) ∷ back)))
    → Indexed b image key (reverse (front ++ ((slot, r) ∷ back))) → Indexed b after key (reverse (front ++ back))
turned_taken {A = A} b image before after n key front back slot r o place l e f g own p k a is =
    indexed_apart b (taken_out b before o place slot) after n key (reverse (front ++ back)) l g
    (subst (λ (x : Option ℕ). Indexed b (taken_out b before o x slot) key (reverse (front ++ back))) (sym p)
    (back_taken b before key front back slot r o own (subst (λ (size : ℕ). Lays b size) (sym e) l) k a
    (indexed_apart b image before n key (reverse (front ++ ((slot, r) ∷ back))) l f is)))

-- a column: what is read at the other slots stays, and at the new one stands what the record wants
pub column_put : {A B : Type 0} (read now : ℕ → B) (want : A → B) (n slot : ℕ) (r : A) (front back : List (ℕ × A))
    → ((x : ℕ) → x < n → x ≢ slot → now x ≡ read x) → now slot ≡ want r
    → Misses slot (slots_in (front ++ back)) → Within n (slots_in (front ++ back))
    → Holds read want (front ++ back) → Holds now want (front ++ ((slot, r) ∷ back))
column_put read now want n slot r front back f e m w h =
    holds_put now want slot r front back (holds_same read now want n slot (front ++ back) f m w h) e

pub column_taken : {A B : Type 0} (read now : ℕ → B) (want : A → B) (n slot : ℕ) (r : A) (front back : List (ℕ × A))
    → ((x : ℕ) → x < n → now x ≡ read x) → Within n (slots_in (front ++ back))
    → Holds read want (front ++ ((slot, r) ∷ back)) → Holds now want (front ++ back)
column_taken read now want n slot r front back f w h =
    holds_kept read now want n (front ++ back) f w (holds_taken read want slot r front back h)
