-- What stands in the slots of entries.
use Rattle.std.proofs.Common.{◌≡◌, ◌≢◌, ℕ, ◌<◌, List, [], ◌∷◌, ◌++◌, ap, sym, ◌∙◌, rules}
use Rattle.xf_chain.specs.Lists.{Misses, Within}
use Rattle.xf_index.specs.Indexes.{slots_in, Holds}

pub holds_same : {A B : Type 0} (read now : ℕ → B) (want : A → B) (n slot : ℕ) (es : List (ℕ × A))
    → ((s : ℕ) → s < n → s ≢ slot → now s ≡ read s) → Misses slot (slots_in es) → Within n (slots_in es) → Holds read want es → Holds now want es
holds_same read now want n slot [] f m w h = search rules
holds_same read now want n slot (e ∷ es) f m w h = (f e.0 w.0 (λ q. m.0 (sym q)) ∙ h.0, holds_same read now want n slot es f m.1 w.1 h.1)

pub holds_kept : {A B : Type 0} (read now : ℕ → B) (want : A → B) (n : ℕ) (es : List (ℕ × A))
    → ((s : ℕ) → s < n → now s ≡ read s) → Within n (slots_in es) → Holds read want es → Holds now want es
holds_kept read now want n [] f w h = search rules
holds_kept read now want n (e ∷ es) f w h = (f e.0 w.0 ∙ h.0, holds_kept read now want n es f w.1 h.1)

pub holds_put : {A B : Type 0} (read : ℕ → B) (want : A → B) (slot : ℕ) (r : A) (front back : List (ℕ × A))
    → Holds read want (front ++ back) → read slot ≡ want r → Holds read want (front ++ ((slot, r) ∷ back))
holds_put read want slot r [] back h e = (e, h)
holds_put read want slot r (x ∷ front) back h e = (h.0, holds_put read want slot r front back h.1 e)

pub holds_taken : {A B : Type 0} (read : ℕ → B) (want : A → B) (slot : ℕ) (r : A) (front back : List (ℕ × A))
    → Holds read want (front ++ ((slot, r) ∷ back)) → Holds read want (front ++ back)
holds_taken read want slot r [] back h = h.1
holds_taken read want slot r (x ∷ front) back h = (h.0, holds_taken read want slot r front back h.1)

pub holds_test : {A B C : Type 0} (read : ℕ → B) (want : A → B) (f : B → C) (es : List (ℕ × A))
    → Holds read want es → Holds (λ s. f (read s)) (λ r. f (want r)) es
holds_test read want f [] h = search rules
holds_test read want f (e ∷ es) h = (ap f h.0, holds_test read want f es h.1)

pub holds_two : {A B C D : Type 0} (read : ℕ → B) (second : ℕ → C) (want : A → B) (other : A → C) (f : B → C → D) (es : List (ℕ × A))
    → Holds read want es → Holds second other es → Holds (λ s. f (read s) (second s)) (λ r. f (want r) (other r)) es
holds_two read second want other f [] h k = search rules
holds_two read second want other f (e ∷ es) h k = (ap (λ x. f x (second e.0)) h.0 ∙ ap (λ y. f (want e.1) y) k.0, holds_two read second want other f es h.1 k.1)

pub holds_front : {A B : Type 0} (read : ℕ → B) (want : A → B) (front back : List (ℕ × A)) → Holds read want (front ++ back) → Holds read want front
holds_front read want [] back h = search rules
holds_front read want (x ∷ front) back h = (h.0, holds_front read want front back h.1)

pub holds_back : {A B : Type 0} (read : ℕ → B) (want : A → B) (front back : List (ℕ × A)) → Holds read want (front ++ back) → Holds read want back
holds_back read want [] back h = h
holds_back read want (x ∷ front) back h = holds_back read want front back h.1

-- a record that was replaced, of which the same is wanted, or that holds anew
pub holds_changed : {A B : Type 0} (read : ℕ → B) (want : A → B) (slot : ℕ) (r s : A) (front back : List (ℕ × A))
    → Holds read want (front ++ ((slot, r) ∷ back)) → read slot ≡ want s → Holds read want (front ++ ((slot, s) ∷ back))
holds_changed read want slot r s [] back h e = (e, h.1)
holds_changed read want slot r s (x ∷ front) back h e = (h.0, holds_changed read want slot r s front back h.1 e)

-- what stands in the slot of one of the entries
pub holds_at : {A B : Type 0} (read : ℕ → B) (want : A → B) (slot : ℕ) (r : A) (front back : List (ℕ × A))
    → Holds read want (front ++ ((slot, r) ∷ back)) → read slot ≡ want r
holds_at read want slot r [] back h = h.0
holds_at read want slot r (x ∷ front) back h = holds_at read want slot r front back h.1
