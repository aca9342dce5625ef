-- Lists of entries in two parts, and the other way round.
use Rattle.std.proofs.Common.{◌≡◌, ℕ, suc, ◌<◌, List, [], ◌∷◌, ◌++◌, length, refl, ap, sym, ◌∙◌, subst, reverse}
use Rattle.std.proofs.lemmas.List.{reverse-append, append_assoc}
use Rattle.xf_chain.specs.Lists.{Misses, Apart, Within}
use Rattle.xf_index.specs.Indexes.{slots_in, records_in}
use Rattle.xf_chain.proofs.Slots.{apart_more, apart_less, within_more, within_less, misses_others}

pub slots_append : {A : Type 0} (front back : List (ℕ × A)) → slots_in (front ++ back) ≡ slots_in front ++ slots_in back
slots_append [] back = refl
slots_append (e ∷ es) back = ap (λ r. e.0 ∷ r) (slots_append es back)

pub records_append : {A : Type 0} (front back : List (ℕ × A)) → records_in (front ++ back) ≡ records_in front ++ records_in back
records_append [] back = refl
records_append (e ∷ es) back = ap (λ r. e.1 ∷ r) (records_append es back)

pub reverse_last : {A : Type 0} (e : ℕ × A) (es : List (ℕ × A)) → reverse (es ++ (e ∷ [])) ≡ e ∷ reverse es
reverse_last e es = reverse-append es (e ∷ [])

pub reverse_within : {A : Type 0} (front back : List (ℕ × A)) (e : ℕ × A) → reverse (front ++ (e ∷ back)) ≡ reverse back ++ (e ∷ reverse front)
reverse_within front back e = reverse-append front (e ∷ back) ∙ (ap (λ l. l ++ reverse front) (reverse-append (e ∷ []) back) ∙ append_assoc (reverse back) (e ∷ []) (reverse front))

-- the slots and the records, the other way round
pub slots_reverse : {A : Type 0} (es : List (ℕ × A)) → slots_in (reverse es) ≡ reverse (slots_in es)
slots_reverse [] = refl
slots_reverse (e ∷ es) =
    ap slots_in (reverse-append (e ∷ []) es) ∙ slots_append (reverse es) (e ∷ [])
    ∙ ap (λ xs. xs ++ (e.0 ∷ [])) (slots_reverse es) ∙ sym (reverse-append (e.0 ∷ []) (slots_in es))

pub records_reverse : {A : Type 0} (es : List (ℕ × A)) → records_in (reverse es) ≡ reverse (records_in es)
records_reverse [] = refl
records_reverse (e ∷ es) =
    ap records_in (reverse-append (e ∷ []) es) ∙ records_append (reverse es) (e ∷ [])
    ∙ ap (λ xs. xs ++ (e.1 ∷ [])) (records_reverse es) ∙ sym (reverse-append (e.1 ∷ []) (records_in es))

-- slots that are apart, with one entry more or one less
pub apart_put : {A : Type 0} (front back : List (ℕ × A)) (slot : ℕ) (r : A) → Misses slot (slots_in (front ++ back)) → Apart (slots_in (front ++ back))
    → Apart (slots_in (front ++ ((slot, r) ∷ back)))
apart_put front back slot r m a =
    subst (λ (xs : List ℕ). Apart xs) (sym (slots_append front ((slot, r) ∷ back)))
    (apart_more slot (slots_in front) (slots_in back) (subst (λ (xs : List ℕ). Apart xs) (slots_append front back) a)
    (subst (λ (xs : List ℕ). Misses slot xs) (slots_append front back) m))

pub apart_taken : {A : Type 0} (front back : List (ℕ × A)) (slot : ℕ) (r : A) → Apart (slots_in (front ++ ((slot, r) ∷ back))) → Apart (slots_in (front ++ back))
apart_taken front back slot r a =
    subst (λ (xs : List ℕ). Apart xs) (sym (slots_append front back))
    (apart_less slot (slots_in front) (slots_in back) (subst (λ (xs : List ℕ). Apart xs) (slots_append front ((slot, r) ∷ back)) a))

-- the slot that was taken is none of the others
pub misses_taken : {A : Type 0} (front back : List (ℕ × A)) (slot : ℕ) (r : A) → Apart (slots_in (front ++ ((slot, r) ∷ back))) → Misses slot (slots_in (front ++ back))
misses_taken front back slot r a =
    subst (λ (xs : List ℕ). Misses slot xs) (sym (slots_append front back))
    (misses_others slot (slots_in front) (slots_in back) (subst (λ (xs : List ℕ). Apart xs) (slots_append front ((slot, r) ∷ back)) a))

pub within_put : {A : Type 0} (n : ℕ) (front back : List (ℕ × A)) (slot : ℕ) (r : A) → slot < n → Within n (slots_in (front ++ back)) → Within n (slots_in (front ++ ((slot, r) ∷ back)))
within_put n front back slot r s w =
    subst (λ (xs : List ℕ). Within n xs) (sym (slots_append front ((slot, r) ∷ back)))
    (within_more n slot (slots_in front) (slots_in back) (subst (λ (xs : List ℕ). Within n xs) (slots_append front back) w) s)

pub within_taken : {A : Type 0} (n : ℕ) (front back : List (ℕ × A)) (slot : ℕ) (r : A) → Within n (slots_in (front ++ ((slot, r) ∷ back))) → Within n (slots_in (front ++ back))
within_taken n front back slot r w =
    subst (λ (xs : List ℕ). Within n xs) (sym (slots_append front back))
    (within_less n slot (slots_in front) (slots_in back) (subst (λ (xs : List ℕ). Within n xs) (slots_append front ((slot, r) ∷ back)) w))

-- as many slots, and as many records, as entries
pub slots_length : {A : Type 0} (es : List (ℕ × A)) → length (slots_in es) ≡ length es
slots_length [] = refl
slots_length (e ∷ es) = ap suc (slots_length es)

pub records_length : {A : Type 0} (es : List (ℕ × A)) → length (records_in es) ≡ length es
records_length [] = refl
records_length (e ∷ es) = ap suc (records_length es)
