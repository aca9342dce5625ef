-- Which slots of a list of entries stand in one chain.
use Rattle.std.proofs.Common.{◌≡◌, ◌≢◌, ℕ, ◌<◌, Bool, true, false, List, [], ◌∷◌, ◌++◌, Option, None, Some, refl, ap, sym, ◌∙◌, arith, rules, cond, reverse, append-nil}
use Rattle.std.proofs.lemmas.Bool.Decides.{nat_tests}
use Rattle.std.proofs.lemmas.List.{reverse-append}
use Rattle.xf_chain.specs.Lists.{Misses, Within, last_of}
use Rattle.xf_index.specs.Indexes.{slots_in, is_number, picked, picked_of}

cond_append : (b : Bool) (x : ℕ) (xs ys zs : List ℕ) → zs ≡ xs ++ ys → cond b (x ∷ zs) zs ≡ cond b (x ∷ xs) xs ++ ys
cond_append true x xs ys zs e = ap (λ r. x ∷ r) e
cond_append false x xs ys zs e = e

pub picked_append : {A : Type 0} (key : A → Option ℕ) (number : ℕ) (front back : List (ℕ × A))
    → picked key number (front ++ back) ≡ picked key number front ++ picked key number back
picked_append key number [] back = refl
picked_append key number (e ∷ es) back =
    cond_append (is_number number (key e.1)) e.0 (picked key number es) (picked key number back) (picked key number (es ++ back)) (picked_append key number es back)

misses_cond : (slot x : ℕ) (xs : List ℕ) (b : Bool) → slot ≢ x → Misses slot xs → Misses slot (cond b (x ∷ xs) xs)
misses_cond slot x xs true n m = (n, m)
misses_cond slot x xs false n m = m

pub picked_misses : {A : Type 0} (key : A → Option ℕ) (number slot : ℕ) (es : List (ℕ × A)) → Misses slot (slots_in es) → Misses slot (picked key number es)
picked_misses key number slot [] m = search rules
picked_misses key number slot (e ∷ es) m = misses_cond slot e.0 (picked key number es) (is_number number (key e.1)) m.0 (picked_misses key number slot es m.1)

within_cond : (n x : ℕ) (xs : List ℕ) (b : Bool) → x < n → Within n xs → Within n (cond b (x ∷ xs) xs)
within_cond n x xs true l w = (l, w)
within_cond n x xs false l w = w

pub picked_within : {A : Type 0} (key : A → Option ℕ) (number n : ℕ) (es : List (ℕ × A)) → Within n (slots_in es) → Within n (picked key number es)
picked_within key number n [] w = search rules
picked_within key number n (e ∷ es) w = within_cond n e.0 (picked key number es) (is_number number (key e.1)) w.0 (picked_within key number n es w.1)

-- the own number of a record, and another one

pub is_own : (n : ℕ) → is_number n (Some n) ≡ true
is_own n = grind (arith, nat_tests)

pub is_not_own : (n m : ℕ) → n ≢ m → is_number n (Some m) ≡ false
is_not_own n m h = grind (arith, nat_tests)

pub picked_own : {A : Type 0} (key : A → Option ℕ) (number slot : ℕ) (r : A) (front back : List (ℕ × A)) → key r ≡ Some number
    → picked key number (front ++ ((slot, r) ∷ back)) ≡ picked key number front ++ (slot ∷ picked key number back)
picked_own key number slot r front back e =
    picked_append key number front ((slot, r) ∷ back)
    ∙ ap (λ xs. picked key number front ++ xs) (ap (λ (b : Bool). cond b (slot ∷ picked key number back) (picked key number back)) (ap (λ o. is_number number o) e ∙ is_own number))

pub picked_skip : {A : Type 0} (key : A → Option ℕ) (number slot : ℕ) (r : A) (front back : List (ℕ × A)) → is_number number (key r) ≡ false
    → picked key number (front ++ ((slot, r) ∷ back)) ≡ picked key number (front ++ back)
picked_skip key number slot r front back e =
    picked_append key number front ((slot, r) ∷ back)
    ∙ (ap (λ xs. picked key number front ++ xs) (ap (λ (b : Bool). cond b (slot ∷ picked key number back) (picked key number back)) e)
    ∙ sym (picked_append key number front back))

-- a chain of all
pub picked_slots : {A : Type 0} (key : A → Option ℕ) (es : List (ℕ × A)) → ((r : A) → key r ≡ Some 0) → picked key 0 es ≡ slots_in es
picked_slots key [] f = refl
picked_slots key (e ∷ es) f = ap (λ o. cond (is_number 0 o) (e.0 ∷ picked key 0 es) (picked key 0 es)) (f e.1) ∙ ap (λ r. e.0 ∷ r) (picked_slots key es f)

pub first_place : {A : Type 0} (key : A → Option ℕ) (o : Option ℕ) → last_of (picked_of key o []) ≡ None
first_place key None = refl
first_place key (Some n) = refl

-- of the entries the other way round
pub picked_reverse : {A : Type 0} (key : A → Option ℕ) (number : ℕ) (es : List (ℕ × A)) → picked key number (reverse es) ≡ reverse (picked key number es)
picked_reverse key number [] = refl
picked_reverse key number (e ∷ es) =
    ap (picked key number) (reverse-append (e ∷ []) es) ∙ picked_append key number (reverse es) (e ∷ [])
    ∙ picked_end (is_number number (key e.1)) e.0 (picked key number es) (picked key number (reverse es)) (picked_reverse key number es)
  where
    picked_end : (b : Bool) (x : ℕ) (xs ys : List ℕ) → ys ≡ reverse xs → ys ++ cond b (x ∷ []) [] ≡ reverse (cond b (x ∷ xs) xs)
    picked_end true x xs ys e = ap (λ zs. zs ++ (x ∷ [])) e ∙ sym (reverse-append (x ∷ []) xs)
    picked_end false x xs ys e = append-nil ys ∙ e
