-- Entries, each a slot and the record in it: which one stands in a slot.
use Rattle.std.proofs.Common.{◌≡◌, ◌≢◌, ◌≤◌, ℕ, zero, suc, ◌<◌, Bool, true, false, List, [], ◌∷◌, length, get_or, refl, sym, ap, ◌∙◌, subst, arith, All, AllPairs, Contains, Option, Some, ◌⊎◌, inl, inr, eqb-true}
use Rattle.std.specs.Prelude.{◌==◌, ◌||◌}
use Rattle.std.proofs.lemmas.Bool.{eq-eqb, ne_eqb}
use Rattle.std.proofs.lemmas.List.Elements.{All-head, All-tail, All-contains}
use Rattle.xf_laws.proofs.ListLemmas.{AllPairs-head, AllPairs-tail}
use Rattle.xf_chain.specs.Lists.{Misses, Apart, Within}
use Rattle.xf_index.specs.Indexes.{slots_in, records_in, Holds}
use Rattle.xf_views.specs.TurnPart.{one_if}
use Rattle.xf_retired.specs.Pools.{count_below}

-- the record stands in the slot
abbrev pub IsEntry : {A : Type 0} → List (ℕ × A) → ℕ → A → Type 0
IsEntry [] slot r = ⊥
IsEntry (e ∷ es) slot r = ((e.0 ≡ slot) × (e.1 ≡ r)) ⊎ IsEntry es slot r

-- some record does, or none
pub find_entry : {A : Type 0} (es : List (ℕ × A)) (slot : ℕ) → Misses slot (slots_in es) ⊎ ((r : A) × IsEntry es slot r)
find_entry [] slot = inl tt
find_entry {A = A} (e ∷ es) slot = here (e.0 == slot) refl (find_entry es slot)
  where
    here : (b : Bool) → (e.0 == slot) ≡ b → Misses slot (slots_in es) ⊎ ((r : A) × IsEntry es slot r)
        → Misses slot (slots_in (e ∷ es)) ⊎ ((r : A) × IsEntry (e ∷ es) slot r)
    here true is rest = inr (e.1, inl (eqb-true e.0 slot is, refl))
    here false is (inl miss) = inl ((λ same. absurd (let t : (e.0 == slot) ≡ true = eq-eqb e.0 slot (sym same) in cc)), miss)
    here false is (inr found) = inr (found.0, inr found.1)

pub entry_all : {A : Type 0} (P : ℕ → Type 0) (es : List (ℕ × A)) (slot : ℕ) (r : A) → All P (slots_in es) → IsEntry es slot r → P slot
entry_all P [] slot r all h = absurd h
entry_all P (e ∷ es) slot r all (inl h) = subst P h.0 (All-head P e.0 (slots_in es) all)
entry_all P (e ∷ es) slot r all (inr h) = entry_all P es slot r (All-tail P e.0 (slots_in es) all) h

pub entry_within : {A : Type 0} (n : ℕ) (es : List (ℕ × A)) (slot : ℕ) (r : A) → Within n (slots_in es) → IsEntry es slot r → slot < n
entry_within n [] slot r w h = absurd h
entry_within n (e ∷ es) slot r w (inl h) = subst (λ (k : ℕ). k < n) h.0 w.0
entry_within n (e ∷ es) slot r w (inr h) = entry_within n es slot r w.1 h

-- what is read in the slot is the record
pub entry_read : {A : Type 0} (read : ℕ → Option A) (es : List (ℕ × A)) (slot : ℕ) (r : A) → Holds read (λ (x : A). Some x) es → IsEntry es slot r → read slot ≡ Some r
entry_read read [] slot r holds h = absurd h
entry_read {A = A} read (e ∷ es) slot r holds (inl h) = ap read (sym h.0) ∙ holds.0 ∙ ap (λ (x : A). Some x) h.1
entry_read read (e ∷ es) slot r holds (inr h) = entry_read read es slot r holds.1 h

-- each entry's record is in the list, and each record of the list is one's
pub entry_contains : {A : Type 0} (es : List (ℕ × A)) (slot : ℕ) (r : A) → IsEntry es slot r → Contains (records_in es) r
entry_contains [] slot r h = absurd h
entry_contains (e ∷ es) slot r (inl h) = (zero, omega arith, h.1)
entry_contains (e ∷ es) slot r (inr h) = let t = entry_contains es slot r h in (suc t.0, omega (arith, t.1), t.2)

pub contains_entry : {A : Type 0} (es : List (ℕ × A)) (r : A) → Contains (records_in es) r → (slot : ℕ) × IsEntry es slot r
contains_entry [] r h = absurd (let l : h.0 < 0 = h.1 in omega (arith, l))
contains_entry {A = A} (e ∷ es) r h = at (λ k l is. contains_entry es r (k, l, is)) h.0 h.1 h.2
  where
    at : ((k : ℕ) → k < length (records_in es) → get_or (records_in es) k r ≡ r → (slot : ℕ) × IsEntry es slot r)
        → (k : ℕ) → k < length (records_in (e ∷ es)) → get_or (records_in (e ∷ es)) k r ≡ r → (slot : ℕ) × IsEntry (e ∷ es) slot r
    at rest zero l is = (e.0, inl (refl, is))
    at rest (suc k) l is = let t = rest k (omega (arith, l)) is in (t.0, inr t.1)

-- where no two records have one key, two entries with one key stand in one slot
pub entry_once : {A : Type 0} (key : A → ℕ) (es : List (ℕ × A)) (j k : ℕ) (x y : A) → AllPairs (λ (a b : A). key a ≡ key b → ⊥) (records_in es)
    → IsEntry es j x → IsEntry es k y → key x ≡ key y → j ≡ k
entry_once key [] j k x y apart f g same = absurd f
entry_once key (e ∷ es) j k x y apart (inl f) (inl g) same = sym f.0 ∙ g.0
entry_once {A = A} key (e ∷ es) j k x y apart (inl f) (inr g) same =
    absurd (All-contains (λ (b : A). key e.1 ≡ key b → ⊥) (records_in es) y (AllPairs-head (λ (a b : A). key a ≡ key b → ⊥) e.1 (records_in es) apart) (entry_contains es k y g)
    (ap key f.1 ∙ same))
entry_once {A = A} key (e ∷ es) j k x y apart (inr f) (inl g) same =
    absurd (All-contains (λ (b : A). key e.1 ≡ key b → ⊥) (records_in es) x (AllPairs-head (λ (a b : A). key a ≡ key b → ⊥) e.1 (records_in es) apart) (entry_contains es j x f)
    (ap key g.1 ∙ sym same))
entry_once {A = A} key (e ∷ es) j k x y apart (inr f) (inr g) same =
    entry_once key es j k x y (AllPairs-tail (λ (a b : A). key a ≡ key b → ⊥) e.1 (records_in es) apart) f g same

-- ---- how many slots a test tells

count_none : (n : ℕ) → count_below (λ k. false) n ≡ 0
count_none zero = refl
count_none (suc n) = let t = count_none n in omega (arith, t)

pub count_alike : (n : ℕ) (f g : ℕ → Bool) → ((k : ℕ) → k < n → f k ≡ g k) → count_below f n ≡ count_below g n
count_alike zero f g same = refl
count_alike (suc n) f g same =
    let t : count_below f n ≡ count_below g n = count_alike n f g (λ k h. same k (omega (arith, h))) in
    let u : one_if (f n) ≡ one_if (g n) = ap one_if (same n (omega arith)) in
    omega (arith, t, u)

-- a test with one number more
abbrev with_one : ℕ → (ℕ → Bool) → ℕ → Bool
with_one x g k = (x == k) || g k

count_before : (n x : ℕ) (g : ℕ → Bool) → n ≤ x → count_below (with_one x g) n ≡ count_below g n
count_before n x g h = count_alike n (with_one x g) g (λ k l. ap (λ b. b || g k) (ne_eqb x k (λ e. omega (arith, e, h, l))))

count_more : (n x : ℕ) (g : ℕ → Bool) → x < n → g x ≡ false → count_below (with_one x g) n ≡ suc (count_below g n)
count_more zero x g h none = omega (arith, h)
count_more (suc n) x g h none = at (λ l. count_more n x g l none) (x == n) refl
  where
    at : (x < n → count_below (with_one x g) n ≡ suc (count_below g n)) → (b : Bool) → (x == n) ≡ b → count_below (with_one x g) (suc n) ≡ suc (count_below g (suc n))
    at rest true is =
        let e : x ≡ n = eqb-true x n is in
        let t : count_below (with_one x g) n ≡ count_below g n = count_before n x g (omega (arith, e)) in
        let u : one_if (with_one x g n) ≡ 1 = ap (λ b. one_if (b || g n)) is in
        let v : one_if (g n) ≡ 0 = ap one_if (ap g (sym e) ∙ none) in
        omega (arith, t, u, v)
    at rest false is =
        let ne : x ≢ n = (λ e. absurd (let t : (x == n) ≡ true = eq-eqb x n e in cc)) in
        let t : count_below (with_one x g) n ≡ suc (count_below g n) = rest (omega (arith, h, ne)) in
        let u : one_if (with_one x g n) ≡ one_if (g n) = ap (λ b. one_if (b || g n)) is in
        omega (arith, t, u)

-- the slot is one of these
abbrev pub is_one_of : List ℕ → ℕ → Bool
is_one_of [] k = false
is_one_of (x ∷ xs) k = (x == k) || is_one_of xs k

misses_one : (x : ℕ) (xs : List ℕ) → Misses x xs → is_one_of xs x ≡ false
misses_one x [] m = refl
misses_one x (y ∷ ys) m = ap (λ b. b || is_one_of ys x) (ne_eqb y x (λ e. m.0 (sym e))) ∙ misses_one x ys m.1

count_slots : (n : ℕ) (xs : List ℕ) → Apart xs → Within n xs → count_below (is_one_of xs) n ≡ length xs
count_slots n [] a w = count_none n
count_slots n (x ∷ xs) a w = count_more n x (is_one_of xs) w.0 (misses_one x xs a.0) ∙ ap suc (count_slots n xs a.1 w.1)

pub all_one : (test : ℕ → Bool) (xs : List ℕ) (k : ℕ) → All (λ x. test x ≡ true) xs → is_one_of xs k ≡ true → test k ≡ true
all_one test [] k all is = absurd cc
all_one test (x ∷ xs) k all is = at (all_one test xs k (All-tail (λ y. test y ≡ true) x xs all)) (x == k) refl
  where
    at : (is_one_of xs k ≡ true → test k ≡ true) → (b : Bool) → (x == k) ≡ b → test k ≡ true
    at rest true e = ap test (sym (eqb-true x k e)) ∙ All-head (λ y. test y ≡ true) x xs all
    at rest false e = rest (ap (λ b. b || is_one_of xs k) (sym e) ∙ is)

pub none_one : (xs : List ℕ) (k : ℕ) → is_one_of xs k ≡ false → Misses k xs
none_one [] k is = tt
none_one (x ∷ xs) k is = at (none_one xs k) (x == k) refl
  where
    at : (is_one_of xs k ≡ false → Misses k xs) → (b : Bool) → (x == k) ≡ b → Misses k (x ∷ xs)
    at rest true e = absurd (let t : is_one_of (x ∷ xs) k ≡ true = ap (λ b. b || is_one_of xs k) e in cc)
    at rest false e = (
      (λ same. absurd (let t : (x == k) ≡ true = eq-eqb x k (sym same) in cc)),
      rest (ap (λ b. b || is_one_of xs k) (sym e) ∙ is),
    )

-- a test that tells just these slots tells as many
pub count_marked : (n : ℕ) (test : ℕ → Bool) (xs : List ℕ) → Apart xs → Within n xs → All (λ x. test x ≡ true) xs
    → ((k : ℕ) → k < n → Misses k xs → test k ≡ false) → count_below test n ≡ length xs
count_marked n test xs a w all others = count_alike n test (is_one_of xs) (λ k h. at k h (is_one_of xs k) refl) ∙ count_slots n xs a w
  where
    at : (k : ℕ) → k < n → (b : Bool) → is_one_of xs k ≡ b → test k ≡ is_one_of xs k
    at k h true is = all_one test xs k all is ∙ sym is
    at k h false is = others k h (none_one xs k is) ∙ sym is
