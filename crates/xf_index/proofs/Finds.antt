-- The first entry that passes a test, found in a chain of an index.
use Rattle.std.proofs.Common.{◌≡◌, ℕ, ◌<◌, Bool, true, false, List, [], ◌∷◌, Option, None, Some, refl, ap, ◌∙◌, subst, rules, cond, ◌&&◌}
use Rattle.std.specs.List.{find}
use Rattle.xf_chain.specs.Chains.{slots_of}
use Rattle.xf_chain.specs.declared.family.Family.{Family}
use Rattle.xf_chain.specs.Families.{chain_at}
use Rattle.xf_index.specs.Indexes.{slots_in, records_in, is_number, picked, Indexed, Holds, AllAre}
use Rattle.xf_index.specs.Finds.{found_in, slot_found, record_found, Found}
use Rattle.xf_index.proofs.Picks.{is_own}
use Rattle.xf_index.proofs.Walked.{walk_picked}

-- its record is the first of the records that passes
pub found_record : {A : Type 0} (test : A → Bool) (es : List (ℕ × A)) → record_found (found_in test es) ≡ find test (records_in es)
found_record test [] = refl
found_record test (e ∷ es) = step (test e.1) (found_record test es)
  where
    step : (b : Bool) → record_found (found_in test es) ≡ find test (records_in es) → record_found (cond b (Some e) (found_in test es)) ≡ cond b (Some e.1) (find test (records_in es))
    step true k = refl
    step false k = k

step_slot : {A : Type 0} (at : ℕ → Bool) (c d : Bool) (e : ℕ × A) (xs : List ℕ) (rest : Option (ℕ × A)) → at e.0 ≡ d
    → find at xs ≡ slot_found rest → find at (cond c (e.0 ∷ xs) xs) ≡ slot_found (cond (c && d) (Some e) rest)
step_slot at true true e xs rest h k = ap (λ (b : Bool). cond b (Some e.0) (find at xs)) h
step_slot at true false e xs rest h k = ap (λ (b : Bool). cond b (Some e.0) (find at xs)) h ∙ k
step_slot at false d e xs rest h k = k

-- along a chain, the first slot that passes is that of the first entry that stands there and passes
pub found_picked : {A : Type 0} (key : A → Option ℕ) (number : ℕ) (at : ℕ → Bool) (test : A → Bool) (es : List (ℕ × A)) → Holds at test es
    → find at (picked key number es) ≡ slot_found (found_in (λ r. is_number number (key r) && test r) es)
found_picked key number at test [] h = refl
found_picked key number at test (e ∷ es) h =
    step_slot at (is_number number (key e.1)) (test e.1) e (picked key number es) (found_in (λ r. is_number number (key r) && test r) es) h.0
    (found_picked key number at test es h.1)

-- along all
pub found_slot : {A : Type 0} (at : ℕ → Bool) (test : A → Bool) (es : List (ℕ × A)) → Holds at test es → find at (slots_in es) ≡ slot_found (found_in test es)
found_slot at test [] h = refl
found_slot at test (e ∷ es) h = step_slot at true (test e.1) e (slots_in es) (found_in test es) h.0 (found_slot at test es h.1)

-- where what passes stands in the chain, nothing is lost
pub found_own : {A : Type 0} (key : A → Option ℕ) (number : ℕ) (test : A → Bool) (es : List (ℕ × A)) → ((r : A) → test r ≡ true → key r ≡ Some number)
    → found_in (λ r. is_number number (key r) && test r) es ≡ found_in test es
found_own key number test [] f = refl
found_own key number test (e ∷ es) f =
    ap (λ (b : Bool). cond b (Some e) (found_in (λ r. is_number number (key r) && test r) es)) (own (test e.1) refl)
    ∙ ap (λ o. cond (test e.1) (Some e) o) (found_own key number test es f)
  where
    own : (b : Bool) → test e.1 ≡ b → (is_number number (key e.1) && b) ≡ b
    own true h = ap (λ o. is_number number o && true) (f e.1 h) ∙ ap (λ b. b && true) (is_own number)
    own false h = none (is_number number (key e.1))
      where
        none : (b : Bool) → (b && false) ≡ false
        none true = refl
        none false = refl

-- the same of the words: a walk along the chain with a number
pub found_walked : {A : Type 0} (family : Family) (image : List ℕ) (key : A → Option ℕ) (number : ℕ) (at : ℕ → Bool) (test : A → Bool) (es : List (ℕ × A))
    → number < family.count → Holds at test es → Indexed family image key es
    → find at (slots_of (chain_at family number) image) ≡ slot_found (found_in (λ r. is_number number (key r) && test r) es)
found_walked family image key number at test es n h is =
    ap (find at) (walk_picked family image key number es n is) ∙ found_picked key number at test es h

pub found_own_walked : {A : Type 0} (family : Family) (image : List ℕ) (key : A → Option ℕ) (number : ℕ) (at : ℕ → Bool) (test : A → Bool) (es : List (ℕ × A))
    → number < family.count → Holds at test es → ((r : A) → test r ≡ true → key r ≡ Some number) → Indexed family image key es
    → find at (slots_of (chain_at family number) image) ≡ slot_found (found_in test es)
found_own_walked family image key number at test es n h own is =
    found_walked family image key number at test es n h is ∙ ap slot_found (found_own key number test es own)

-- what was found stands between those that fail before it and the others
pub found_splits : {A : Type 0} (test : A → Bool) (es : List (ℕ × A)) (slot : ℕ) (r : A) → found_in test es ≡ Some (slot, r) → Found test slot r es
found_splits test [] slot r e = absurd (cc)
found_splits {A = A} test (x ∷ es) slot r e = step (test x.1) refl (λ k. found_splits test es slot r k) e
  where
    step : (b : Bool) → test x.1 ≡ b → (found_in test es ≡ Some (slot, r) → Found test slot r es) → cond b (Some x) (found_in test es) ≡ Some (slot, r) → Found test slot r (x ∷ es)
    step true h more k =
        let same : x ≡ (slot, r) = cc in
        subst (λ (y : ℕ × A). Found test y.0 y.1 (x ∷ es)) same (record { front = []; back = es; whole = refl; passes = h; before = search rules })
    step false h more k =
        let f : Found test slot r es = more k in
        record { front = x ∷ f.front; back = f.back; whole = ap (λ ys. x ∷ ys) f.whole; passes = f.passes; before = (h, f.before) }

-- where none was found all fail
pub found_none : {A : Type 0} (test : A → Bool) (es : List (ℕ × A)) → found_in test es ≡ None → AllAre test false es
found_none test [] e = search rules
found_none test (x ∷ es) e = step (test x.1) refl (λ k. found_none test es k) e
  where
    step : (b : Bool) → test x.1 ≡ b → (found_in test es ≡ None → AllAre test false es) → cond b (Some x) (found_in test es) ≡ None → AllAre test false (x ∷ es)
    step true h more k = absurd (cc)
    step false h more k = (h, more k)
