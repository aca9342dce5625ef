-- A slot that stands in a chain is one of those that are listed.
use Rattle.std.proofs.Common.{◌≡◌, ℕ, suc, ◌==◌, Bool, true, false, ◌||◌, cond, List, [], ◌∷◌, Option, Some, reverse, refl, ap, sym, ◌∙◌, arith}
use Rattle.std.proofs.lemmas.Bool.Decides.{nat_tests}
use Rattle.std.specs.List.{list_any, All, AllPairs}
use Rattle.xf_types.specs.declared.state.Sa.{Sa}
use Rattle.xf_types.specs.StateList.{has_sid}
use Rattle.xf_chain.specs.Chains.{slots_of}
use Rattle.xf_index.specs.Indexes.{slots_in, records_in, is_number, picked, Holds}
use Rattle.xf_index.specs.Finds.{found_in, slot_found}
use Rattle.xf_index.proofs.Entries.{slots_reverse}
use Rattle.xf_doubling.specs.Heads.{head_number}
use Rattle.xf_sadidx.specs.declared.area.StateArea.{StateArea}
use Rattle.xf_sadidx.specs.declared.kind.Kind.{Kind}
use Rattle.xf_sadidx.specs.Layout.{doubling_in}
use Rattle.xf_sadidx.specs.Standing.{head_by, StatesIndexed}
use Rattle.xf_sadidx.specs.Founds.{hash_chain}
use Rattle.xf_sadidx.proofs.FoundLaws.{hash_walk}
use Rattle.xf_sadidx.proofs.Reverses.{any_reverse}

-- the slot is one of these
abbrev pub is_among : ℕ → List ℕ → Bool
is_among slot slots = list_any (λ other. other == slot) slots

or_more : (a b c : Bool) → (b ≡ true → c ≡ true) → (a || b) ≡ true → (a || c) ≡ true
or_more true b c f e = refl
or_more false b c f e = f e

or_later : (a c : Bool) → c ≡ true → (a || c) ≡ true
or_later true c e = refl
or_later false c e = e

among_picked : (key : Sa → Option ℕ) (number slot : ℕ) (es : List (ℕ × Sa)) → is_among slot (picked key number es) ≡ true → is_among slot (slots_in es) ≡ true
among_picked key number slot [] e = e
among_picked key number slot (x ∷ es) e = step (is_number number (key x.1)) (λ k. among_picked key number slot es k) e
  where
    step : (b : Bool) → (is_among slot (picked key number es) ≡ true → is_among slot (slots_in es) ≡ true)
        → is_among slot (cond b (x.0 ∷ picked key number es) (picked key number es)) ≡ true → ((x.0 == slot) || is_among slot (slots_in es)) ≡ true
    step true more k = or_more (x.0 == slot) (is_among slot (picked key number es)) (is_among slot (slots_in es)) more k
    step false more k = or_later (x.0 == slot) (is_among slot (slots_in es)) (more k)

pub among_chained : (a : StateArea) (image : List ℕ) (kind : Kind) (hash slot : ℕ) (es : List (ℕ × Sa)) → StatesIndexed a image es
    → is_among slot (slots_of (hash_chain a image kind hash) image) ≡ true → is_among slot (slots_in es) ≡ true
among_chained a image kind hash slot es st e =
    let half : ℕ = (doubling_in a image).half in
    let moved : ℕ = (doubling_in a image).moved in
    let turned : is_among slot (slots_in (reverse es)) ≡ is_among slot (slots_in es) =
    ap (is_among slot) (slots_reverse es) ∙ any_reverse (λ other. other == slot) (slots_in es) in
    sym turned
    ∙ among_picked (head_by half moved kind) (head_number half moved hash) slot (reverse es)
    (ap (is_among slot) (sym (hash_walk a image kind hash es st)) ∙ e)

-- ---- no two states share a state id

-- what is read in a slot that is listed is a state id of the list
none_other : (read : ℕ → ℕ) (slot : ℕ) (es : List (ℕ × Sa)) → Holds read (λ s. s.sid) es → is_among slot (slots_in es) ≡ true
    → All (λ s. read slot ≡ s.sid → ⊥) (records_in es) → ⊥
none_other read slot [] h e all = absurd (cc)
none_other read slot (x ∷ es) h e all = step (x.0 == slot) refl (λ k. none_other read slot es h.1 k (λ j d l. all (suc j) d (omega (arith, l)))) e
  where
    step : (b : Bool) → (x.0 == slot) ≡ b → (is_among slot (slots_in es) ≡ true → ⊥) → (b || is_among slot (slots_in es)) ≡ true → ⊥
    step true s more k =
        let same : x.0 ≡ slot = grind (arith, nat_tests) in
        all 0 x.1 (omega arith) (ap read (sym same) ∙ h.0)
    step false s more k = more k

pub known : (read : ℕ → ℕ) (sid slot : ℕ) (es : List (ℕ × Sa)) → Holds read (λ s. s.sid) es → read slot ≡ sid → is_among slot (slots_in es) ≡ true
    → AllPairs (λ x y. x.sid ≡ y.sid → ⊥) (records_in es) → slot_found (found_in (has_sid sid) es) ≡ Some slot
known read sid slot [] h r e pairs = absurd (cc)
known read sid slot (x ∷ es) h r e pairs =
    step (x.0 == slot) refl (λ k. known read sid slot es h.1 r k (λ i j d l m. pairs (suc i) (suc j) d (omega (arith, l)) (omega (arith, m)))) e
  where
    here : (b : Bool) → (x.1.sid == sid) ≡ b → x.1.sid ≡ sid → b ≡ true
    here b q s = grind (arith, nat_tests)

    there : (b : Bool) → (x.1.sid == sid) ≡ b → is_among slot (slots_in es) ≡ true → b ≡ false
    there false q k = refl
    there true q k =
        let s : x.1.sid ≡ sid = grind (arith, nat_tests) in
        absurd (none_other read slot es h.1 k (λ j d l same. pairs 0 (suc j) d (omega arith) (omega (arith, l)) (s ∙ sym r ∙ same)))

    step : (b : Bool) → (x.0 == slot) ≡ b → (is_among slot (slots_in es) ≡ true → slot_found (found_in (has_sid sid) es) ≡ Some slot)
        → (b || is_among slot (slots_in es)) ≡ true → slot_found (cond (has_sid sid x.1) (Some x) (found_in (has_sid sid) es)) ≡ Some slot
    step true q more k =
        let same : x.0 ≡ slot = grind (arith, nat_tests) in
        ap (λ (b : Bool). slot_found (cond b (Some x) (found_in (has_sid sid) es))) (here (x.1.sid == sid) refl (sym h.0 ∙ ap read same ∙ r))
        ∙ ap (λ n. Some n) same
    step false q more k =
        ap (λ (b : Bool). slot_found (cond b (Some x) (found_in (has_sid sid) es))) (there (x.1.sid == sid) refl k) ∙ more k

pub same_number : (m n : ℕ) → (m == n) ≡ true → m ≡ n
same_number m n e = grind (arith, nat_tests)
