-- Entries in two parts, and one between them.
use Rattle.std.proofs.Common.{◌≡◌, ◌≢◌, ℕ, ◌<◌, ◌==◌, Bool, true, false, not, cond, List, [], ◌∷◌, ◌++◌, Some, refl, ap, ◌∙◌, subst, arith, rules}
use Rattle.std.proofs.lemmas.Bool.Decides.{nat_tests}
use Rattle.xf_types.specs.declared.policy.Policy.{Policy}
use Rattle.xf_chain.specs.Lists.{Misses, Apart, Within}
use Rattle.xf_chain.proofs.Slots.{misses_front, misses_back}
use Rattle.xf_index.specs.Indexes.{slots_in}
use Rattle.xf_index.specs.Finds.{found_in, Found}
use Rattle.xf_index.proofs.Entries.{slots_append, misses_taken}
use Rattle.xf_index.proofs.Finds.{found_splits}
use Rattle.xf_records.specs.Policies.{warned}
use Rattle.xf_image.specs.Entries.{IsEntry, slot_left, slot_warned}

-- the slot of the one between is none of the others', and a slot of the area

pub misses_both : (slot : ℕ) (r : Policy) (front back : List (ℕ × Policy)) → Apart (slots_in (front ++ ((slot, r) ∷ back)))
    → Misses slot (slots_in front) × Misses slot (slots_in back)
misses_both slot r front back a =
    let m : Misses slot (slots_in front ++ slots_in back) =
    subst (λ (xs : List ℕ). Misses slot xs) (slots_append front back) (misses_taken front back slot r a) in
    (misses_front slot (slots_in front) (slots_in back) m, misses_back slot (slots_in front) (slots_in back) m)

pub within_slot : (n slot : ℕ) (r : Policy) (front back : List (ℕ × Policy)) → Within n (slots_in (front ++ ((slot, r) ∷ back))) → slot < n
within_slot n slot r [] back w = w.0
within_slot n slot r (x ∷ front) back w = within_slot n slot r front back w.1

-- what is left without the one between

pub other_slot : (slot x : ℕ) → slot ≢ x → (x == slot) ≡ false
other_slot slot x n = grind (arith, nat_tests)

itself : (slot : ℕ) → (slot == slot) ≡ true
itself slot = grind (arith, nat_tests)

left_all : (slot : ℕ) (es : List (ℕ × Policy)) → Misses slot (slots_in es) → slot_left slot es ≡ es
left_all slot [] m = refl
left_all slot (e ∷ es) m =
    ap (λ (b : Bool). cond (not b) (e ∷ slot_left slot es) (slot_left slot es)) (other_slot slot e.0 m.0) ∙ ap (λ (r : List (ℕ × Policy)). e ∷ r) (left_all slot es m.1)

pub left_is : (slot : ℕ) (r : Policy) (front back : List (ℕ × Policy)) → Misses slot (slots_in front) → Misses slot (slots_in back)
    → slot_left slot (front ++ ((slot, r) ∷ back)) ≡ front ++ back
left_is slot r [] back m n = ap (λ (b : Bool). cond (not b) ((slot, r) ∷ slot_left slot back) (slot_left slot back)) (itself slot) ∙ left_all slot back n
left_is slot r (e ∷ front) back m n =
    ap (λ (b : Bool). cond (not b) (e ∷ slot_left slot (front ++ ((slot, r) ∷ back))) (slot_left slot (front ++ ((slot, r) ∷ back)))) (other_slot slot e.0 m.0)
    ∙ ap (λ (l : List (ℕ × Policy)). e ∷ l) (left_is slot r front back m.1 n)

gone_step : (slot : ℕ) (e : ℕ × Policy) (es : List (ℕ × Policy)) (b : Bool) → (e.0 == slot) ≡ b → Misses slot (slots_in es)
    → Misses slot (slots_in (cond (not b) (e ∷ es) es))
gone_step slot e es true h m = m
gone_step slot e es false h m = ((λ k. differ slot e.0 h k), m)
  where
    differ : (slot x : ℕ) → (x == slot) ≡ false → slot ≡ x → ⊥
    differ slot x h k = let n : (x == slot) ≡ true = grind (arith, nat_tests) in absurd (cc)

-- its slot is free then
pub left_misses : (slot : ℕ) (es : List (ℕ × Policy)) → Misses slot (slots_in (slot_left slot es))
left_misses slot [] = search rules
left_misses slot (e ∷ es) = gone_step slot e (slot_left slot es) (e.0 == slot) refl (left_misses slot es)

-- what there is with the one between warned of

warned_all : (slot : ℕ) (es : List (ℕ × Policy)) → Misses slot (slots_in es) → slot_warned slot es ≡ es
warned_all slot [] m = refl
warned_all slot (e ∷ es) m =
    ap (λ (b : Bool). cond b (e.0, warned e.1) e ∷ slot_warned slot es) (other_slot slot e.0 m.0) ∙ ap (λ (r : List (ℕ × Policy)). e ∷ r) (warned_all slot es m.1)

pub warned_is : (slot : ℕ) (r : Policy) (front back : List (ℕ × Policy)) → Misses slot (slots_in front) → Misses slot (slots_in back)
    → slot_warned slot (front ++ ((slot, r) ∷ back)) ≡ front ++ ((slot, warned r) ∷ back)
warned_is slot r [] back m n =
    ap (λ (b : Bool). cond b (slot, warned r) (slot, r) ∷ slot_warned slot back) (itself slot) ∙ ap (λ (l : List (ℕ × Policy)). (slot, warned r) ∷ l) (warned_all slot back n)
warned_is slot r (e ∷ front) back m n =
    ap (λ (b : Bool). cond b (e.0, warned e.1) e ∷ slot_warned slot (front ++ ((slot, r) ∷ back))) (other_slot slot e.0 m.0)
    ∙ ap (λ (l : List (ℕ × Policy)). e ∷ l) (warned_is slot r front back m.1 n)

-- an entry that was found is one
pub found_entry : (test : Policy → Bool) (slot : ℕ) (r : Policy) (es : List (ℕ × Policy)) → found_in test es ≡ Some (slot, r) → IsEntry es slot r
found_entry test slot r es e = let f : Found test slot r es = found_splits test es slot r e in record { front = f.front; behind = f.back; whole = f.whole }
