-- Which slots were given.
use Rattle.std.proofs.Common.{◌≡◌, ◌≢◌, ◌<◌, ℕ, ◌*◌, ◌/◌, ◌^◌, ◌%◌, Bool, true, false, ◌==◌, ◌&&◌, None, List, [], ◌∷◌, ◌++◌, refl, sym, ap, ◌∙◌, arith, inl, inr, w64, nat_eq}
use Rattle.std.specs.Int.{bit_at}
use Rattle.std.specs.Int.Bits.{bit_and, bit_or}
use Rattle.std.proofs.lemmas.Bool.{ne_eqb}
use Rattle.std.proofs.lemmas.Bool.Decides.{eqb_tells, nat_tests}
use Rattle.std.proofs.lemmas.Nat.{and_mask}
use Rattle.std.proofs.lemmas.Nat.Bits.{bit_at_set_same, bit_at_set_other}
use Rattle.xf_grammar.specs.declared.row.Field.{Field}
use Rattle.xf_grammar.specs.declared.row.Slot.{Slot}
use Rattle.xf_grammar.specs.Given.{AreMarked}
use Rattle.xf_grammar.specs.Lookups.{slot_number, is_in, value_in_group}

and_false : (b : Bool) → (b && false) ≡ false
and_false true = refl
and_false false = refl

-- a bit that was set stays
set_stays : (slots number m : ℕ) → number < 64 → bit_at slots m ≡ 1 → bit_at (bit_or slots (1 * 2 ^ number % 2 ^ 64)) m ≡ 1
set_stays slots number m few one =
    elim (eqb_tells m number) as (λ _. bit_at (bit_or slots (1 * 2 ^ number % 2 ^ 64)) m ≡ 1) [
      | inl here ↦ ap (bit_at (bit_or slots (1 * 2 ^ number % 2 ^ 64))) here.1 ∙ bit_at_set_same w64 slots number few
      | inr other ↦ bit_at_set_other w64 slots number few m other.1 ∙ one
    ]

-- with one field more its slot's bit is set
pub marked_more : (slots number : ℕ) (fs : List Field) (f : Field) → number ≡ slot_number f.slot → number < 64 → AreMarked slots fs
    → AreMarked (bit_or slots (1 * 2 ^ number % 2 ^ 64)) (fs ++ f ∷ [])
marked_more slots number [] f is few marks =
    (ap (bit_at (bit_or slots (1 * 2 ^ number % 2 ^ 64))) (sym is) ∙ bit_at_set_same w64 slots number few, tt)
marked_more slots number (g ∷ gs) f is few marks =
    (set_stays slots number (slot_number g.slot) few marks.0, marked_more slots number gs f is few marks.1)

-- a test finds the bit clear
pub clear_bit : (slots number m : ℕ) → number ≡ m → nat_eq (bit_and (slots / 2 ^ number) 1) 0 ≡ true → bit_at slots m ≡ 0
clear_bit slots number m is clear =
    let none : bit_and (slots / 2 ^ number) 1 ≡ 0 = grind (arith, nat_tests, clear) in
    ap (bit_at slots) (sym is) ∙ sym (and_mask (slots / 2 ^ number) 1) ∙ none

-- the field isn't of the slot
other_slot : (group slots : ℕ) (slot : Slot) (f : Field) → bit_at slots (slot_number f.slot) ≡ 1 → bit_at slots (slot_number slot) ≡ 0
    → is_in group slot f ≡ false
other_slot group slots slot f one none =
    let differ : slot_number f.slot ≢ slot_number slot = λ e. absurd (omega (arith, one, none, ap (bit_at slots) e)) in
    rw (ne_eqb (slot_number f.slot) (slot_number slot) differ) (and_false (f.group == group))

-- a slot without its bit was given in no group
pub unmarked_is_none : (group slots : ℕ) (slot : Slot) (fs : List Field) → AreMarked slots fs → bit_at slots (slot_number slot) ≡ 0
    → value_in_group group slot fs ≡ None
unmarked_is_none group slots slot [] marks clear = refl
unmarked_is_none group slots slot (f ∷ fs) marks clear =
    rw (other_slot group slots slot f marks.0 clear) (unmarked_is_none group slots slot fs marks.1 clear)
