use Rattle.std.proofs.Common.{◌≡◌, ℕ, List, true, Option, None, Some, ap, sym, ◌∙◌, subst}
use Rattle.std.specs.Prelude.{is_some}
use Rattle.xf_index.specs.Indexes.{records_in}
use Rattle.xf_image.specs.Entries.{IsEntry, slot_warned, with_policies}
use Rattle.xf_inexact.specs.Whole.{SpdStands}
use Rattle.xf_spd.proofs.Found.{index_slot}
use Rattle.xf_spd.proofs.spd.Spd.set_soft.Goals as goal

same_slot : (x y : ℕ) (o : Option ℕ) → o ≡ Some x → o ≡ Some y → x ≡ y
same_slot x y o e h = let k : Some x ≡ Some y = sym e ∙ h in cc

none_taken : (o : Option ℕ) → o ≡ None → is_some o ≡ true → ⊥
none_taken None e h = absurd (cc)
none_taken (Some x) e h = absurd (cc)

pub returns-in-Some-clause-stands : goal.returns-in-Some-clause-stands
returns-in-Some-clause-stands g c = λ s es slot p is own sound stands.
    let a = c.args.self.now.area in
    let e : slot ≡ c.in-Some.slot =
    same_slot _ _ c.slot_here.result (c.slot_here.ensures.answer ∙ index_slot a (g.C.Cells.words c.args.c.now) s es c.args.index slot p is own sound stands) c.in-Some.is in
    subst (λ (n : ℕ). SpdStands a (g.C.Cells.words c.set_soft_in.new.c) (with_policies s (records_in (slot_warned n es))) (slot_warned n es)) (sym e)
    (c.set_soft_in.ensures.warns s es p (subst (λ (n : ℕ). IsEntry es n p) e is) (subst (λ (i : List ℕ). SpdStands a i s es) (sym c.slot_here.ensures.words) stands))

pub returns-in_default-clause-begun : goal.returns-in_default-clause-begun
returns-in_default-clause-begun g c = absurd (none_taken c.slot_here.result c.in_default.is (ap (λ (o : Option ℕ). is_some o) c.slot_here.ensures.answer ∙ c.requires.listed))

pub returns-in_default-clause-stands : goal.returns-in_default-clause-stands
returns-in_default-clause-stands g c = λ s es slot p is own sound stands.
    absurd (none_taken c.slot_here.result c.in_default.is (ap (λ (o : Option ℕ). is_some o) c.slot_here.ensures.answer ∙ c.requires.listed))
