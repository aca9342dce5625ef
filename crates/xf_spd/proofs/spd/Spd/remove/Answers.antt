use Rattle.std.proofs.Common.{◌≡◌, ℕ, List, Option, None, Some, sym, ◌∙◌, subst}
use Rattle.xf_types.specs.declared.policy.Policy.{Policy}
use Rattle.xf_types.specs.Machine.{Shown}
use Rattle.xf_index.specs.Indexes.{records_in}
use Rattle.xf_image.specs.Entries.{IsEntry, slot_left, with_policies}
use Rattle.xf_inexact.specs.Whole.{SpdStands}
use Rattle.xf_image.specs.Readings.{listed_in}
use Rattle.xf_listing.specs.declared.entry.Entry.{Entry}
use Rattle.xf_image.specs.declared.area.PolicyArea.{PolicyArea}
use Rattle.xf_image.specs.Layout.{record_at}
use Rattle.xf_listing.specs.Calls.{found_with}
use Rattle.xf_spd.specs.Slots.{PoolFits}
use Rattle.xf_spd.proofs.Removed.{found_there}
use Rattle.xf_spd.proofs.spd.Spd.remove.Given as given
use Rattle.xf_spd.proofs.spd.Spd.remove.Goals as goal

some_is : (x y : Entry) (o : Option Entry) → o ≡ Some x → o ≡ Some y → x ≡ y
some_is x y o e h = let k : Some x ≡ Some y = sym e ∙ h in cc

none_not : (o : Option Entry) (x : Entry) → o ≡ None → o ≡ Some x → ⊥
none_not o x e h = let k : None ≡ Some x = sym e ∙ h in absurd (cc)

-- the entry is the one that stands in the slot
entry_is : (g : given.Over) (c : goal.After-remove_entry g) (s : Shown) (es : List (ℕ × Policy)) (p : Policy) → IsEntry es c.args.slot p
    → SpdStands c.args.self.now.area (g.C.Cells.words c.args.c.now) s es → record { slot = c.args.slot; policy = p } ≡ c.in-Some.entry
entry_is g c s es p is stands =
    some_is _ _ c.found_here.result (c.found_here.ensures.answer ∙ found_there c.args.self.now.area (g.C.Cells.words c.args.c.now) s es c.args.slot p is stands) c.in-Some.is

still : (g : given.Over) (c : goal.After-remove_entry g) (s : Shown) (es : List (ℕ × Policy)) → SpdStands c.args.self.now.area (g.C.Cells.words c.args.c.now) s es
    → SpdStands c.args.self.now.area (g.C.Cells.words c.found_here.new.c) s es
still g c s es stands = subst (λ (i : List ℕ). SpdStands c.args.self.now.area i s es) (sym c.found_here.ensures.words) stands

pub returns-in-Some-clause-returned : goal.returns-in-Some-clause-returned
returns-in-Some-clause-returned g c = λ s es p is stands.
    subst (λ (f : Entry). g.P.Pool.returned c.remove_entry.new.pool f.slot) (sym (entry_is g c s es p is stands)) c.remove_entry.ensures.returned

pub returns-in-Some-clause-stands : goal.returns-in-Some-clause-stands
returns-in-Some-clause-stands g c = λ s es p is stands.
    let e = entry_is g c s es p is stands in
    subst (λ (f : Entry). SpdStands c.args.self.now.area (g.C.Cells.words c.remove_entry.new.c) (with_policies s (records_in (slot_left f.slot es))) (slot_left f.slot es)) (sym e)
    (c.remove_entry.ensures.removes s es (subst (λ (f : Entry). IsEntry es f.slot f.policy) e is) (still g c s es stands))

pub returns-in-Some-clause-pool : goal.returns-in-Some-clause-pool
returns-in-Some-clause-pool g c = λ s es p lasts is stands fits.
    let a = c.args.self.now.area in
    c.remove_entry.ensures.pool s es lasts (subst (λ (f : Entry). IsEntry es f.slot f.policy) (entry_is g c s es p is stands) is) (still g c s es stands)
    (subst (λ (i : List ℕ). PoolFits (g.P.Pool.capacity c.args.pool.now) (g.P.Pool.taken c.args.pool.now) (g.P.Pool.gives c.args.pool.now) (g.P.Pool.takes c.args.pool.now) a.slots (listed_in a i)) (sym c.found_here.ensures.words) fits)

-- there is one
missing : (a : PolicyArea) (image : List ℕ) (s : Shown) (es : List (ℕ × Policy)) (slot : ℕ) (p : Policy) (o : Option Entry) → o ≡ found_with slot (record_at a image slot) → o ≡ None
    → IsEntry es slot p → SpdStands a image s es → ⊥
missing a image s es slot p o e n is stands = none_not o (record { slot = slot; policy = p }) n (e ∙ found_there a image s es slot p is stands)

pub returns-in_default-clause-begun : goal.returns-in_default-clause-begun
returns-in_default-clause-begun g c = λ s es p is stands.
    absurd (missing c.args.self.now.area (g.C.Cells.words c.args.c.now) s es c.args.slot p c.found_here.result c.found_here.ensures.answer c.in_default.is is stands)

pub returns-in_default-clause-returned : goal.returns-in_default-clause-returned
returns-in_default-clause-returned g c = λ s es p is stands.
    absurd (missing c.args.self.now.area (g.C.Cells.words c.args.c.now) s es c.args.slot p c.found_here.result c.found_here.ensures.answer c.in_default.is is stands)

pub returns-in_default-clause-stands : goal.returns-in_default-clause-stands
returns-in_default-clause-stands g c = λ s es p is stands.
    absurd (missing c.args.self.now.area (g.C.Cells.words c.args.c.now) s es c.args.slot p c.found_here.result c.found_here.ensures.answer c.in_default.is is stands)
