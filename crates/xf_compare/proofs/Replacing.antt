-- A state without a sequence number takes no other one's place, and where the words lie.
use Rattle.std.proofs.Common.{arith, ◌≡◌, ℕ, ◌+◌, ◌≤◌, List, Option, None, refl, sym, subst}
use Rattle.xf_types.specs.declared.state.SaSpec.{SaSpec}
use Rattle.xf_sadidx.specs.declared.area.StateArea.{StateArea}
use Rattle.xf_sadidx.specs.Layout.{IsArea, Fits, end_of}
use Rattle.xf_sad.specs.Lookups.{replaced_in}
use Rattle.xf_sad.specs.Slots.{Where}

none_replaced : (a : StateArea) (image : List ℕ) (spec : SaSpec) → spec.seq ≡ 0 → replaced_in a image spec ≡ None
unfolding replaced_in
none_replaced a image spec e = rw e refl

pub none_back : (takes : ℕ → Type 0) (a : StateArea) (image : List ℕ) (spec : SaSpec) → spec.seq ≡ 0 → Where takes (replaced_in a image spec)
none_back takes a image spec e = subst (λ (o : Option ℕ). Where takes o) (sym (none_replaced a image spec e)) tt

pub words_fit : (a : StateArea) (size words : ℕ) → IsArea a → a.base + words ≡ end_of a → size ≡ words → a.base ≡ 0 → Fits a size
words_fit a size words area all same first =
    let most : a.slots ≤ 8192 = area.most in
    record { area = area; words = omega (arith, all, same, first); fits = omega (arith, all, same, first, most) }
