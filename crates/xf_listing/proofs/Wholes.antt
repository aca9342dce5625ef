-- Where the words of the list and those of the trees lie.
use Rattle.std.proofs.Common.{◌≡◌, ℕ, ◌^◌, ◌<◌, ◌≤◌, Bool, true, false, cond, List, Option, None, Some, refl, arith}
use Rattle.std.specs.Option.{is_none}
use Rattle.xf_types.specs.declared.policy.Policy.{Policy}
use Rattle.xf_types.specs.Machine.{Shown}
use Rattle.xf_image.specs.declared.area.PolicyArea.{PolicyArea}
use Rattle.xf_image.specs.ExactKeys.{exact_key, exact_number, lens_of}
use Rattle.xf_image.specs.Frames.{Frame}
use Rattle.xf_image.specs.Layout.{Fits, IsArea, end_of}
use Rattle.xf_image.specs.Policies.{PoliciesStand}
use Rattle.xf_image.proofs.Keeping.{stands_kept}
use Rattle.xf_image.proofs.Written.{both}
use Rattle.xf_exact.specs.Parts.{is_in_exact}
use Rattle.xf_inexact.specs.Holds.{HoldPart}
use Rattle.xf_inexact.specs.Whole.{WholeFits, trees_of, whole_end}
use Rattle.xf_inexact.proofs.Apart.{policies_fit}
use Rattle.xf_inexact.proofs.Staying.{part_stays}

-- both lie in so many words
pub whole_fits : (a : PolicyArea) (size : ℕ) → IsArea a → whole_end a ≤ size → size < 2 ^ 32 → WholeFits a size
whole_fits a size area words fits =
    let most = area.most in
    let base = area.base in
    record { places = record { area = area; after = omega arith; base = omega (arith, most, base) }; words = words; fits = fits }

pub list_fits : (a : PolicyArea) (size : ℕ) → WholeFits a size → Fits a size
list_fits a size fits = policies_fit (trees_of a) size fits

-- what is written in the list's words leaves the trees
pub list_written : (a : PolicyArea) (image words : List ℕ) (n : ℕ) (h4 h6 : ℕ × ℕ) (es : List (ℕ × Policy)) → WholeFits a n
    → Frame a.base (end_of a) image words → HoldPart (trees_of a) image h4 h6 es → HoldPart (trees_of a) words h4 h6 es
list_written a image words n h4 h6 es fits f part = part_stays (trees_of a) image words n h4 h6 es fits (λ q l h. f.above q l) part

-- and what is written in the trees' words leaves the list
pub trees_written : (a : PolicyArea) (image words : List ℕ) (n : ℕ) (s : Shown) (es : List (ℕ × Policy)) → WholeFits a n
    → Frame (end_of a) (whole_end a) image words → PoliciesStand a image s es → PoliciesStand a words s es
trees_written a image words n s es fits f stands = stands_kept a image words n s es (list_fits a n fits) (λ q l h. f.below q h) stands

-- one after the other
pub whole_written : (a : PolicyArea) (image mid words : List ℕ) → Frame a.base (end_of a) image mid → Frame (end_of a) (whole_end a) mid words
    → Frame a.base (whole_end a) image words
whole_written a image mid words one two =
    both a.base (whole_end a) _ _ _ _ image mid words one two (omega arith) (omega arith) (omega arith) (omega arith)

-- two changes of the trees
pub trees_twice : (a : PolicyArea) (image mid words : List ℕ) → Frame (end_of a) (whole_end a) image mid → Frame (end_of a) (whole_end a) mid words
    → Frame (end_of a) (whole_end a) image words
trees_twice a image mid words one two =
    both (end_of a) (whole_end a) _ _ _ _ image mid words one two (omega arith) (omega arith) (omega arith) (omega arith)

-- a policy has no chain of the exact part where it stands at a node, and has one where it doesn't

none_by : (b : Bool) (n : ℕ) (o : Option ℕ) → is_none o ≡ true → cond b (Some n) None ≡ o → b ≡ false
none_by true n None e h = absurd (cc)
none_by true n (Some k) e h = absurd (cc)
none_by false n o e h = refl

some_by : (b : Bool) (n : ℕ) (o : Option ℕ) → is_none o ≡ false → cond b (Some n) None ≡ o → b ≡ true
some_by true n o e h = refl
some_by false n None e h = absurd (cc)
some_by false n (Some k) e h = absurd (cc)

pub at_node : (h4 h6 : ℕ × ℕ) (p : Policy) (bucket : Option ℕ) → is_none bucket ≡ true → exact_key h4 h6 p ≡ bucket → is_in_exact h4 h6 p ≡ false
at_node h4 h6 p bucket e h =
    none_by (is_in_exact h4 h6 p) (exact_number (lens_of h4 h6 p.spec.sel.src.addr) p.spec.ptype p.spec.dir p.spec.if_id p.spec.sel.dst.addr p.spec.sel.src.addr) bucket e h

pub at_key : (h4 h6 : ℕ × ℕ) (p : Policy) (bucket : Option ℕ) → is_none bucket ≡ false → exact_key h4 h6 p ≡ bucket → is_in_exact h4 h6 p ≡ true
at_key h4 h6 p bucket e h =
    some_by (is_in_exact h4 h6 p) (exact_number (lens_of h4 h6 p.spec.sel.src.addr) p.spec.ptype p.spec.dir p.spec.if_id p.spec.sel.dst.addr p.spec.sel.src.addr) bucket e h
