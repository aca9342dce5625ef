-- Which words a change leaves, and that the policies' words stand while only words before theirs change.
use Rattle.std.proofs.Common.{◌≡◌, ℕ, ◌≤◌, List, refl, sym, ◌∙◌, subst, arith}
use Rattle.xf_types.specs.declared.policy.Policy.{Policy}
use Rattle.xf_types.specs.Machine.{Shown}
use Rattle.xf_image.specs.declared.area.PolicyArea.{PolicyArea}
use Rattle.xf_image.specs.Frames.{Frame}
use Rattle.xf_image.specs.Layout.{end_of}
use Rattle.xf_image.specs.Readings.{listed_in}
use Rattle.xf_image.proofs.Keeping.{stands_kept}
use Rattle.xf_image.proofs.Listed.{listed_is}
use Rattle.xf_image.proofs.Written.{wider}
use Rattle.xf_inexact.specs.Whole.{SpdStands, WholeFits, trees_of, whole_end}
use Rattle.xf_inexact.proofs.Staying.{part_stays}
use Rattle.xf_listing.proofs.Wholes.{list_fits}
use Rattle.xf_policies.specs.Standing.{LeavesOthers}

pub others_none : (hidden first last : ℕ) (image words : List ℕ) → words ≡ image → LeavesOthers hidden first last image words
others_none hidden first last image words e =
    subst (λ (i : List ℕ). LeavesOthers hidden first last image i) (sym e) (record { size = refl; between = λ q h l. refl; above = λ q l. refl })

-- what changes between the two places
pub others_of : (hidden first last : ℕ) (image words : List ℕ) → Frame first last image words → LeavesOthers hidden first last image words
others_of hidden first last image words f = record { size = f.size; between = λ q h l. f.below q l; above = f.above }

-- what changes in the hidden words
pub others_hidden : (hidden first last : ℕ) (image words : List ℕ) → hidden ≤ first → first ≤ last → Frame 0 hidden image words → LeavesOthers hidden first last image words
others_hidden hidden first last image words h m f = record { size = f.size; between = λ q k l. f.above q k; above = λ q l. f.above q (omega (arith, h, m, l)) }

-- one after the other
pub others_twice : (hidden first last : ℕ) (image mid words : List ℕ) → LeavesOthers hidden first last image mid → LeavesOthers hidden first last mid words
    → LeavesOthers hidden first last image words
others_twice hidden first last image mid words one two = record {
  size = two.size ∙ one.size;
  between = λ q h l. two.between q h l ∙ one.between q h l;
  above = λ q l. two.above q l ∙ one.above q l;
}

-- after loads that left the words
pub others_as : (hidden own first last : ℕ) (image mid words : List ℕ) → own ≡ hidden → mid ≡ image → LeavesOthers own first last mid words
    → LeavesOthers hidden first last image words
others_as hidden own first last image mid words e w o =
    subst (λ (i : List ℕ). LeavesOthers hidden first last i words) w (subst (λ (n : ℕ). LeavesOthers n first last mid words) e o)

pub below_all : (a : PolicyArea) → a.base ≤ whole_end a
below_all a = omega arith

-- what changes in the list's words alone
pub list_alone : (a : PolicyArea) (image words : List ℕ) → Frame a.base (end_of a) image words → Frame a.base (whole_end a) image words
list_alone a image words f = wider a.base (whole_end a) a.base (end_of a) image words f (omega arith) (omega arith)

-- where only hidden words change the policies stand
pub stands_beside : (a : PolicyArea) (image words : List ℕ) (n hidden : ℕ) (s : Shown) (es : List (ℕ × Policy)) → WholeFits a n → hidden ≤ a.base → Frame 0 hidden image words
    → SpdStands a image s es → SpdStands a words s es
stands_beside a image words n hidden s es fits h f st = record {
  list = stands_kept a image words n s es (list_fits a n fits) (λ q k l. f.above q (omega (arith, h, k))) st.list;
  part = part_stays (trees_of a) image words n s.hthresh4 s.hthresh6 es fits (λ q k l. let j : end_of a ≤ q = k in f.above q (omega (arith, h, j))) st.part;
}

-- two lists of words for the same entries list the same slots
pub listed_same : (a : PolicyArea) (image words : List ℕ) (s t : Shown) (es : List (ℕ × Policy)) → SpdStands a image s es → SpdStands a words t es → listed_in a image ≡ listed_in a words
listed_same a image words s t es old new = listed_is a image s es old.list ∙ sym (listed_is a words t es new.list)
