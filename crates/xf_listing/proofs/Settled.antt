-- The thresholds that the words tell while they are set.
use Rattle.std.proofs.Common.{◌≡◌, ◌≢◌, ℕ, ◌+◌, ◌-◌, ◌*◌, ◌<◌, ◌≤◌, List, Option, Some, length, length-set, unwrap_or, ap, sym, ◌∙◌, subst, arith, slice_index, slice_set, get_or-set_same, get_or-set_other}
use Rattle.xf_chain.proofs.Emptied.{emptied_below}
use Rattle.xf_image.specs.declared.area.PolicyArea.{PolicyArea}
use Rattle.xf_image.specs.Layout.{Fits, thresholds_place, exact_of}
use Rattle.xf_types.specs.declared.policy.Policy.{Policy}
use Rattle.xf_types.specs.declared.policy.Thresholds.{Thresholds}
use Rattle.xf_types.specs.Machine.{Shown}
use Rattle.xf_image.specs.Entries.{with_thresholds}
use Rattle.xf_image.specs.Policies.{PoliciesStand}
use Rattle.xf_image.proofs.Setting.{stands_set}
use Rattle.xf_inexact.specs.Whole.{SpdStands}
use Rattle.xf_listing.proofs.Reading.{hthresh4_is, hthresh6_is}
use Rattle.xf_image.specs.Readings.{hthresh4_in, hthresh6_in}
use Rattle.xf_image.specs.Writes.{lens_put, thresholds_put, cleared, moved, set_words}
use Rattle.xf_image.specs.Frames.{Frame}
use Rattle.xf_image.proofs.Moving.{moved_frame}
use Rattle.xf_chain.specs.declared.family.Family.{Family}
use Rattle.xf_chain.specs.Families.{emptied}

pair : (a b : ℕ) (t : ℕ × ℕ) → a ≡ t.0 → b ≡ t.1 → ◌≡◌ {A = ℕ × ℕ} (a, b) t
pair a b t p q = λ i. (p i, q i)

-- two lengths that were noted
first_put : (image : List ℕ) (local remote whole : ℕ) (lens : ℕ × ℕ) → local ≢ remote → local < length image → slice_index (lens_put image local remote whole lens) local ≡ whole - lens.0
first_put image local remote whole lens n h =
    get_or-set_other (slice_set image local (whole - lens.0)) remote local (whole - lens.1) 0 n ∙ get_or-set_same image local (whole - lens.0) 0 h

second_put : (image : List ℕ) (local remote whole : ℕ) (lens : ℕ × ℕ) → remote < length image → slice_index (lens_put image local remote whole lens) remote ≡ whole - lens.1
second_put image local remote whole lens h =
    let l : length (slice_set image local (whole - lens.0)) ≡ length image = length-set image local (whole - lens.0) in
    get_or-set_same (slice_set image local (whole - lens.0)) remote (whole - lens.1) 0 (omega (arith, l, h))

other_put : (image : List ℕ) (local remote whole q : ℕ) (lens : ℕ × ℕ) → q ≢ local → q ≢ remote → slice_index (lens_put image local remote whole lens) q ≡ slice_index image q
other_put image local remote whole q lens n m =
    get_or-set_other (slice_set image local (whole - lens.0)) remote q (whole - lens.1) 0 m ∙ get_or-set_other image local q (whole - lens.0) 0 n

put_length : (image : List ℕ) (local remote whole : ℕ) (lens : ℕ × ℕ) → length (lens_put image local remote whole lens) ≡ length image
put_length image local remote whole lens = length-set (slice_set image local (whole - lens.0)) remote (whole - lens.1) ∙ length-set image local (whole - lens.0)

-- the header of the words with empty chains
header : (a : PolicyArea) (image : List ℕ) (h4 h6 : ℕ × ℕ) (q : ℕ) → q < a.base + 7 → slice_index (cleared a image h4 h6) q ≡ slice_index (thresholds_put a image h4 h6) q
header a image h4 h6 q h =
    emptied_below (a.base + 9 + 2 * a.slots) 1024 (thresholds_put a image h4 h6) q (omega (arith, h))

pub cleared_tells4 : (a : PolicyArea) (image : List ℕ) (n : ℕ) (h4 h6 : ℕ × ℕ) → Fits a n → length image ≡ n → h4.0 ≤ 32 → h4.1 ≤ 32 → hthresh4_in a (cleared a image h4 h6) ≡ h4
cleared_tells4 a image n h4 h6 fits e l r =
    let words = fits.words in
    let at : ℕ = thresholds_place a in
    let i1 : List ℕ = lens_put image at (at + 1) 32 h4 in
    let w0 : slice_index (cleared a image h4 h6) at ≡ 32 - h4.0 =
    header a image h4 h6 at (omega arith) ∙ (other_put i1 (at + 2) (at + 3) 128 at h6 (λ k. omega (arith, k)) (λ k. omega (arith, k)) ∙ first_put image at (at + 1) 32 h4 (λ k. omega (arith, k)) (omega (arith, words, e))) in
    let w1 : slice_index (cleared a image h4 h6) (at + 1) ≡ 32 - h4.1 =
    header a image h4 h6 (at + 1) (omega arith) ∙ (other_put i1 (at + 2) (at + 3) 128 (at + 1) h6 (λ k. omega (arith, k)) (λ k. omega (arith, k)) ∙ second_put image at (at + 1) 32 h4 (omega (arith, words, e))) in
    pair _ _ h4 (omega (arith, w0, l)) (omega (arith, w1, r))

pub cleared_tells6 : (a : PolicyArea) (image : List ℕ) (n : ℕ) (h4 h6 : ℕ × ℕ) → Fits a n → length image ≡ n → h6.0 ≤ 128 → h6.1 ≤ 128 → hthresh6_in a (cleared a image h4 h6) ≡ h6
cleared_tells6 a image n h4 h6 fits e l r =
    let words = fits.words in
    let at : ℕ = thresholds_place a in
    let i1 : List ℕ = lens_put image at (at + 1) 32 h4 in
    let n1 : length i1 ≡ length image = put_length image at (at + 1) 32 h4 in
    let w0 : slice_index (cleared a image h4 h6) (at + 2) ≡ 128 - h6.0 =
    header a image h4 h6 (at + 2) (omega arith) ∙ first_put i1 (at + 2) (at + 3) 128 h6 (λ k. omega (arith, k)) (omega (arith, words, e, n1)) in
    let w1 : slice_index (cleared a image h4 h6) (at + 3) ≡ 128 - h6.1 =
    header a image h4 h6 (at + 3) (omega arith) ∙ second_put i1 (at + 2) (at + 3) 128 h6 (omega (arith, words, e, n1)) in
    pair _ _ h6 (omega (arith, w0, l)) (omega (arith, w1, r))

-- a policy that is moved leaves the header
pub moved_tells4 : (a : PolicyArea) (h4 h6 : ℕ × ℕ) (image : List ℕ) (n slot : ℕ) → Fits a n → slot < a.slots → hthresh4_in a (moved a h4 h6 image slot) ≡ hthresh4_in a image
moved_tells4 a h4 h6 image n slot fits below =
    let f : Frame (a.base + 9 + 2 * a.slots) (a.base + 1033 + 3 * a.slots) image (moved a h4 h6 image slot) = moved_frame a h4 h6 image n slot fits below in
    pair _ _ (hthresh4_in a image) (ap (λ (w : ℕ). 32 - w) (f.below (thresholds_place a) (omega arith))) (ap (λ (w : ℕ). 32 - w) (f.below (thresholds_place a + 1) (omega arith)))

pub moved_tells6 : (a : PolicyArea) (h4 h6 : ℕ × ℕ) (image : List ℕ) (n slot : ℕ) → Fits a n → slot < a.slots → hthresh6_in a (moved a h4 h6 image slot) ≡ hthresh6_in a image
moved_tells6 a h4 h6 image n slot fits below =
    let f : Frame (a.base + 9 + 2 * a.slots) (a.base + 1033 + 3 * a.slots) image (moved a h4 h6 image slot) = moved_frame a h4 h6 image n slot fits below in
    pair _ _ (hthresh6_in a image) (ap (λ (w : ℕ). 128 - w) (f.below (thresholds_place a + 2) (omega arith))) (ap (λ (w : ℕ). 128 - w) (f.below (thresholds_place a + 3) (omega arith)))

-- the chains were emptied
pub cleared_is : (a : PolicyArea) (part : Family) (image i j : List ℕ) (h4 h6 : ℕ × ℕ) → part ≡ exact_of a
    → i ≡ thresholds_put a image h4 h6 → j ≡ emptied part.heads part.count i → j ≡ cleared a image h4 h6
cleared_is a part image i j h4 h6 ep ei ej =
    ej ∙ (ap (λ (f : Family). emptied f.heads f.count i) ep ∙ ap (λ (w : List ℕ). emptied (exact_of a).heads (exact_of a).count w) ei)

pub same_lens : (x y : ℕ × ℕ) → ◌≡◌ {A = Option (ℕ × ℕ)} (Some x) (Some y) → x ≡ y
same_lens x y e = ap (λ (o : Option (ℕ × ℕ)). unwrap_or o x) e

-- the list's words that were set
pub exact_set : (a : PolicyArea) (image words : List ℕ) (n : ℕ) (s : Shown) (es : List (ℕ × Policy)) (h4 h6 : ℕ × ℕ) → Fits a n → length image ≡ n
    → h4.0 ≤ 32 → h4.1 ≤ 32 → h6.0 ≤ 128 → h6.1 ≤ 128 → words ≡ set_words a image h4 h6
    → PoliciesStand a image s es → PoliciesStand a words (with_thresholds s h4 h6) es
exact_set a image words n s es h4 h6 fits e l4 r4 l6 r6 we g =
    subst (λ (i : List ℕ). PoliciesStand a i (with_thresholds s h4 h6) es) (sym we)
    (stands_set a image n s es h4 h6 fits e (record {
      local4 = λ x e. subst (λ (y : ℕ × ℕ). y.0 ≤ 32) (same_lens h4 x e) l4;
      remote4 = λ x e. subst (λ (y : ℕ × ℕ). y.1 ≤ 32) (same_lens h4 x e) r4;
      local6 = λ x e. subst (λ (y : ℕ × ℕ). y.0 ≤ 128) (same_lens h6 x e) l6;
      remote6 = λ x e. subst (λ (y : ℕ × ℕ). y.1 ≤ 128) (same_lens h6 x e) r6;
    }) g)

-- and these are the thresholds that were given
pub given_stands : (a : PolicyArea) (image words : List ℕ) (s : Shown) (es : List (ℕ × Policy)) (t : Thresholds) (h4 h6 : ℕ × ℕ)
    → h4 ≡ unwrap_or t.v4 (hthresh4_in a image) → h6 ≡ unwrap_or t.v6 (hthresh6_in a image)
    → PoliciesStand a image s es → SpdStands a words (with_thresholds s h4 h6) es
    → SpdStands a words (with_thresholds s (unwrap_or t.v4 s.hthresh4) (unwrap_or t.v6 s.hthresh6)) es
given_stands a image words s es t h4 h6 e4 e6 g st =
    let k4 : h4 ≡ unwrap_or t.v4 s.hthresh4 = e4 ∙ ap (λ (x : ℕ × ℕ). unwrap_or t.v4 x) (hthresh4_is a image s es g) in
    let k6 : h6 ≡ unwrap_or t.v6 s.hthresh6 = e6 ∙ ap (λ (x : ℕ × ℕ). unwrap_or t.v6 x) (hthresh6_is a image s es g) in
    subst (λ (x : ℕ × ℕ). SpdStands a words (with_thresholds s (unwrap_or t.v4 s.hthresh4) x) es) k6
    (subst (λ (x : ℕ × ℕ). SpdStands a words (with_thresholds s x h6) es) k4 st)
