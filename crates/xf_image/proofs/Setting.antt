-- Other thresholds: the words after stand for the same list under them.
use Rattle.std.proofs.Common.{◌≡◌, ℕ, ◌+◌, ◌-◌, ◌*◌, ◌<◌, ◌≤◌, List, [], ◌++◌, Some, length, reverse, refl, ap, sym, ◌∙◌, subst, arith, nat_lt, slice_index, slice_set, length-set, get_or-set_other, get_or-set_same, append-nil}
use Rattle.std.proofs.lemmas.List.{reverse-reverse}
use Rattle.xf_types.specs.declared.policy.Policy.{Policy}
use Rattle.xf_types.specs.Facts.{IsThresholds}
use Rattle.xf_types.specs.Machine.{Shown}
use Rattle.xf_chain.specs.Families.{chain_at, emptied}
use Rattle.xf_chain.specs.Lists.{Apart, Within}
use Rattle.xf_index.specs.Indexes.{slots_in, Indexed}
use Rattle.xf_index.proofs.Alls.{all_walk, all_within}
use Rattle.xf_index.proofs.Rebuilds.{indexed_empty}
use Rattle.xf_image.specs.declared.area.PolicyArea.{PolicyArea}
use Rattle.xf_image.specs.Layout.{Fits, end_of, back_of, exact_of, next_index_place, next_number_place, thresholds_place, count_place}
use Rattle.xf_image.specs.ExactKeys.{exact_key}
use Rattle.xf_image.specs.Policies.{everyone, LinksStand, ColumnsStand, CountersStand, PoliciesStand}
use Rattle.xf_image.specs.Entries.{with_thresholds}
use Rattle.xf_image.specs.Writes.{thresholds_put, cleared, moved_all, from_last, set_words}
use Rattle.xf_image.specs.Frames.{Frame}
use Rattle.xf_image.proofs.Layouts.{exact_lays}
use Rattle.xf_image.proofs.Written.{both, outside, wider, one_word, emptied_frame}
use Rattle.xf_image.proofs.Bounds.{walk_within}
use Rattle.xf_image.proofs.Keeping.{entries_apart, entries_within, counters_kept}
use Rattle.xf_image.proofs.Moving.{Half, half_rest, all_moved, moved_all_frame}

-- the header

put_frame4 : (a : PolicyArea) (i : List ℕ) (h4 h6 : ℕ × ℕ) → Frame (thresholds_place a) (thresholds_place a + 4) i (thresholds_put a i h4 h6)
put_frame4 a i h4 h6 =
    let first : ℕ = thresholds_place a in
    let last : ℕ = thresholds_place a + 4 in
    let i1 : List ℕ = slice_set i first (32 - h4.0) in
    let i2 : List ℕ = slice_set i1 (first + 1) (32 - h4.1) in
    let i3 : List ℕ = slice_set i2 (first + 2) (128 - h6.0) in
    let i4 : List ℕ = slice_set i3 (first + 3) (128 - h6.1) in
    let w2 : Frame first last i i2 =
    both first last _ _ _ _ i i1 i2 (one_word i first (32 - h4.0)) (one_word i1 (first + 1) (32 - h4.1)) (omega arith) (omega arith) (omega arith) (omega arith) in
    let w3 : Frame first last i i3 =
    both first last _ _ _ _ i i2 i3 w2 (one_word i2 (first + 2) (128 - h6.0)) (omega arith) (omega arith) (omega arith) (omega arith) in
    both first last _ _ _ _ i i3 i4 w3 (one_word i3 (first + 3) (128 - h6.1)) (omega arith) (omega arith) (omega arith) (omega arith)

counters_put : (a : PolicyArea) (i : List ℕ) (n : ℕ) (s : Shown) (h4 h6 : ℕ × ℕ) → Fits a n → length i ≡ n → IsThresholds (Some h4) (Some h6)
    → CountersStand a i s → CountersStand a (thresholds_put a i h4 h6) (with_thresholds s h4 h6)
counters_put a i n s h4 h6 fits e t c =
    let words = fits.words in
    let first : ℕ = thresholds_place a in
    let i1 : List ℕ = slice_set i first (32 - h4.0) in
    let i2 : List ℕ = slice_set i1 (first + 1) (32 - h4.1) in
    let i3 : List ℕ = slice_set i2 (first + 2) (128 - h6.0) in
    let i4 : List ℕ = slice_set i3 (first + 3) (128 - h6.1) in
    let n1 : length i1 ≡ length i = length-set i first (32 - h4.0) in
    let n2 : length i2 ≡ length i1 = length-set i1 (first + 1) (32 - h4.1) in
    let n3 : length i3 ≡ length i2 = length-set i2 (first + 2) (128 - h6.0) in
    let f : Frame first (first + 4) i i4 = put_frame4 a i h4 h6 in
    let l4 : h4.0 ≤ 32 = t.local4 h4 refl in
    let r4 : h4.1 ≤ 32 = t.remote4 h4 refl in
    let l6 : h6.0 ≤ 128 = t.local6 h6 refl in
    let r6 : h6.1 ≤ 128 = t.remote6 h6 refl in
    let k0 : slice_index i4 first ≡ 32 - h4.0 =
    get_or-set_other i3 (first + 3) first (128 - h6.1) 0 (λ k. omega (arith, k)) ∙ (get_or-set_other i2 (first + 2) first (128 - h6.0) 0 (λ k. omega (arith, k))
    ∙ (get_or-set_other i1 (first + 1) first (32 - h4.1) 0 (λ k. omega (arith, k)) ∙ get_or-set_same i first (32 - h4.0) 0 (omega (arith, e, words)))) in
    let k1 : slice_index i4 (first + 1) ≡ 32 - h4.1 =
    get_or-set_other i3 (first + 3) (first + 1) (128 - h6.1) 0 (λ k. omega (arith, k)) ∙ (get_or-set_other i2 (first + 2) (first + 1) (128 - h6.0) 0 (λ k. omega (arith, k))
    ∙ get_or-set_same i1 (first + 1) (32 - h4.1) 0 (omega (arith, e, n1, words))) in
    let k2 : slice_index i4 (first + 2) ≡ 128 - h6.0 =
    get_or-set_other i3 (first + 3) (first + 2) (128 - h6.1) 0 (λ k. omega (arith, k)) ∙ get_or-set_same i2 (first + 2) (128 - h6.0) 0 (omega (arith, e, n1, n2, words)) in
    let k3 : slice_index i4 (first + 3) ≡ 128 - h6.1 = get_or-set_same i3 (first + 3) (128 - h6.1) 0 (omega (arith, e, n1, n2, n3, words)) in
    record {
      next_index = ap (λ k. k + 1) (f.below (next_index_place a) (omega arith)) ∙ c.next_index;
      next_number = ap (λ k. k + 1) (f.below (next_number_place a) (omega arith)) ∙ c.next_number;
      local4 = omega (arith, k0, l4);
      remote4 = omega (arith, k1, r4);
      local6 = omega (arith, k2, l6);
      remote6 = omega (arith, k3, r6);
      count = f.above (count_place a) (omega arith) ∙ c.count;
    }

-- empty chains

-- the words between the header's thresholds and the chains by index are written alone, and no link of the chains of all
cleared_same : (a : PolicyArea) (i : List ℕ) (h4 h6 : ℕ × ℕ) (q : ℕ) → a.base + 7 ≤ q
    → (a.base + 9 + 2 * a.slots ≤ q → a.base + 1033 + 3 * a.slots ≤ q)
    → slice_index (cleared a i h4 h6) q ≡ slice_index i q
cleared_same a i h4 h6 q low o =
    let i1 : List ℕ = thresholds_put a i h4 h6 in
    let i2 : List ℕ = emptied (a.base + 9 + 2 * a.slots) 1024 i1 in
    let f : Frame (a.base + 9 + 2 * a.slots) (a.base + 1033 + 3 * a.slots) i1 i2 =
    wider (a.base + 9 + 2 * a.slots) (a.base + 1033 + 3 * a.slots) _ _ i1 i2 (emptied_frame (a.base + 9 + 2 * a.slots) 1024 i1) (omega arith) (omega arith) in
    outside (a.base + 9 + 2 * a.slots) (a.base + 1033 + 3 * a.slots) i1 i2 q (nat_lt q (a.base + 9 + 2 * a.slots)) refl f o
    ∙ (put_frame4 a i h4 h6).above q (omega (arith, low))

cleared_frame : (a : PolicyArea) (i : List ℕ) (h4 h6 : ℕ × ℕ) → Frame a.base (end_of a) i (cleared a i h4 h6)
cleared_frame a i h4 h6 =
    let i1 : List ℕ = thresholds_put a i h4 h6 in
    let i2 : List ℕ = emptied (a.base + 9 + 2 * a.slots) 1024 i1 in
    both a.base (end_of a) _ _ _ _ i i1 i2 (put_frame4 a i h4 h6) (emptied_frame (a.base + 9 + 2 * a.slots) 1024 i1)
    (omega arith) (omega arith) (omega arith) (omega arith)

cleared_half : (a : PolicyArea) (i : List ℕ) (n : ℕ) (was4 was6 h4 h6 : ℕ × ℕ) (es : List (ℕ × Policy)) → Fits a n → length i ≡ n
    → LinksStand a i was4 was6 es → ColumnsStand a i es → Half a (cleared a i h4 h6) h4 h6 [] es
cleared_half a i n was4 was6 h4 h6 es fits e links columns =
    let i1 : List ℕ = thresholds_put a i h4 h6 in
    let i2 : List ℕ = emptied (a.base + 9 + 2 * a.slots) 1024 i1 in
    let n1 : length i1 ≡ n = (put_frame4 a i h4 h6).size ∙ e in
    let f2 : Frame (a.base + 9 + 2 * a.slots) (a.base + 9 + 2 * a.slots + 1024) i1 i2 = emptied_frame (a.base + 9 + 2 * a.slots) 1024 i1 in
    let exact : Indexed (exact_of a) i2 (exact_key h4 h6) [] =
    indexed_empty (exact_of a) i1 (exact_key h4 h6) (exact_lays a (length i1) (subst (λ (k : ℕ). Fits a k) (sym n1) fits)) in
    let start : Half a i was4 was6 es es = record {
      order = links.order;
      back = links.back;
      exact = links.exact;
      indices = links.indices;
      columns = columns;
      size = n;
      long = e;
      fits = fits;
    } in
    half_rest a i i2 was4 was6 h4 h6 es [] es (f2.size ∙ (n1 ∙ sym e)) (entries_within a i was4 was6 es links) (λ q l o. cleared_same a i h4 h6 q l o) start exact

-- the chain from the last one back is walked in the words with empty chains
walked : (a : PolicyArea) (image : List ℕ) (h4 h6 : ℕ × ℕ) (done es : List (ℕ × Policy)) → Half a image h4 h6 done es
    → from_last a image ≡ slots_in (reverse es)
walked a image h4 h6 done es h = all_walk (back_of a) image everyone (reverse es) (λ p. refl) (omega arith) h.back

-- only words of the area are written
pub set_frame : (a : PolicyArea) (image : List ℕ) (n : ℕ) (h4 h6 : ℕ × ℕ) → Fits a n → Frame a.base (end_of a) image (set_words a image h4 h6)
set_frame a image n h4 h6 fits =
    both a.base (end_of a) _ _ _ _ image (cleared a image h4 h6) (set_words a image h4 h6) (cleared_frame a image h4 h6)
    (moved_all_frame a h4 h6 (cleared a image h4 h6) n (from_last a (cleared a image h4 h6)) fits (walk_within (chain_at (back_of a) 0) (cleared a image h4 h6)))
    (omega arith) (omega arith) (omega arith) (omega arith)

pub stands_set : (a : PolicyArea) (image : List ℕ) (n : ℕ) (s : Shown) (entries : List (ℕ × Policy)) (h4 h6 : ℕ × ℕ)
    → Fits a n → length image ≡ n → IsThresholds (Some h4) (Some h6)
    → PoliciesStand a image s entries
    → PoliciesStand a (set_words a image h4 h6) (with_thresholds s h4 h6) entries
stands_set a image n s entries h4 h6 fits e t st =
    let base : List ℕ = cleared a image h4 h6 in
    let apart : Apart (slots_in entries) = entries_apart a image s.hthresh4 s.hthresh6 entries st.links in
    let within : Within a.slots (slots_in entries) = entries_within a image s.hthresh4 s.hthresh6 entries st.links in
    let h0 : Half a base h4 h6 [] entries = cleared_half a image n s.hthresh4 s.hthresh6 h4 h6 entries fits e st.links st.columns in
    let slots : from_last a base ≡ slots_in (reverse entries) = walked a base h4 h6 [] entries h0 in
    let turned : entries ≡ reverse (reverse entries) ++ [] = sym (append-nil (reverse (reverse entries)) ∙ reverse-reverse entries) in
    let words : List ℕ = moved_all a h4 h6 base (slots_in (reverse entries)) in
    let h : Half a words h4 h6 entries entries = all_moved a h4 h6 base (reverse entries) [] entries turned within apart h0 in
    let back_within : Within a.slots (slots_in (reverse entries)) =
    all_within (back_of a) base everyone (reverse entries) (λ p. refl) (omega arith) h0.back in
    let f : Frame (a.base + 9 + 2 * a.slots) (a.base + 1033 + 3 * a.slots) base words =
    moved_all_frame a h4 h6 base n (slots_in (reverse entries)) fits back_within in
    let i1 : List ℕ = thresholds_put a image h4 h6 in
    let low : (q : ℕ) → q < a.base + 7 → slice_index words q ≡ slice_index i1 q =
    λ q m. f.below q (omega (arith, m)) ∙ (emptied_frame (a.base + 9 + 2 * a.slots) 1024 i1).below q (omega (arith, m)) in
    let k : CountersStand a i1 (with_thresholds s h4 h6) = counters_put a image n s h4 h6 fits e t st.counters in
    let new : PoliciesStand a words (with_thresholds s h4 h6) entries = record {
      listed = st.listed;
      links = record { order = h.order; back = h.back; exact = h.exact; indices = h.indices };
      columns = h.columns;
      counters = counters_kept a i1 words (with_thresholds s h4 h6) (λ q l m. low q m) k;
      room = st.room;
    } in
    subst (λ (xs : List ℕ). PoliciesStand a (moved_all a h4 h6 base xs) (with_thresholds s h4 h6) entries) (sym slots) new
