-- A policy left: the words after it stand for the list without it.
use Rattle.std.proofs.Common.{◌≡◌, ℕ, ◌+◌, ◌*◌, List, ◌∷◌, ◌++◌, length, refl, ap, sym, ◌∙◌, subst, arith}
use Rattle.xf_types.specs.declared.policy.Policy.{Policy}
use Rattle.xf_types.specs.Machine.{Shown}
use Rattle.xf_chain.specs.Lists.{Apart, Within}
use Rattle.xf_index.proofs.Entries.{within_taken}
use Rattle.xf_index.specs.Indexes.{slots_in, records_in}
use Rattle.xf_image.specs.declared.area.PolicyArea.{PolicyArea}
use Rattle.xf_image.specs.declared.places.Places.{Places}
use Rattle.xf_image.specs.Layout.{Fits, end_of, count_place}
use Rattle.xf_image.specs.Policies.{LinksStand, ColumnsStand, CountersStand, PoliciesStand}
use Rattle.xf_image.specs.Entries.{IsEntry, slot_left, with_policies}
use Rattle.xf_image.specs.Placing.{ArePlaces, places_of}
use Rattle.xf_image.specs.Writes.{discounted, cut_out, removed_words}
use Rattle.xf_image.specs.Frames.{Frame}
use Rattle.xf_image.proofs.Written.{both}
use Rattle.xf_image.proofs.Keeping.{entries_apart, entries_within, links_kept, columns_kept, counters_kept}
use Rattle.xf_image.proofs.Linking.{PlacesAre}
use Rattle.xf_image.proofs.Cutting.{cut_links, cut_frame}
use Rattle.xf_image.proofs.Columns.{columns_left}
use Rattle.xf_image.proofs.Counting.{discounted_frame, counters_discounted}
use Rattle.xf_image.proofs.Adding.{one_more}
use Rattle.xf_image.proofs.Placed.{places_of_is}
use Rattle.xf_image.proofs.Bounds.{places_of_are}
use Rattle.xf_image.proofs.Parts.{misses_both, left_is}

pub removed_frame : (a : PolicyArea) (image : List ℕ) (n : ℕ) (p : Places) (slot : ℕ) → Fits a n → ArePlaces a p
    → Frame a.base (end_of a) image (removed_words a image p slot)
removed_frame a image n p slot fits places =
    both a.base (end_of a) _ _ _ _ image (discounted a image) (removed_words a image p slot) (discounted_frame a image) (cut_frame a (discounted a image) n p slot fits places)
    (omega arith) (omega arith) (omega arith) (omega arith)

pub parts_removed : (a : PolicyArea) (image : List ℕ) (n : ℕ) (s : Shown) (p : Places) (slot : ℕ) (r : Policy) (front back : List (ℕ × Policy))
    → Fits a n → length image ≡ n → ArePlaces a p → PlacesAre s.hthresh4 s.hthresh6 p r front back
    → PoliciesStand a image s (front ++ ((slot, r) ∷ back))
    → PoliciesStand a (removed_words a image p slot) (with_policies s (records_in (front ++ back))) (front ++ back)
parts_removed a image n s p slot r front back fits e places are st =
    let h4 : ℕ × ℕ = s.hthresh4 in
    let h6 : ℕ × ℕ = s.hthresh6 in
    let old : List (ℕ × Policy) = front ++ ((slot, r) ∷ back) in
    let new : List (ℕ × Policy) = front ++ back in
    let i1 : List ℕ = discounted a image in
    let i2 : List ℕ = cut_out a i1 p slot in
    let f1 : Frame (count_place a) (count_place a + 1) image i1 = discounted_frame a image in
    let f2 : Frame (a.base + 7) (a.base + 2057 + 4 * a.slots) i1 i2 = cut_frame a i1 n p slot fits places in
    let n1 : length i1 ≡ n = f1.size ∙ e in
    let apart : Apart (slots_in old) = entries_apart a image h4 h6 old st.links in
    let within : Within a.slots (slots_in new) = within_taken a.slots front back slot r (entries_within a image h4 h6 old st.links) in
    let l1 : LinksStand a i1 h4 h6 old = links_kept a image i1 n h4 h6 old fits (λ q h l. f1.above q (omega (arith, h))) st.links in
    let l2 : LinksStand a i2 h4 h6 new = cut_links a i1 n h4 h6 p slot r front back fits n1 places are apart l1 in
    let c2 : ColumnsStand a i2 new =
    columns_kept a image i2 new within (λ q h l. f2.above q h ∙ f1.above q (omega (arith, h))) (columns_left a image slot r front back within st.columns) in
    let long : length s.policies ≡ length (records_in new) + 1 =
    ap (λ (ps : List Policy). length ps) (sym st.listed) ∙ one_more front back (slot, r) in
    let k1 : CountersStand a i1 (with_policies s (records_in new)) = counters_discounted a image n s (records_in new) fits e long st.counters in
    record {
      listed = refl;
      links = l2;
      columns = c2;
      counters = counters_kept a i1 i2 (with_policies s (records_in new)) (λ q h l. f2.below q l) k1;
      room = st.room;
    }

pub stands_removed : (a : PolicyArea) (image : List ℕ) (n : ℕ) (s : Shown) (entries : List (ℕ × Policy)) (slot : ℕ) (r : Policy)
    → Fits a n → length image ≡ n → IsEntry entries slot r
    → PoliciesStand a image s entries
    → PoliciesStand a (removed_words a image (places_of a image s.hthresh4 s.hthresh6 r slot) slot) (with_policies s (records_in (slot_left slot entries))) (slot_left slot entries)
stands_removed a image n s entries slot r fits e is st =
    let h4 : ℕ × ℕ = s.hthresh4 in
    let h6 : ℕ × ℕ = s.hthresh6 in
    let p : Places = places_of a image h4 h6 r slot in
    let words : List ℕ = removed_words a image p slot in
    let old : PoliciesStand a image s (is.front ++ ((slot, r) ∷ is.behind)) =
    subst (λ (es : List (ℕ × Policy)). PoliciesStand a image s es) is.whole st in
    let miss = misses_both slot r is.front is.behind (entries_apart a image h4 h6 (is.front ++ ((slot, r) ∷ is.behind)) old.links) in
    let places : ArePlaces a p = places_of_are a image h4 h6 r slot in
    let are : PlacesAre h4 h6 p r is.front is.behind = places_of_is a image h4 h6 slot r is.front is.behind places old.links in
    let same : is.front ++ is.behind ≡ slot_left slot entries =
    sym (ap (λ (es : List (ℕ × Policy)). slot_left slot es) is.whole ∙ left_is slot r is.front is.behind miss.0 miss.1) in
    subst (λ (es : List (ℕ × Policy)). PoliciesStand a words (with_policies s (records_in es)) es) same
    (parts_removed a image n s p slot r is.front is.behind fits e places are old)
