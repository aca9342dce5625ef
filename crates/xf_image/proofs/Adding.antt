-- A policy was listed: the words after it stand for the list after it.
use Rattle.std.proofs.Common.{◌≡◌, ℕ, ◌+◌, ◌*◌, ◌<◌, ◌≤◌, Bool, not, List, [], ◌∷◌, ◌++◌, length, ap, sym, ◌∙◌, subst, arith, All}
use Rattle.xf_types.specs.declared.policy.Policy.{Policy}
use Rattle.xf_types.specs.Machine.{Shown}
use Rattle.xf_types.specs.PolicyList.{comes_after, inserted}
use Rattle.xf_chain.specs.Lists.{Misses, Apart, Within}
use Rattle.xf_index.proofs.Parts.{parted}
use Rattle.xf_index.specs.Indexes.{slots_in, records_in}
use Rattle.xf_index.specs.Parts.{Parted, Falls}
use Rattle.xf_records.specs.Policies.{PolicyFits}
use Rattle.xf_image.specs.declared.area.PolicyArea.{PolicyArea}
use Rattle.xf_image.specs.declared.places.Places.{Places}
use Rattle.xf_image.specs.Layout.{Fits, end_of}
use Rattle.xf_image.specs.Policies.{LinksStand, ColumnsStand, CountersStand, PoliciesStand}
use Rattle.xf_image.specs.Entries.{InOrder, entries_with, with_listed}
use Rattle.xf_image.specs.Placing.{ArePlaces, places_for}
use Rattle.xf_image.specs.Writes.{counted, linked, added_words}
use Rattle.xf_image.specs.Frames.{Frame}
use Rattle.xf_image.proofs.Orders.{falls, inserted_is, entries_with_is}
use Rattle.xf_image.proofs.Written.{both}
use Rattle.xf_image.proofs.Keeping.{entries_apart, entries_within, links_kept, columns_kept, counters_kept}
use Rattle.xf_image.proofs.Linking.{PlacesAre, linked_frame, linked_links}
use Rattle.xf_image.proofs.Columns.{filled, filled_frame, columns_filled}
use Rattle.xf_image.proofs.Counting.{counted_frame, counters_counted, few}
use Rattle.xf_image.proofs.Placed.{places_for_is}
use Rattle.xf_image.proofs.Bounds.{places_for_are}

-- only words of the area are written
pub added_frame : (a : PolicyArea) (image : List ℕ) (n : ℕ) (p : Places) (slot : ℕ) (r : Policy) (index_word : ℕ) → Fits a n → ArePlaces a p
    → slot < a.slots → PolicyFits r
    → Frame a.base (end_of a) image (added_words a image p slot r index_word)
added_frame a image n p slot r index_word fits places below code =
    let i1 : List ℕ = counted a image index_word r.number in
    let i2 : List ℕ = linked a i1 p slot in
    let w2 : Frame a.base (end_of a) image i2 = both a.base (end_of a) _ _ _ _ image i1 i2 (counted_frame a image index_word r.number) (linked_frame a i1 n p slot fits places below)
    (omega arith) (omega arith) (omega arith) (omega arith) in
    both a.base (end_of a) _ _ _ _ image i2 (filled a i2 slot r) w2 (filled_frame a i2 slot r below code) (omega arith) (omega arith) (omega arith) (omega arith)

pub one_more : (front back : List (ℕ × Policy)) (e : ℕ × Policy) → length (records_in (front ++ (e ∷ back))) ≡ length (records_in (front ++ back)) + 1
one_more [] back e = omega arith
one_more (x ∷ front) back e = let k : length (records_in (front ++ (e ∷ back))) ≡ length (records_in (front ++ back)) + 1 = one_more front back e in omega (arith, k)

pub parts_added : (a : PolicyArea) (image : List ℕ) (n : ℕ) (s : Shown) (p : Places) (slot : ℕ) (r : Policy) (front back : List (ℕ × Policy)) (index_word next_index : ℕ)
    → Fits a n → length image ≡ n → slot < a.slots → PolicyFits r → ArePlaces a p → PlacesAre s.hthresh4 s.hthresh6 p r front back
    → Misses slot (slots_in (front ++ back)) → r.number ≡ s.next_number → index_word + 1 ≡ next_index
    → records_in (front ++ ((slot, r) ∷ back)) ≡ inserted r s.policies
    → PoliciesStand a image s (front ++ back)
    → PoliciesStand a (added_words a image p slot r index_word) (with_listed s r next_index) (front ++ ((slot, r) ∷ back))
parts_added a image n s p slot r front back index_word next_index fits e below code places are miss number index whole st =
    let h4 : ℕ × ℕ = s.hthresh4 in
    let h6 : ℕ × ℕ = s.hthresh6 in
    let old : List (ℕ × Policy) = front ++ back in
    let new : List (ℕ × Policy) = front ++ ((slot, r) ∷ back) in
    let i1 : List ℕ = counted a image index_word r.number in
    let i2 : List ℕ = linked a i1 p slot in
    let i3 : List ℕ = filled a i2 slot r in
    let f1 : Frame a.base (a.base + 7) image i1 = counted_frame a image index_word r.number in
    let f2 : Frame (a.base + 7) (a.base + 2057 + 4 * a.slots) i1 i2 = linked_frame a i1 n p slot fits places below in
    let f3 : Frame (a.base + 2057 + 4 * a.slots) (end_of a) i2 i3 = filled_frame a i2 slot r below code in
    let n1 : length i1 ≡ n = f1.size ∙ e in
    let n2 : length i2 ≡ n = f2.size ∙ n1 in
    let apart : Apart (slots_in old) = entries_apart a image h4 h6 old st.links in
    let within : Within a.slots (slots_in old) = entries_within a image h4 h6 old st.links in
    let l1 : LinksStand a i1 h4 h6 old = links_kept a image i1 n h4 h6 old fits (λ q h l. f1.above q h) st.links in
    let l2 : LinksStand a i2 h4 h6 new = linked_links a i1 n h4 h6 p slot r front back fits n1 places below are miss apart l1 in
    let l3 : LinksStand a i3 h4 h6 new = links_kept a i2 i3 n h4 h6 new fits (λ q h l. f3.below q l) l2 in
    let c2 : ColumnsStand a i2 old = columns_kept a image i2 old within (λ q h l. f2.above q h ∙ f1.above q (omega (arith, h))) st.columns in
    let c3 : ColumnsStand a i3 new = columns_filled a i2 n slot r front back fits n2 below code miss within c2 in
    let long : length (inserted r s.policies) ≡ length s.policies + 1 =
    ap (λ (ps : List Policy). length ps) (sym whole) ∙ (one_more front back (slot, r) ∙ ap (λ (ps : List Policy). length ps + 1) st.listed) in
    let small : length s.policies ≤ a.slots = few a image s old st in
    let most = fits.area.most in
    let k1 : CountersStand a i1 (with_listed s r next_index) =
    counters_counted a image n s r index_word next_index fits e number index (omega (arith, small, most)) long st.counters in
    record {
      listed = whole;
      links = l3;
      columns = c3;
      counters = counters_kept a i1 i3 (with_listed s r next_index) (λ q h l. f3.below q (omega (arith, l)) ∙ f2.below q l) k1;
      room = st.room;
    }

pub stands_added : (a : PolicyArea) (image : List ℕ) (n : ℕ) (s : Shown) (entries : List (ℕ × Policy)) (slot : ℕ) (r : Policy) (index_word next_index : ℕ)
    → Fits a n → length image ≡ n → slot < a.slots → PolicyFits r → InOrder s
    → Misses slot (slots_in entries) → r.number ≡ s.next_number → index_word + 1 ≡ next_index
    → PoliciesStand a image s entries
    → PoliciesStand a (added_words a image (places_for a image s.hthresh4 s.hthresh6 r) slot r index_word) (with_listed s r next_index) (entries_with slot r entries)
stands_added a image n s entries slot r index_word next_index fits e below code sound miss number index st =
    let test : Policy → Bool = λ q. not (comes_after q r) in
    let p : Places = places_for a image s.hthresh4 s.hthresh6 r in
    let newest : All (λ q. q.number < r.number) s.policies = subst (λ (k : ℕ). All (λ q. q.number < k) s.policies) (sym number) sound.numbers_given in
    let parts : Parted test entries =
    parted test entries (subst (λ (ps : List Policy). Falls test ps) (sym st.listed) (falls r s.policies sound.ordered newest)) in
    let old : PoliciesStand a image s (parts.front ++ parts.back) = subst (λ (es : List (ℕ × Policy)). PoliciesStand a image s es) parts.whole st in
    let free : Misses slot (slots_in (parts.front ++ parts.back)) = subst (λ (es : List (ℕ × Policy)). Misses slot (slots_in es)) parts.whole miss in
    let places : ArePlaces a p = places_for_are a image s.hthresh4 s.hthresh6 r in
    let are : PlacesAre s.hthresh4 s.hthresh6 p r parts.front parts.back =
    places_for_is a image s.hthresh4 s.hthresh6 r parts.front parts.back places old.links old.columns parts.before parts.after in
    let whole : records_in (parts.front ++ ((slot, r) ∷ parts.back)) ≡ inserted r s.policies =
    inserted_is r slot parts.front parts.back parts.before parts.after ∙ ap (λ (ps : List Policy). inserted r ps) old.listed in
    let same : parts.front ++ ((slot, r) ∷ parts.back) ≡ entries_with slot r entries =
    sym (ap (λ (es : List (ℕ × Policy)). entries_with slot r es) parts.whole ∙ entries_with_is r slot parts.front parts.back parts.before parts.after) in
    subst (λ (es : List (ℕ × Policy)). PoliciesStand a (added_words a image p slot r index_word) (with_listed s r next_index) es) same
    (parts_added a image n s p slot r parts.front parts.back index_word next_index fits e below code places are free number index whole old)
