-- A policy was warned of.
use Rattle.std.proofs.Common.{◌≡◌, ℕ, suc, ◌+◌, ◌*◌, ◌<◌, ◌≤◌, List, [], ◌∷◌, ◌++◌, Some, length, reverse, refl, ap, sym, ◌∙◌, subst, arith, slice_index}
use Rattle.xf_types.specs.declared.policy.Policy.{Policy}
use Rattle.xf_types.specs.Machine.{Shown}
use Rattle.xf_chain.specs.Lists.{Misses, Within}
use Rattle.xf_index.proofs.Entries.{reverse_within, within_taken, misses_taken}
use Rattle.xf_index.proofs.Holds.{holds_taken, holds_at}
use Rattle.xf_index.proofs.Stays.{indexed_changed}
use Rattle.xf_index.specs.Indexes.{slots_in, records_in, Indexed}
use Rattle.xf_records.specs.Policies.{warned}
use Rattle.xf_records.proofs.PolicyLaws.{policy_frame, policy_warned}
use Rattle.xf_image.specs.declared.area.PolicyArea.{PolicyArea}
use Rattle.xf_image.specs.Layout.{Fits, end_of, order_of, back_of, exact_of, indices_of, priority_place, number_place, record_place, record_at}
use Rattle.xf_image.specs.ExactKeys.{exact_key}
use Rattle.xf_image.specs.Policies.{everyone, index_key, LinksStand, ColumnsStand, CountersStand, PoliciesStand}
use Rattle.xf_image.specs.Entries.{IsEntry, slot_warned, with_policies}
use Rattle.xf_image.specs.Writes.{warned_words}
use Rattle.xf_image.specs.Frames.{Frame}
use Rattle.std.proofs.Common.{nat_lt}
use Rattle.xf_image.proofs.Written.{outside, one_word, wider}
use Rattle.xf_image.proofs.Keeping.{entries_apart, entries_within, links_kept, counters_kept}
use Rattle.xf_image.proofs.Steps.{column_put}
use Rattle.xf_image.proofs.Columns.{other_record}
use Rattle.xf_image.proofs.Parts.{misses_both, within_slot, warned_is}

pub warned_frame : (a : PolicyArea) (image : List ℕ) (slot : ℕ) → slot < a.slots → Frame a.base (end_of a) image (warned_words a image slot)
warned_frame a image slot below =
    wider a.base (end_of a) _ _ image (warned_words a image slot) (one_word image (record_place a slot + 21) 1) (omega arith) (omega (arith, below))

-- a flag is no key
links_warned : (a : PolicyArea) (i : List ℕ) (h4 h6 : ℕ × ℕ) (slot : ℕ) (r : Policy) (front back : List (ℕ × Policy))
    → LinksStand a i h4 h6 (front ++ ((slot, r) ∷ back)) → LinksStand a i h4 h6 (front ++ ((slot, warned r) ∷ back))
links_warned a i h4 h6 slot r front back s = record {
  order = indexed_changed (order_of a) i everyone front back slot r (warned r) refl s.order;
  back =
      subst (λ (es : List (ℕ × Policy)). Indexed (back_of a) i everyone es) (sym (reverse_within front back (slot, warned r)))
      (indexed_changed (back_of a) i everyone (reverse back) (reverse front) slot r (warned r) refl
      (subst (λ (es : List (ℕ × Policy)). Indexed (back_of a) i everyone es) (reverse_within front back (slot, r)) s.back));
  exact = indexed_changed (exact_of a) i (exact_key h4 h6) front back slot r (warned r) refl s.exact;
  indices = indexed_changed (indices_of a) i index_key front back slot r (warned r) refl s.indices;
}

columns_warned : (a : PolicyArea) (i : List ℕ) (n : ℕ) (slot : ℕ) (r : Policy) (front back : List (ℕ × Policy))
    → Fits a n → length i ≡ n → slot < a.slots → Misses slot (slots_in (front ++ back)) → Within a.slots (slots_in (front ++ back))
    → ColumnsStand a i (front ++ ((slot, r) ∷ back)) → ColumnsStand a (warned_words a i slot) (front ++ ((slot, warned r) ∷ back))
columns_warned a i n slot r front back fits e below miss within s =
    let words = fits.words in
    let j : List ℕ = warned_words a i slot in
    let at : ℕ = record_place a slot + 21 in
    let f : Frame at (at + 1) i j = one_word i at 1 in
    let low : (q : ℕ) → q < a.base + 2057 + 6 * a.slots → slice_index j q ≡ slice_index i q = λ q h. f.below q (omega (arith, h)) in
    record {
      priorities = column_put (λ x. slice_index i (priority_place a x)) (λ x. slice_index j (priority_place a x)) (λ p. p.spec.priority) a.slots slot (warned r) front back
          (λ x w o. low (priority_place a x) (omega (arith, w)))
          (low (priority_place a slot) (omega (arith, below)) ∙ holds_at (λ x. slice_index i (priority_place a x)) (λ p. p.spec.priority) slot r front back s.priorities)
          miss within (holds_taken (λ x. slice_index i (priority_place a x)) (λ p. p.spec.priority) slot r front back s.priorities);
      numbers = column_put (λ x. slice_index i (number_place a x)) (λ x. slice_index j (number_place a x)) (λ p. p.number) a.slots slot (warned r) front back
          (λ x w o. low (number_place a x) (omega (arith, w)))
          (low (number_place a slot) (omega (arith, below)) ∙ holds_at (λ x. slice_index i (number_place a x)) (λ p. p.number) slot r front back s.numbers)
          miss within (holds_taken (λ x. slice_index i (number_place a x)) (λ p. p.number) slot r front back s.numbers);
      records = column_put (λ x. record_at a i x) (λ x. record_at a j x) (λ p. Some p) a.slots slot (warned r) front back
          (λ x w o. policy_frame i j (record_place a x) (λ q l m.
          outside at (at + 1) i j q (nat_lt q at) refl f (λ k.
          let far : record_place a slot + 101 ≤ q = other_record (a.base + 2057 + 6 * a.slots) x slot q o l m (omega (arith, k)) in omega (arith, far))))
          (policy_warned i (record_place a slot) r (omega (arith, e, words, below)) (holds_at (λ x. record_at a i x) (λ p. Some p) slot r front back s.records))
          miss within (holds_taken (λ x. record_at a i x) (λ p. Some p) slot r front back s.records);
    }

same_length : (front back : List (ℕ × Policy)) (slot : ℕ) (r q : Policy)
    → length (records_in (front ++ ((slot, r) ∷ back))) ≡ length (records_in (front ++ ((slot, q) ∷ back)))
same_length [] back slot r q = refl
same_length (e ∷ front) back slot r q = ap (λ (n : ℕ). suc n) (same_length front back slot r q)

parts_warned : (a : PolicyArea) (image : List ℕ) (n : ℕ) (s : Shown) (slot : ℕ) (r : Policy) (front back : List (ℕ × Policy))
    → Fits a n → length image ≡ n → PoliciesStand a image s (front ++ ((slot, r) ∷ back))
    → PoliciesStand a (warned_words a image slot) (with_policies s (records_in (front ++ ((slot, warned r) ∷ back)))) (front ++ ((slot, warned r) ∷ back))
parts_warned a image n s slot r front back fits e st =
    let h4 : ℕ × ℕ = s.hthresh4 in
    let h6 : ℕ × ℕ = s.hthresh6 in
    let old : List (ℕ × Policy) = front ++ ((slot, r) ∷ back) in
    let new : List (ℕ × Policy) = front ++ ((slot, warned r) ∷ back) in
    let j : List ℕ = warned_words a image slot in
    let all : Within a.slots (slots_in old) = entries_within a image h4 h6 old st.links in
    let below : slot < a.slots = within_slot a.slots slot r front back all in
    let within : Within a.slots (slots_in (front ++ back)) = within_taken a.slots front back slot r all in
    let miss : Misses slot (slots_in (front ++ back)) = misses_taken front back slot r (entries_apart a image h4 h6 old st.links) in
    let f : Frame (record_place a slot + 21) (record_place a slot + 21 + 1) image j = one_word image (record_place a slot + 21) 1 in
    let count : length (records_in old) ≡ length (records_in new) = same_length front back slot r (warned r) in
    let c : CountersStand a j s = counters_kept a image j s (λ q h l. f.below q (omega (arith, l))) st.counters in
    record {
      listed = refl;
      links = links_kept a image j n h4 h6 new fits (λ q h l. f.below q (omega (arith, l))) (links_warned a image h4 h6 slot r front back st.links);
      columns = columns_warned a image n slot r front back fits e below miss within st.columns;
      counters = record {
        next_index = c.next_index;
        next_number = c.next_number;
        local4 = c.local4;
        remote4 = c.remote4;
        local6 = c.local6;
        remote6 = c.remote6;
        count = c.count ∙ (ap (λ (ps : List Policy). length ps) (sym st.listed) ∙ count);
      };
      room = st.room;
    }

pub stands_warned : (a : PolicyArea) (image : List ℕ) (n : ℕ) (s : Shown) (entries : List (ℕ × Policy)) (slot : ℕ) (r : Policy)
    → Fits a n → length image ≡ n → IsEntry entries slot r → PoliciesStand a image s entries
    → PoliciesStand a (warned_words a image slot) (with_policies s (records_in (slot_warned slot entries))) (slot_warned slot entries)
stands_warned a image n s entries slot r fits e is st =
    let old : PoliciesStand a image s (is.front ++ ((slot, r) ∷ is.behind)) =
    subst (λ (es : List (ℕ × Policy)). PoliciesStand a image s es) is.whole st in
    let miss = misses_both slot r is.front is.behind (entries_apart a image s.hthresh4 s.hthresh6 (is.front ++ ((slot, r) ∷ is.behind)) old.links) in
    let same : is.front ++ ((slot, warned r) ∷ is.behind) ≡ slot_warned slot entries =
    sym (ap (λ (es : List (ℕ × Policy)). slot_warned slot es) is.whole ∙ warned_is slot r is.front is.behind miss.0 miss.1) in
    subst (λ (es : List (ℕ × Policy)). PoliciesStand a (warned_words a image slot) (with_policies s (records_in es)) es) same
    (parts_warned a image n s slot r is.front is.behind fits e old)
