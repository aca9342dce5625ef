-- Words that are the same in an area stand for the same there.
use Rattle.std.proofs.Common.{◌≡◌, ℕ, ◌+◌, ◌*◌, ◌<◌, ◌≤◌, List, Some, reverse, refl, ap, ◌∙◌, subst, arith, slice_index, sym, length}
use Rattle.xf_types.specs.declared.policy.Policy.{Policy}
use Rattle.xf_types.specs.Machine.{Shown}
use Rattle.xf_chain.specs.Families.{chain_at}
use Rattle.xf_chain.specs.Lists.{Apart, Within, IsChain}
use Rattle.xf_index.proofs.Holds.{holds_kept}
use Rattle.xf_index.proofs.Alls.{all_apart, all_within}
use Rattle.xf_index.proofs.Picks.{picked_slots}
use Rattle.xf_index.proofs.Stays.{indexed_apart}
use Rattle.xf_index.specs.Indexes.{slots_in}
use Rattle.xf_records.proofs.PolicyLaws.{policy_frame}
use Rattle.xf_image.specs.declared.area.PolicyArea.{PolicyArea}
use Rattle.xf_image.specs.Layout.{Fits, end_of, order_of, back_of, exact_of, indices_of, next_index_place, next_number_place, thresholds_place, count_place, priority_place, number_place, record_place, record_at}
use Rattle.xf_image.specs.ExactKeys.{exact_key}
use Rattle.xf_image.specs.Policies.{everyone, index_key, LinksStand, ColumnsStand, CountersStand, PoliciesStand}
use Rattle.xf_image.specs.Entries.{AlikeInPolicies}
use Rattle.xf_image.proofs.Layouts.{order_lays, back_lays, exact_lays, indices_lays}

-- the slots of all entries differ, and are slots of the area

pub entries_apart : (a : PolicyArea) (image : List ℕ) (h4 h6 : ℕ × ℕ) (es : List (ℕ × Policy)) → LinksStand a image h4 h6 es → Apart (slots_in es)
entries_apart a image h4 h6 es s = all_apart (order_of a) image everyone es (λ p. refl) (omega arith) s.order

pub entries_within : (a : PolicyArea) (image : List ℕ) (h4 h6 : ℕ × ℕ) (es : List (ℕ × Policy)) → LinksStand a image h4 h6 es
    → Within a.slots (slots_in es)
entries_within a image h4 h6 es s = all_within (order_of a) image everyone es (λ p. refl) (omega arith) s.order

-- they are the chain of all
pub slots_chain : (a : PolicyArea) (image : List ℕ) (h4 h6 : ℕ × ℕ) (es : List (ℕ × Policy)) → LinksStand a image h4 h6 es
    → IsChain (chain_at (order_of a) 0) image (slots_in es)
slots_chain a image h4 h6 es s =
    subst (λ (xs : List ℕ). IsChain (chain_at (order_of a) 0) image xs) (picked_slots everyone es (λ p. refl)) (s.order.chains 0 (omega arith))

pub links_kept : (a : PolicyArea) (i j : List ℕ) (n : ℕ) (h4 h6 : ℕ × ℕ) (es : List (ℕ × Policy)) → Fits a n
    → ((q : ℕ) → a.base + 7 ≤ q → q < a.base + 2057 + 4 * a.slots → slice_index j q ≡ slice_index i q)
    → LinksStand a i h4 h6 es → LinksStand a j h4 h6 es
links_kept a i j n h4 h6 es fits f s = record {
  order = indexed_apart (order_of a) i j n everyone es (order_lays a n fits) (λ q h l. f q h (omega (arith, l))) s.order;
  back = indexed_apart (back_of a) i j n everyone (reverse es) (back_lays a n fits) (λ q h l. f q (omega (arith, h)) (omega (arith, l))) s.back;
  exact = indexed_apart (exact_of a) i j n (exact_key h4 h6) es (exact_lays a n fits) (λ q h l. f q (omega (arith, h)) (omega (arith, l))) s.exact;
  indices = indexed_apart (indices_of a) i j n index_key es (indices_lays a n fits) (λ q h l. f q (omega (arith, h)) (omega (arith, l))) s.indices;
}

pub columns_kept : (a : PolicyArea) (i j : List ℕ) (es : List (ℕ × Policy)) → Within a.slots (slots_in es)
    → ((q : ℕ) → a.base + 2057 + 4 * a.slots ≤ q → q < end_of a → slice_index j q ≡ slice_index i q)
    → ColumnsStand a i es → ColumnsStand a j es
columns_kept a i j es within f s = record {
  priorities = holds_kept (λ x. slice_index i (priority_place a x)) (λ x. slice_index j (priority_place a x)) (λ p. p.spec.priority) a.slots es
      (λ x w. f (priority_place a x) (omega arith) (omega (arith, w))) within s.priorities;
  numbers = holds_kept (λ x. slice_index i (number_place a x)) (λ x. slice_index j (number_place a x)) (λ p. p.number) a.slots es
      (λ x w. f (number_place a x) (omega arith) (omega (arith, w))) within s.numbers;
  records = holds_kept (λ x. record_at a i x) (λ x. record_at a j x) (λ p. Some p) a.slots es
      (λ x w. policy_frame i j (record_place a x) (λ q l m. f q (omega (arith, l)) (omega (arith, m, w)))) within s.records;
}

pub counters_kept : (a : PolicyArea) (i j : List ℕ) (s : Shown) → ((q : ℕ) → a.base ≤ q → q < a.base + 7 → slice_index j q ≡ slice_index i q)
    → CountersStand a i s → CountersStand a j s
counters_kept a i j s f c = record {
  next_index = ap (λ n. n + 1) (f (next_index_place a) (omega arith) (omega arith)) ∙ c.next_index;
  next_number = ap (λ n. n + 1) (f (next_number_place a) (omega arith) (omega arith)) ∙ c.next_number;
  local4 = ap (λ n. n + s.hthresh4.0) (f (thresholds_place a) (omega arith) (omega arith)) ∙ c.local4;
  remote4 = ap (λ n. n + s.hthresh4.1) (f (thresholds_place a + 1) (omega arith) (omega arith)) ∙ c.remote4;
  local6 = ap (λ n. n + s.hthresh6.0) (f (thresholds_place a + 2) (omega arith) (omega arith)) ∙ c.local6;
  remote6 = ap (λ n. n + s.hthresh6.1) (f (thresholds_place a + 3) (omega arith) (omega arith)) ∙ c.remote6;
  count = f (count_place a) (omega arith) (omega arith) ∙ c.count;
}

pub stands_kept : (a : PolicyArea) (i j : List ℕ) (n : ℕ) (s : Shown) (es : List (ℕ × Policy)) → Fits a n
    → ((q : ℕ) → a.base ≤ q → q < end_of a → slice_index j q ≡ slice_index i q)
    → PoliciesStand a i s es → PoliciesStand a j s es
stands_kept a i j n s es fits f p = record {
  listed = p.listed;
  links = links_kept a i j n s.hthresh4 s.hthresh6 es fits (λ q h l. f q (omega (arith, h)) (omega (arith, l))) p.links;
  columns = columns_kept a i j es (entries_within a i s.hthresh4 s.hthresh6 es p.links) (λ q h l. f q (omega (arith, h)) l) p.columns;
  counters = counters_kept a i j s (λ q h l. f q h (omega (arith, l))) p.counters;
  room = p.room;
}

-- what else is shown doesn't matter
pub stands_alike : (a : PolicyArea) (image : List ℕ) (s t : Shown) (es : List (ℕ × Policy)) → AlikeInPolicies s t → PoliciesStand a image s es
    → PoliciesStand a image t es
stands_alike a image s t es e p = record {
  listed = p.listed ∙ sym e.policies;
  links =
      subst (λ (h : ℕ × ℕ). LinksStand a image t.hthresh4 h es) (sym e.hthresh6)
      (subst (λ (h : ℕ × ℕ). LinksStand a image h s.hthresh6 es) (sym e.hthresh4) p.links);
  columns = p.columns;
  counters = record {
    next_index = p.counters.next_index ∙ sym e.next_index;
    next_number = p.counters.next_number ∙ sym e.next_number;
    local4 = ap (λ (h : ℕ × ℕ). slice_index image (thresholds_place a) + h.0) e.hthresh4 ∙ p.counters.local4;
    remote4 = ap (λ (h : ℕ × ℕ). slice_index image (thresholds_place a + 1) + h.1) e.hthresh4 ∙ p.counters.remote4;
    local6 = ap (λ (h : ℕ × ℕ). slice_index image (thresholds_place a + 2) + h.0) e.hthresh6 ∙ p.counters.local6;
    remote6 = ap (λ (h : ℕ × ℕ). slice_index image (thresholds_place a + 3) + h.1) e.hthresh6 ∙ p.counters.remote6;
    count = p.counters.count ∙ ap (λ (ps : List Policy). length ps) (sym e.policies);
  };
  room = e.room ∙ p.room;
}
