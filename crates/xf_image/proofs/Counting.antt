-- The header was written.
use Rattle.std.proofs.Common.{◌≡◌, ℕ, ◌+◌, ◌-◌, ◌<◌, ◌≤◌, List, length, refl, ap, sym, ◌∙◌, arith, slice_index, slice_set, length-set, get_or-set_other, get_or-set_same}
use Rattle.xf_types.specs.declared.policy.Policy.{Policy}
use Rattle.xf_types.specs.Machine.{Shown}
use Rattle.xf_cells.specs.Words.{next_count}
use Rattle.xf_index.specs.Indexes.{records_in}
use Rattle.xf_index.proofs.Entries.{records_length}
use Rattle.xf_index.proofs.Alls.{all_fit}
use Rattle.xf_image.specs.declared.area.PolicyArea.{PolicyArea}
use Rattle.xf_image.specs.Layout.{Fits, order_of, next_index_place, next_number_place, thresholds_place, count_place}
use Rattle.xf_image.specs.Policies.{everyone, CountersStand, PoliciesStand}
use Rattle.xf_image.specs.Entries.{with_policies, with_listed}
use Rattle.xf_image.specs.Writes.{counted, discounted}
use Rattle.xf_image.specs.Frames.{Frame}
use Rattle.xf_image.proofs.Written.{both, one_word}

-- no more policies than slots
pub few : (a : PolicyArea) (image : List ℕ) (s : Shown) (es : List (ℕ × Policy)) → PoliciesStand a image s es → length s.policies ≤ a.slots
few a image s es p =
    let l : length es ≤ a.slots = all_fit (order_of a) image everyone es (λ q. refl) (omega arith) p.links.order in
    let e : length (records_in es) ≡ length es = records_length es in
    let f : length (records_in es) ≡ length s.policies = ap (λ (ps : List Policy). length ps) p.listed in
    omega (arith, l, e, f)

next_small : (w : ℕ) → w ≤ 4096 → next_count w ≡ w + 1
next_small w h = omega (arith, h)

pub counted_frame : (a : PolicyArea) (i : List ℕ) (index_word number_word : ℕ) → Frame a.base (a.base + 7) i (counted a i index_word number_word)
counted_frame a i index_word number_word =
    let i1 : List ℕ = slice_set i (next_index_place a) index_word in
    let i2 : List ℕ = slice_set i1 (next_number_place a) number_word in
    let w : ℕ = next_count (slice_index i (count_place a)) in
    let w2 : Frame a.base (a.base + 7) i i2 = both a.base (a.base + 7) _ _ _ _ i i1 i2 (one_word i (next_index_place a) index_word) (one_word i1 (next_number_place a) number_word)
    (omega arith) (omega arith) (omega arith) (omega arith) in
    both a.base (a.base + 7) _ _ _ _ i i2 (slice_set i2 (count_place a) w) w2 (one_word i2 (count_place a) w) (omega arith) (omega arith) (omega arith) (omega arith)

-- a word between those that are written
counted_between : (a : PolicyArea) (i : List ℕ) (index_word number_word q : ℕ) → thresholds_place a ≤ q → q < count_place a
    → slice_index (counted a i index_word number_word) q ≡ slice_index i q
counted_between a i index_word number_word q l m =
    let i1 : List ℕ = slice_set i (next_index_place a) index_word in
    let i2 : List ℕ = slice_set i1 (next_number_place a) number_word in
    get_or-set_other i2 (count_place a) q (next_count (slice_index i (count_place a))) 0 (λ e. omega (arith, e, m))
    ∙ (get_or-set_other i1 (next_number_place a) q number_word 0 (λ e. omega (arith, e, l))
    ∙ get_or-set_other i (next_index_place a) q index_word 0 (λ e. omega (arith, e, l)))

pub counters_counted : (a : PolicyArea) (i : List ℕ) (n : ℕ) (s : Shown) (r : Policy) (index_word next_index : ℕ) → Fits a n → length i ≡ n
    → r.number ≡ s.next_number → index_word + 1 ≡ next_index → length s.policies ≤ 4096
    → length (with_listed s r next_index).policies ≡ length s.policies + 1
    → CountersStand a i s → CountersStand a (counted a i index_word r.number) (with_listed s r next_index)
counters_counted a i n s r index_word next_index fits e number index small long c =
    let words = fits.words in
    let i1 : List ℕ = slice_set i (next_index_place a) index_word in
    let i2 : List ℕ = slice_set i1 (next_number_place a) r.number in
    let w : ℕ = next_count (slice_index i (count_place a)) in
    let n1 : length i1 ≡ length i = length-set i (next_index_place a) index_word in
    let n2 : length i2 ≡ length i1 = length-set i1 (next_number_place a) r.number in
    let cw : slice_index i (count_place a) ≡ length s.policies = c.count in
    let ew : w ≡ slice_index i (count_place a) + 1 = next_small (slice_index i (count_place a)) (omega (arith, cw, small)) in
    let j : List ℕ = counted a i index_word r.number in
    let at_index : slice_index j (next_index_place a) ≡ index_word =
    get_or-set_other i2 (count_place a) (next_index_place a) w 0 (λ k. omega (arith, k))
    ∙ (get_or-set_other i1 (next_number_place a) (next_index_place a) r.number 0 (λ k. omega (arith, k))
    ∙ get_or-set_same i (next_index_place a) index_word 0 (omega (arith, e, words))) in
    let at_number : slice_index j (next_number_place a) ≡ r.number =
    get_or-set_other i2 (count_place a) (next_number_place a) w 0 (λ k. omega (arith, k))
    ∙ get_or-set_same i1 (next_number_place a) r.number 0 (omega (arith, n1, e, words)) in
    let at_count : slice_index j (count_place a) ≡ w = get_or-set_same i2 (count_place a) w 0 (omega (arith, n1, n2, e, words)) in
    record {
      next_index = ap (λ k. k + 1) at_index ∙ index;
      next_number = ap (λ k. k + 1) (at_number ∙ number);
      local4 = ap (λ k. k + s.hthresh4.0) (counted_between a i index_word r.number (thresholds_place a) (omega arith) (omega arith)) ∙ c.local4;
      remote4 = ap (λ k. k + s.hthresh4.1) (counted_between a i index_word r.number (thresholds_place a + 1) (omega arith) (omega arith)) ∙ c.remote4;
      local6 = ap (λ k. k + s.hthresh6.0) (counted_between a i index_word r.number (thresholds_place a + 2) (omega arith) (omega arith)) ∙ c.local6;
      remote6 = ap (λ k. k + s.hthresh6.1) (counted_between a i index_word r.number (thresholds_place a + 3) (omega arith) (omega arith)) ∙ c.remote6;
      count = at_count ∙ (ew ∙ (ap (λ k. k + 1) cw ∙ sym long));
    }

pub discounted_frame : (a : PolicyArea) (i : List ℕ) → Frame (count_place a) (count_place a + 1) i (discounted a i)
discounted_frame a i = one_word i (count_place a) (slice_index i (count_place a) - 1)

pub counters_discounted : (a : PolicyArea) (i : List ℕ) (n : ℕ) (s : Shown) (left : List Policy) → Fits a n → length i ≡ n
    → length s.policies ≡ length left + 1 → CountersStand a i s → CountersStand a (discounted a i) (with_policies s left)
counters_discounted a i n s left fits e long c =
    let words = fits.words in
    let w : ℕ = slice_index i (count_place a) - 1 in
    let f : Frame (count_place a) (count_place a + 1) i (discounted a i) = discounted_frame a i in
    let cw : slice_index i (count_place a) ≡ length s.policies = c.count in
    record {
      next_index = ap (λ k. k + 1) (f.below (next_index_place a) (omega arith)) ∙ c.next_index;
      next_number = ap (λ k. k + 1) (f.below (next_number_place a) (omega arith)) ∙ c.next_number;
      local4 = ap (λ k. k + s.hthresh4.0) (f.below (thresholds_place a) (omega arith)) ∙ c.local4;
      remote4 = ap (λ k. k + s.hthresh4.1) (f.below (thresholds_place a + 1) (omega arith)) ∙ c.remote4;
      local6 = ap (λ k. k + s.hthresh6.0) (f.below (thresholds_place a + 2) (omega arith)) ∙ c.local6;
      remote6 = ap (λ k. k + s.hthresh6.1) (f.below (thresholds_place a + 3) (omega arith)) ∙ c.remote6;
      count = get_or-set_same i (count_place a) w 0 (omega (arith, e, words)) ∙ omega (arith, cw, long);
    }
