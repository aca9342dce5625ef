-- A policy was put into a slot.
use Rattle.std.proofs.Common.{◌≡◌, ◌≢◌, ℕ, ◌+◌, ◌*◌, ◌<◌, ◌≤◌, List, ◌∷◌, ◌++◌, Some, length, refl, ◌∙◌, arith, slice_index, slice_set, get_or-set_other, get_or-set_same, nat_lt}
use Rattle.xf_types.specs.declared.policy.Policy.{Policy}
use Rattle.xf_chain.specs.Lists.{Misses, Within}
use Rattle.xf_index.specs.Indexes.{slots_in}
use Rattle.xf_records.specs.Blocks.{stored}
use Rattle.xf_records.specs.Policies.{policy_words, PolicyFits}
use Rattle.xf_records.proofs.PolicyLaws.{policy_frame, policy_put}
use Rattle.xf_image.specs.declared.area.PolicyArea.{PolicyArea}
use Rattle.xf_image.specs.Layout.{Fits, end_of, priority_place, number_place, record_place, record_at}
use Rattle.xf_image.specs.Policies.{ColumnsStand}
use Rattle.xf_image.specs.Writes.{ranked}
use Rattle.xf_image.specs.Frames.{Frame}
use Rattle.xf_image.proofs.Written.{both, outside, one_word, record_frame}
use Rattle.xf_image.proofs.Steps.{column_put, column_taken}

-- two records lie apart
pub other_record : (start x slot q : ℕ) → x ≢ slot → start + 104 * x ≤ q → q < start + 104 * x + 101 → start + 104 * slot ≤ q
    → start + 104 * slot + 101 ≤ q
other_record start x slot q n l m k = omega arith

-- what stands in a slot
abbrev pub filled : PolicyArea → List ℕ → ℕ → Policy → List ℕ
filled a i slot r = stored (ranked a i slot r) (record_place a slot) (policy_words r)

pub filled_frame : (a : PolicyArea) (i : List ℕ) (slot : ℕ) (r : Policy) → slot < a.slots → PolicyFits r
    → Frame (a.base + 2057 + 4 * a.slots) (end_of a) i (filled a i slot r)
filled_frame a i slot r below fits =
    let first : ℕ = a.base + 2057 + 4 * a.slots in
    let last : ℕ = end_of a in
    let i1 : List ℕ = slice_set i (priority_place a slot) r.spec.priority in
    let i2 : List ℕ = slice_set i1 (number_place a slot) r.number in
    let i3 : List ℕ = stored i2 (record_place a slot) (policy_words r) in
    let w2 : Frame first last i i2 = both first last _ _ _ _ i i1 i2 (one_word i (priority_place a slot) r.spec.priority) (one_word i1 (number_place a slot) r.number)
    (omega arith) (omega arith) (omega (arith, below)) (omega (arith, below)) in
    both first last _ _ _ _ i i2 i3 w2 (record_frame i2 (record_place a slot) r fits) (omega arith) (omega arith) (omega arith) (omega (arith, below))

pub columns_filled : (a : PolicyArea) (i : List ℕ) (n : ℕ) (slot : ℕ) (r : Policy) (front back : List (ℕ × Policy))
    → Fits a n → length i ≡ n → slot < a.slots → PolicyFits r
    → Misses slot (slots_in (front ++ back)) → Within a.slots (slots_in (front ++ back))
    → ColumnsStand a i (front ++ back) → ColumnsStand a (filled a i slot r) (front ++ ((slot, r) ∷ back))
columns_filled a i n slot r front back fits e below code miss within s =
    let words = fits.words in
    let pp : ℕ = priority_place a slot in
    let np : ℕ = number_place a slot in
    let rp : ℕ = record_place a slot in
    let i1 : List ℕ = slice_set i pp r.spec.priority in
    let i2 : List ℕ = slice_set i1 np r.number in
    let i3 : List ℕ = stored i2 rp (policy_words r) in
    let s1 : Frame pp (pp + 1) i i1 = one_word i pp r.spec.priority in
    let s2 : Frame np (np + 1) i1 i2 = one_word i1 np r.number in
    let s3 : Frame rp (rp + 101) i2 i3 = record_frame i2 rp r code in
    let n1 : length i1 ≡ n = s1.size ∙ e in
    let n2 : length i2 ≡ n = s2.size ∙ n1 in
    record {
      priorities = column_put (λ x. slice_index i (priority_place a x)) (λ x. slice_index i3 (priority_place a x)) (λ p. p.spec.priority) a.slots slot r front back
          (λ x w o. s3.below (priority_place a x) (omega (arith, w)) ∙ (s2.below (priority_place a x) (omega (arith, w))
          ∙ get_or-set_other i pp (priority_place a x) r.spec.priority 0 (λ k. o (omega (arith, k)))))
          (s3.below pp (omega (arith, below)) ∙ (s2.below pp (omega (arith, below)) ∙ get_or-set_same i pp r.spec.priority 0 (omega (arith, e, words, below))))
          miss within s.priorities;
      numbers = column_put (λ x. slice_index i (number_place a x)) (λ x. slice_index i3 (number_place a x)) (λ p. p.number) a.slots slot r front back
          (λ x w o. s3.below (number_place a x) (omega (arith, w)) ∙ (get_or-set_other i1 np (number_place a x) r.number 0 (λ k. o (omega (arith, k)))
          ∙ s1.above (number_place a x) (omega (arith, below))))
          (s3.below np (omega (arith, below)) ∙ get_or-set_same i1 np r.number 0 (omega (arith, n1, words, below)))
          miss within s.numbers;
      records = column_put (λ x. record_at a i x) (λ x. record_at a i3 x) (λ p. Some p) a.slots slot r front back
          (λ x w o. policy_frame i i3 (record_place a x) (λ q l m.
          outside rp (rp + 101) i2 i3 q (nat_lt q rp) refl s3 (λ k. other_record (a.base + 2057 + 6 * a.slots) x slot q o l m k)
          ∙ (s2.above q (omega (arith, l, below)) ∙ s1.above q (omega (arith, l, below)))))
          (policy_put i2 rp r code (omega (arith, n2, words, below)))
          miss within s.records;
    }

-- a policy left its slot, where its words stay
pub columns_left : (a : PolicyArea) (i : List ℕ) (slot : ℕ) (r : Policy) (front back : List (ℕ × Policy)) → Within a.slots (slots_in (front ++ back))
    → ColumnsStand a i (front ++ ((slot, r) ∷ back)) → ColumnsStand a i (front ++ back)
columns_left a i slot r front back within s = record {
  priorities = column_taken (λ x. slice_index i (priority_place a x)) (λ x. slice_index i (priority_place a x)) (λ p. p.spec.priority) a.slots slot r front back (λ x w. refl) within s.priorities;
  numbers = column_taken (λ x. slice_index i (number_place a x)) (λ x. slice_index i (number_place a x)) (λ p. p.number) a.slots slot r front back (λ x w. refl) within s.numbers;
  records = column_taken (λ x. record_at a i x) (λ x. record_at a i x) (λ p. Some p) a.slots slot r front back (λ x w. refl) within s.records;
}
