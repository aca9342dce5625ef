-- Under other thresholds each policy goes to the front of its chain, the last one first.
use Rattle.std.proofs.Common.{◌≡◌, ℕ, ◌+◌, ◌*◌, ◌<◌, ◌≤◌, List, [], ◌∷◌, ◌++◌, Option, None, Some, length, reverse, refl, ap, sym, ◌∙◌, subst, arith, rules, nat_lt, slice_index, append_assoc}
use Rattle.std.proofs.lemmas.List.{reverse-append}
use Rattle.xf_types.specs.declared.policy.Policy.{Policy}
use Rattle.xf_chain.specs.Families.{Lays, IsOf, put_in}
use Rattle.xf_chain.specs.Lists.{Misses, Apart, Within}
use Rattle.xf_index.specs.Indexes.{slots_in, Indexed}
use Rattle.xf_index.proofs.Holds.{holds_at}
use Rattle.xf_index.proofs.Entries.{slots_append}
use Rattle.xf_index.proofs.Puts.{indexed_front}
use Rattle.xf_index.proofs.Stays.{indexed_apart}
use Rattle.xf_image.specs.declared.area.PolicyArea.{PolicyArea}
use Rattle.xf_image.specs.Layout.{Fits, order_of, back_of, exact_of, indices_of, record_at}
use Rattle.xf_image.specs.ExactKeys.{exact_key}
use Rattle.xf_image.specs.Policies.{everyone, index_key, ColumnsStand}
use Rattle.xf_image.specs.Writes.{moved_policy, moved, moved_all}
use Rattle.xf_image.specs.Frames.{Frame}
use Rattle.xf_image.proofs.Layouts.{order_lays, back_lays, exact_lays, indices_lays}
use Rattle.xf_image.proofs.Written.{both, outside, wider, nothing, put_frame}
use Rattle.xf_image.proofs.Bounds.{exact_is_of}
use Rattle.xf_image.proofs.Keeping.{columns_kept}
use Rattle.xf_image.proofs.Parts.{within_slot}

-- what one policy writes

policy_moved_frame : (a : PolicyArea) (h4 h6 : ℕ × ℕ) (image : List ℕ) (n slot : ℕ) (o : Option Policy) → Fits a n → slot < a.slots
    → Frame (a.base + 9 + 2 * a.slots) (a.base + 1033 + 3 * a.slots) image (moved_policy a h4 h6 image slot o)
policy_moved_frame a h4 h6 image n slot None fits below = nothing (a.base + 9 + 2 * a.slots) (a.base + 1033 + 3 * a.slots) image
policy_moved_frame a h4 h6 image n slot (Some r) fits below =
    wider (a.base + 9 + 2 * a.slots) (a.base + 1033 + 3 * a.slots) _ _ image (put_in (exact_of a) image (exact_key h4 h6 r) None slot)
    (put_frame (exact_of a) image n (exact_key h4 h6 r) None slot (exact_lays a n fits) (exact_is_of a h4 h6 r) (search rules) below)
    (omega arith) (omega arith)

pub moved_frame : (a : PolicyArea) (h4 h6 : ℕ × ℕ) (image : List ℕ) (n slot : ℕ) → Fits a n → slot < a.slots
    → Frame (a.base + 9 + 2 * a.slots) (a.base + 1033 + 3 * a.slots) image (moved a h4 h6 image slot)
moved_frame a h4 h6 image n slot fits below = policy_moved_frame a h4 h6 image n slot (record_at a image slot) fits below

pub moved_all_frame : (a : PolicyArea) (h4 h6 : ℕ × ℕ) (image : List ℕ) (n : ℕ) (slots : List ℕ) → Fits a n → Within a.slots slots
    → Frame (a.base + 9 + 2 * a.slots) (a.base + 1033 + 3 * a.slots) image (moved_all a h4 h6 image slots)
moved_all_frame a h4 h6 image n [] fits w = nothing (a.base + 9 + 2 * a.slots) (a.base + 1033 + 3 * a.slots) image
moved_all_frame a h4 h6 image n (s ∷ slots) fits w =
    both (a.base + 9 + 2 * a.slots) (a.base + 1033 + 3 * a.slots) _ _ _ _ image (moved a h4 h6 image s) (moved_all a h4 h6 (moved a h4 h6 image s) slots)
    (moved_frame a h4 h6 image n s fits w.0) (moved_all_frame a h4 h6 (moved a h4 h6 image s) n slots fits w.1)
    (omega arith) (omega arith) (omega arith) (omega arith)

-- Some policies, from one of the list on, stand in their new chains.
pub record Half (a : PolicyArea) (image : List ℕ) (h4 h6 : ℕ × ℕ) (done all : List (ℕ × Policy)) : Type 0 where
  pub order : Indexed (order_of a) image everyone all
  pub back : Indexed (back_of a) image everyone (reverse all)
  pub exact : Indexed (exact_of a) image (exact_key h4 h6) done
  pub indices : Indexed (indices_of a) image index_key all
  pub columns : ColumnsStand a image all
  pub size : ℕ
  pub long : length image ≡ size
  pub fits : Fits a size

-- what is written between the chain from the last one back and the chains by index leaves the rest
pub half_rest : (a : PolicyArea) (image words : List ℕ) (was4 was6 h4 h6 : ℕ × ℕ) (was done all : List (ℕ × Policy)) → length words ≡ length image
    → Within a.slots (slots_in all)
    → ((q : ℕ) → a.base + 7 ≤ q → (a.base + 9 + 2 * a.slots ≤ q → a.base + 1033 + 3 * a.slots ≤ q) → slice_index words q ≡ slice_index image q)
    → Half a image was4 was6 was all
    → Indexed (exact_of a) words (exact_key h4 h6) done
    → Half a words h4 h6 done all
half_rest a image words was4 was6 h4 h6 was done all le within f h exact = record {
  order = indexed_apart (order_of a) image words h.size everyone all (order_lays a h.size h.fits) (λ q l m. f q l (λ k. absurd (omega (arith, k, m)))) h.order;
  back = indexed_apart (back_of a) image words h.size everyone (reverse all) (back_lays a h.size h.fits) (λ q l m. f q (omega (arith, l)) (λ k. absurd (omega (arith, k, m)))) h.back;
  exact = exact;
  indices = indexed_apart (indices_of a) image words h.size index_key all (indices_lays a h.size h.fits) (λ q l m. f q (omega (arith, l)) (λ k. l)) h.indices;
  columns = columns_kept a image words all within (λ q l m. f q (omega (arith, l)) (λ k. omega (arith, l))) h.columns;
  size = h.size;
  long = le ∙ h.long;
  fits = h.fits;
}

half_step : (a : PolicyArea) (h4 h6 : ℕ × ℕ) (image : List ℕ) (front done : List (ℕ × Policy)) (slot : ℕ) (r : Policy)
    → Within a.slots (slots_in (front ++ ((slot, r) ∷ done))) → Misses slot (slots_in done) → Apart (slots_in done)
    → Half a image h4 h6 done (front ++ ((slot, r) ∷ done))
    → Half a (moved a h4 h6 image slot) h4 h6 ((slot, r) ∷ done) (front ++ ((slot, r) ∷ done))
half_step a h4 h6 image front done slot r within miss apart h =
    let all : List (ℕ × Policy) = front ++ ((slot, r) ∷ done) in
    let n : ℕ = h.size in
    let below : slot < a.slots = within_slot a.slots slot r front done within in
    let kb : Option ℕ = exact_key h4 h6 r in
    let le : Lays (exact_of a) n = exact_lays a n h.fits in
    let nb : IsOf (exact_of a) kb = exact_is_of a h4 h6 r in
    let i1 : List ℕ = put_in (exact_of a) image kb None slot in
    let f1 : Frame (a.base + 9 + 2 * a.slots) (a.base + 1033 + 2 * a.slots + a.slots) image i1 =
    put_frame (exact_of a) image n kb None slot le nb (search rules) below in
    let exact : Indexed (exact_of a) i1 (exact_key h4 h6) ((slot, r) ∷ done) =
    indexed_front (exact_of a) image (exact_key h4 h6) done slot r kb refl (subst (λ (k : ℕ). Lays (exact_of a) k) (sym h.long) le) below nb miss apart h.exact in
    let at : record_at a image slot ≡ Some r = holds_at (λ x. record_at a image x) (λ p. Some p) slot r front done h.columns.records in
    let we : moved a h4 h6 image slot ≡ i1 = ap (λ (o : Option Policy). moved_policy a h4 h6 image slot o) at in
    subst (λ (w : List ℕ). Half a w h4 h6 ((slot, r) ∷ done) all) (sym we)
    (half_rest a image i1 h4 h6 h4 h6 done ((slot, r) ∷ done) all f1.size within
    (λ q l o. outside (a.base + 9 + 2 * a.slots) (a.base + 1033 + 3 * a.slots) image i1 q (nat_lt q (a.base + 9 + 2 * a.slots)) refl
    (policy_moved_frame a h4 h6 image n slot (Some r) h.fits below) o) h exact)

-- all of them

pub turned : (e : ℕ × Policy) (todo done : List (ℕ × Policy)) → reverse (e ∷ todo) ++ done ≡ reverse todo ++ (e ∷ done)
turned e todo done =
    ap (λ (l : List (ℕ × Policy)). l ++ done) (reverse-append (e ∷ []) todo) ∙ append_assoc (reverse todo) (e ∷ []) done

pub apart_behind : (xs ys : List ℕ) → Apart (xs ++ ys) → Apart ys
apart_behind [] ys a = a
apart_behind (x ∷ xs) ys a = apart_behind xs ys a.1

pub all_moved : (a : PolicyArea) (h4 h6 : ℕ × ℕ) (image : List ℕ) (todo done all : List (ℕ × Policy)) → all ≡ reverse todo ++ done
    → Within a.slots (slots_in all) → Apart (slots_in all)
    → Half a image h4 h6 done all → Half a (moved_all a h4 h6 image (slots_in todo)) h4 h6 all all
all_moved a h4 h6 image [] done all e w d h = subst (λ (es : List (ℕ × Policy)). Half a image h4 h6 es all) (sym e) h
all_moved a h4 h6 image (x ∷ todo) done all e w d h =
    let same : all ≡ reverse todo ++ (x ∷ done) = e ∙ turned x todo done in
    let apart : Apart (slots_in (reverse todo ++ (x ∷ done))) = subst (λ (es : List (ℕ × Policy)). Apart (slots_in es)) same d in
    let behind : Apart (slots_in (x ∷ done)) =
    apart_behind (slots_in (reverse todo)) (slots_in (x ∷ done)) (subst (λ (xs : List ℕ). Apart xs) (slots_append (reverse todo) (x ∷ done)) apart) in
    let one : Half a (moved a h4 h6 image x.0) h4 h6 (x ∷ done) (reverse todo ++ (x ∷ done)) =
    half_step a h4 h6 image (reverse todo) done x.0 x.1 (subst (λ (es : List (ℕ × Policy)). Within a.slots (slots_in es)) same w) behind.0 behind.1
    (subst (λ (es : List (ℕ × Policy)). Half a image h4 h6 done es) same h) in
    all_moved a h4 h6 (moved a h4 h6 image x.0) todo (x ∷ done) all same w d
    (subst (λ (es : List (ℕ × Policy)). Half a (moved a h4 h6 image x.0) h4 h6 (x ∷ done) es) (sym same) one)
