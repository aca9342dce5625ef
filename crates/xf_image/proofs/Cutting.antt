-- A slot was taken out of its four chains.
use Rattle.std.proofs.Common.{◌≡◌, ℕ, ◌+◌, ◌*◌, List, ◌∷◌, ◌++◌, Some, length, refl, ap, ◌∙◌, arith}
use Rattle.xf_types.specs.declared.policy.Policy.{Policy}
use Rattle.xf_chain.specs.Families.{Lays, taken_out}
use Rattle.xf_chain.specs.Lists.{Apart}
use Rattle.xf_index.specs.Indexes.{slots_in}
use Rattle.xf_image.specs.declared.area.PolicyArea.{PolicyArea}
use Rattle.xf_image.specs.declared.places.Places.{Places}
use Rattle.xf_image.specs.Layout.{Fits, order_of, back_of, exact_of, indices_of}
use Rattle.xf_image.specs.ExactKeys.{exact_key}
use Rattle.xf_image.specs.Policies.{everyone, index_key, LinksStand}
use Rattle.xf_image.specs.Placing.{ArePlaces}
use Rattle.xf_image.specs.Writes.{cut_out}
use Rattle.xf_image.specs.Frames.{Frame}
use Rattle.xf_image.proofs.Layouts.{order_lays, back_lays, exact_lays, indices_lays}
use Rattle.xf_image.proofs.Written.{both, taken_frame}
use Rattle.xf_image.proofs.Steps.{link_taken, turned_taken}
use Rattle.xf_image.proofs.Linking.{PlacesAre}

pub cut_links : (a : PolicyArea) (i : List ℕ) (n : ℕ) (h4 h6 : ℕ × ℕ) (p : Places) (slot : ℕ) (r : Policy) (front back : List (ℕ × Policy))
    → Fits a n → length i ≡ n → ArePlaces a p → PlacesAre h4 h6 p r front back
    → Apart (slots_in (front ++ ((slot, r) ∷ back)))
    → LinksStand a i h4 h6 (front ++ ((slot, r) ∷ back)) → LinksStand a (cut_out a i p slot) h4 h6 (front ++ back)
cut_links a i n h4 h6 p slot r front back fits e places are apart s =
    let b0 : ℕ = a.base + 7 in
    let b1 : ℕ = a.base + 8 + a.slots in
    let b2 : ℕ = a.base + 9 + 2 * a.slots in
    let b3 : ℕ = a.base + 1033 + 3 * a.slots in
    let b4 : ℕ = a.base + 2057 + 4 * a.slots in
    let lo : Lays (order_of a) n = order_lays a n fits in
    let lb : Lays (back_of a) n = back_lays a n fits in
    let le : Lays (exact_of a) n = exact_lays a n fits in
    let li : Lays (indices_of a) n = indices_lays a n fits in
    let i1 : List ℕ = taken_out (order_of a) i (Some 0) p.order slot in
    let i2 : List ℕ = taken_out (back_of a) i1 (Some 0) p.back slot in
    let i3 : List ℕ = taken_out (exact_of a) i2 p.bucket p.exact slot in
    let i4 : List ℕ = taken_out (indices_of a) i3 (Some p.row) p.indices slot in
    let s1 : Frame b0 b1 i i1 = taken_frame (order_of a) i n (Some 0) p.order slot lo (omega arith) places.order in
    let s2 : Frame b1 (a.base + 9 + a.slots + a.slots) i1 i2 = taken_frame (back_of a) i1 n (Some 0) p.back slot lb (omega arith) places.back in
    let s3 : Frame b2 (a.base + 1033 + 2 * a.slots + a.slots) i2 i3 =
    taken_frame (exact_of a) i2 n p.bucket p.exact slot le places.bucket places.exact in
    let s4 : Frame b3 (a.base + 2057 + 3 * a.slots + a.slots) i3 i4 =
    taken_frame (indices_of a) i3 n (Some p.row) p.indices slot li places.row places.indices in
    let u2 : Frame b0 b2 i i2 = both b0 b2 _ _ _ _ i i1 i2 s1 s2 (omega arith) (omega arith) (omega arith) (omega arith) in
    let u3 : Frame b0 b3 i i3 = both b0 b3 _ _ _ _ i i2 i3 u2 s3 (omega arith) (omega arith) (omega arith) (omega arith) in
    let d2 : Frame b2 b4 i2 i4 = both b2 b4 _ _ _ _ i2 i3 i4 s3 s4 (omega arith) (omega arith) (omega arith) (omega arith) in
    let d1 : Frame b1 b4 i1 i4 = both b1 b4 _ _ _ _ i1 i2 i4 s2 d2 (omega arith) (omega arith) (omega arith) (omega arith) in
    record {
      order = link_taken (order_of a) i i i4 n everyone front back slot r (Some 0) p.order lo e (λ q h l. refl) (λ q h l. d1.below q l)
          refl are.order (omega arith) apart s.order;
      back = turned_taken (back_of a) i i1 i4 n everyone front back slot r (Some 0) p.back lb (s1.size ∙ e) (λ q h l. s1.above q h) (λ q h l. d2.below q (omega (arith, l)))
          refl are.back_ (omega arith) apart s.back;
      exact = link_taken (exact_of a) i i2 i4 n (exact_key h4 h6) front back slot r p.bucket p.exact le (u2.size ∙ e) (λ q h l. u2.above q h) (λ q h l. s4.below q (omega (arith, l)))
          are.bucket are.exact places.bucket apart s.exact;
      indices = link_taken (indices_of a) i i3 i4 n index_key front back slot r (Some p.row) p.indices li (u3.size ∙ e) (λ q h l. u3.above q h) (λ q h l. refl)
          (ap (λ (k : ℕ). Some k) are.row) are.indices places.row apart s.indices;
    }

pub cut_frame : (a : PolicyArea) (i : List ℕ) (n : ℕ) (p : Places) (slot : ℕ) → Fits a n → ArePlaces a p
    → Frame (a.base + 7) (a.base + 2057 + 4 * a.slots) i (cut_out a i p slot)
cut_frame a i n p slot fits places =
    let first : ℕ = a.base + 7 in
    let last : ℕ = a.base + 2057 + 4 * a.slots in
    let i1 : List ℕ = taken_out (order_of a) i (Some 0) p.order slot in
    let i2 : List ℕ = taken_out (back_of a) i1 (Some 0) p.back slot in
    let i3 : List ℕ = taken_out (exact_of a) i2 p.bucket p.exact slot in
    let i4 : List ℕ = taken_out (indices_of a) i3 (Some p.row) p.indices slot in
    let w2 : Frame first last i i2 = both first last _ _ _ _ i i1 i2
    (taken_frame (order_of a) i n (Some 0) p.order slot (order_lays a n fits) (omega arith) places.order)
    (taken_frame (back_of a) i1 n (Some 0) p.back slot (back_lays a n fits) (omega arith) places.back)
    (omega arith) (omega arith) (omega arith) (omega arith) in
    let w3 : Frame first last i i3 = both first last _ _ _ _ i i2 i3 w2
    (taken_frame (exact_of a) i2 n p.bucket p.exact slot (exact_lays a n fits) places.bucket places.exact)
    (omega arith) (omega arith) (omega arith) (omega arith) in
    both first last _ _ _ _ i i3 i4 w3
    (taken_frame (indices_of a) i3 n (Some p.row) p.indices slot (indices_lays a n fits) places.row places.indices)
    (omega arith) (omega arith) (omega arith) (omega arith)
