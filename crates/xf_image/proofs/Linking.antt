-- A slot was put into its four chains.
use Rattle.std.proofs.Common.{◌≡◌, ℕ, ◌+◌, ◌*◌, ◌<◌, List, ◌∷◌, ◌++◌, Some, length, refl, ap, ◌∙◌, arith}
use Rattle.xf_types.specs.declared.policy.Policy.{Policy}
use Rattle.xf_chain.specs.Families.{Lays, put_in}
use Rattle.xf_chain.specs.Lists.{Misses, Apart, first_of, last_of}
use Rattle.xf_index.specs.Indexes.{slots_in, picked_of}
use Rattle.xf_image.specs.declared.area.PolicyArea.{PolicyArea}
use Rattle.xf_image.specs.declared.places.Places.{Places}
use Rattle.xf_image.specs.Layout.{Fits, order_of, back_of, exact_of, indices_of}
use Rattle.xf_image.specs.ExactKeys.{exact_key}
use Rattle.xf_image.specs.Policies.{everyone, index_key, LinksStand}
use Rattle.xf_image.specs.Placing.{row_of, ArePlaces}
use Rattle.xf_image.specs.Writes.{linked}
use Rattle.xf_image.specs.Frames.{Frame}
use Rattle.xf_image.proofs.Layouts.{order_lays, back_lays, exact_lays, indices_lays}
use Rattle.xf_image.proofs.Written.{both, put_frame}
use Rattle.xf_image.proofs.Steps.{link_put, turned_put}

-- Places are those of a policy between two parts of the entries.
pub record PlacesAre (h4 h6 : ℕ × ℕ) (p : Places) (r : Policy) (front back : List (ℕ × Policy)) : Type 0 where
  pub order : p.order ≡ last_of (picked_of everyone (Some 0) front)
  pub back_ : p.back ≡ first_of (picked_of everyone (Some 0) back)
  pub bucket : exact_key h4 h6 r ≡ p.bucket
  pub exact : p.exact ≡ last_of (picked_of (exact_key h4 h6) p.bucket front)
  pub row : row_of r ≡ p.row
  pub indices : p.indices ≡ last_of (picked_of index_key (Some p.row) front)

pub linked_frame : (a : PolicyArea) (i : List ℕ) (n : ℕ) (p : Places) (slot : ℕ) → Fits a n → ArePlaces a p → slot < a.slots
    → Frame (a.base + 7) (a.base + 2057 + 4 * a.slots) i (linked a i p slot)
linked_frame a i n p slot fits places below =
    let first : ℕ = a.base + 7 in
    let last : ℕ = a.base + 2057 + 4 * a.slots in
    let i1 : List ℕ = put_in (order_of a) i (Some 0) p.order slot in
    let i2 : List ℕ = put_in (back_of a) i1 (Some 0) p.back slot in
    let i3 : List ℕ = put_in (exact_of a) i2 p.bucket p.exact slot in
    let i4 : List ℕ = put_in (indices_of a) i3 (Some p.row) p.indices slot in
    let w2 : Frame first last i i2 = both first last _ _ _ _ i i1 i2
    (put_frame (order_of a) i n (Some 0) p.order slot (order_lays a n fits) (omega arith) places.order below)
    (put_frame (back_of a) i1 n (Some 0) p.back slot (back_lays a n fits) (omega arith) places.back below)
    (omega arith) (omega arith) (omega arith) (omega arith) in
    let w3 : Frame first last i i3 = both first last _ _ _ _ i i2 i3 w2
    (put_frame (exact_of a) i2 n p.bucket p.exact slot (exact_lays a n fits) places.bucket places.exact below)
    (omega arith) (omega arith) (omega arith) (omega arith) in
    both first last _ _ _ _ i i3 i4 w3
    (put_frame (indices_of a) i3 n (Some p.row) p.indices slot (indices_lays a n fits) places.row places.indices below)
    (omega arith) (omega arith) (omega arith) (omega arith)

pub linked_links : (a : PolicyArea) (i : List ℕ) (n : ℕ) (h4 h6 : ℕ × ℕ) (p : Places) (slot : ℕ) (r : Policy) (front back : List (ℕ × Policy))
    → Fits a n → length i ≡ n → ArePlaces a p → slot < a.slots → PlacesAre h4 h6 p r front back
    → Misses slot (slots_in (front ++ back)) → Apart (slots_in (front ++ back))
    → LinksStand a i h4 h6 (front ++ back) → LinksStand a (linked a i p slot) h4 h6 (front ++ ((slot, r) ∷ back))
linked_links a i n h4 h6 p slot r front back fits e places below are miss apart s =
    let b0 : ℕ = a.base + 7 in
    let b1 : ℕ = a.base + 8 + a.slots in
    let b2 : ℕ = a.base + 9 + 2 * a.slots in
    let b3 : ℕ = a.base + 1033 + 3 * a.slots in
    let b4 : ℕ = a.base + 2057 + 4 * a.slots in
    let lo : Lays (order_of a) n = order_lays a n fits in
    let lb : Lays (back_of a) n = back_lays a n fits in
    let le : Lays (exact_of a) n = exact_lays a n fits in
    let li : Lays (indices_of a) n = indices_lays a n fits in
    let i1 : List ℕ = put_in (order_of a) i (Some 0) p.order slot in
    let i2 : List ℕ = put_in (back_of a) i1 (Some 0) p.back slot in
    let i3 : List ℕ = put_in (exact_of a) i2 p.bucket p.exact slot in
    let i4 : List ℕ = put_in (indices_of a) i3 (Some p.row) p.indices slot in
    let s1 : Frame b0 b1 i i1 = put_frame (order_of a) i n (Some 0) p.order slot lo (omega arith) places.order below in
    let s2 : Frame b1 (a.base + 9 + a.slots + a.slots) i1 i2 = put_frame (back_of a) i1 n (Some 0) p.back slot lb (omega arith) places.back below in
    let s3 : Frame b2 (a.base + 1033 + 2 * a.slots + a.slots) i2 i3 =
    put_frame (exact_of a) i2 n p.bucket p.exact slot le places.bucket places.exact below in
    let s4 : Frame b3 (a.base + 2057 + 3 * a.slots + a.slots) i3 i4 =
    put_frame (indices_of a) i3 n (Some p.row) p.indices slot li places.row places.indices below in
    let u2 : Frame b0 b2 i i2 = both b0 b2 _ _ _ _ i i1 i2 s1 s2 (omega arith) (omega arith) (omega arith) (omega arith) in
    let u3 : Frame b0 b3 i i3 = both b0 b3 _ _ _ _ i i2 i3 u2 s3 (omega arith) (omega arith) (omega arith) (omega arith) in
    let d2 : Frame b2 b4 i2 i4 = both b2 b4 _ _ _ _ i2 i3 i4 s3 s4 (omega arith) (omega arith) (omega arith) (omega arith) in
    let d1 : Frame b1 b4 i1 i4 = both b1 b4 _ _ _ _ i1 i2 i4 s2 d2 (omega arith) (omega arith) (omega arith) (omega arith) in
    record {
      order = link_put (order_of a) i i i4 n everyone front back slot r (Some 0) p.order lo e (λ q h l. refl) (λ q h l. d1.below q l)
          refl are.order below (omega arith) miss apart s.order;
      back = turned_put (back_of a) i i1 i4 n everyone front back slot r (Some 0) p.back lb (s1.size ∙ e) (λ q h l. s1.above q h) (λ q h l. d2.below q (omega (arith, l)))
          refl are.back_ below (omega arith) miss apart s.back;
      exact = link_put (exact_of a) i i2 i4 n (exact_key h4 h6) front back slot r p.bucket p.exact le (u2.size ∙ e) (λ q h l. u2.above q h) (λ q h l. s4.below q (omega (arith, l)))
          are.bucket are.exact below places.bucket miss apart s.exact;
      indices = link_put (indices_of a) i i3 i4 n index_key front back slot r (Some p.row) p.indices li (u3.size ∙ e) (λ q h l. u3.above q h) (λ q h l. refl)
          (ap (λ (k : ℕ). Some k) are.row) are.indices below places.row miss apart s.indices;
    }
