-- A state comes into the chains of all, or leaves them.
use Rattle.std.proofs.Common.{◌≡◌, ℕ, ◌+◌, ◌*◌, ◌<◌, ◌≤◌, List, [], ◌∷◌, ◌++◌, Option, None, Some, length, reverse, refl, sym, subst, arith, rules, slice_index}
use Rattle.xf_types.specs.declared.state.Sa.{Sa}
use Rattle.xf_chain.specs.Chains.{Below, place_of}
use Rattle.xf_chain.specs.Families.{chain_at, put_in, taken_out}
use Rattle.xf_chain.specs.Lists.{Misses, Apart, first_of, last_of}
use Rattle.xf_chain.proofs.Walks.{slot_below}
use Rattle.xf_index.specs.Indexes.{slots_in, picked, Indexed}
use Rattle.xf_index.proofs.Entries.{slots_reverse}
use Rattle.xf_index.proofs.Latest.{latest_put, back_taken}
use Rattle.xf_index.proofs.Neighbours.{last_picked_back, next_picked, before_picked}
use Rattle.xf_index.proofs.Puts.{indexed_end}
use Rattle.xf_index.proofs.Takes.{indexed_taken}
use Rattle.xf_index.proofs.Turned.{misses_reverse, apart_reverse}
use Rattle.xf_index.proofs.Stays.{indexed_apart}
use Rattle.xf_image.specs.Frames.{Frame}
use Rattle.xf_image.proofs.Written.{both, put_frame, taken_frame}
use Rattle.xf_sadidx.specs.declared.area.StateArea.{StateArea}
use Rattle.xf_sadidx.specs.Layout.{Fits, order_of, back_of, doubling_place}
use Rattle.xf_sadidx.proofs.Layouts.{order_lays, back_lays}
use Rattle.xf_sadimage.specs.States.{everyone, StatesLinked}
use Rattle.xf_sadimage.specs.Writes.{last_in, before_in, after_in, linked, cut_out}

-- the order was written, and then the chain from the last one back
both_linked : (a : StateArea) (i j k : List ℕ) (entries : List (ℕ × Sa)) (size : ℕ) → Fits a size
    → Frame (back_of a).heads ((back_of a).links + (back_of a).slots) j k
    → Indexed (order_of a) j everyone entries → Indexed (back_of a) k everyone (reverse entries) → StatesLinked a k entries
both_linked a i j k entries size fits frame order back = record {
  order = indexed_apart (order_of a) j k size everyone entries (order_lays a size fits) (λ q h l. frame.below q (omega (arith, l))) order;
  back = back;
}

-- only the words of these two chains are written
pub linked_frame : (a : StateArea) (image : List ℕ) (size : ℕ) (after : Option ℕ) (slot : ℕ) → Fits a size → slot < a.slots → Below a.slots after
    → Frame (a.base + 3) (doubling_place a) image (linked a image after slot)
linked_frame a image size after slot fits below b =
    let some : 0 < 1 = omega arith in
    let j : List ℕ = put_in (order_of a) image (Some 0) after slot in
    both (a.base + 3) (doubling_place a) _ _ _ _ image j (linked a image after slot)
    (put_frame (order_of a) image size (Some 0) after slot (order_lays a size fits) some b below)
    (put_frame (back_of a) j size (Some 0) None slot (back_lays a size fits) some (search rules) below) (omega arith) (omega arith) (omega arith) (omega arith)

pub cut_frame : (a : StateArea) (image : List ℕ) (size : ℕ) (before after : Option ℕ) (slot : ℕ) → Fits a size → Below a.slots before → Below a.slots after
    → Frame (a.base + 3) (doubling_place a) image (cut_out a image before after slot)
cut_frame a image size before after slot fits b c =
    let some : 0 < 1 = omega arith in
    let j : List ℕ = taken_out (order_of a) image (Some 0) before slot in
    both (a.base + 3) (doubling_place a) _ _ _ _ image j (cut_out a image before after slot)
    (taken_frame (order_of a) image size (Some 0) before slot (order_lays a size fits) some b)
    (taken_frame (back_of a) j size (Some 0) after slot (back_lays a size fits) some c) (omega arith) (omega arith) (omega arith) (omega arith)

pub comes_linked : (a : StateArea) (image : List ℕ) (entries : List (ℕ × Sa)) (slot : ℕ) (s : Sa)
    → Fits a (length image) → slot < a.slots → Misses slot (slots_in entries) → Apart (slots_in entries)
    → StatesLinked a image entries → StatesLinked a (linked a image (last_in a image) slot) (entries ++ ((slot, s) ∷ []))
comes_linked a image entries slot s fits below miss apart st =
    let n : ℕ = length image in
    let some : 0 < 1 = omega arith in
    let place : last_in a image ≡ last_of (picked everyone 0 entries) = last_picked_back (back_of a) image everyone 0 entries some st.back in
    let j : List ℕ = put_in (order_of a) image (Some 0) (last_in a image) slot in
    let frame : Frame (order_of a).heads ((order_of a).links + (order_of a).slots) image j =
    put_frame (order_of a) image n (Some 0) (last_in a image) slot (order_lays a n fits) some (slot_below a.slots (slice_index image (chain_at (back_of a) 0).head)) below in
    let size = frame.size in
    let fit : Fits a (length j) = subst (λ (m : ℕ). Fits a m) (sym frame.size) fits in
    let order : Indexed (order_of a) j everyone (entries ++ ((slot, s) ∷ [])) =
    subst (λ (o : Option ℕ). Indexed (order_of a) (put_in (order_of a) image (Some 0) o slot) everyone (entries ++ ((slot, s) ∷ []))) (sym place)
    (indexed_end (order_of a) image everyone entries slot s (Some 0) refl (order_lays a n fits) below some miss apart st.order) in
    let still : Indexed (back_of a) j everyone (reverse entries) =
    indexed_apart (back_of a) image j n everyone (reverse entries) (back_lays a n fits) (λ q h l. frame.above q (omega (arith, h))) st.back in
    let turned = slots_reverse entries in
    let back : Indexed (back_of a) (put_in (back_of a) j (Some 0) None slot) everyone (reverse (entries ++ ((slot, s) ∷ []))) =
    latest_put (back_of a) j everyone entries slot s (back_lays a (length j) fit) below some
    (subst (λ (xs : List ℕ). Misses slot xs) (sym turned) (misses_reverse slot (slots_in entries) miss))
    (subst (λ (xs : List ℕ). Apart xs) (sym turned) (apart_reverse (slots_in entries) apart)) still in
    both_linked a image j (put_in (back_of a) j (Some 0) None slot) (entries ++ ((slot, s) ∷ [])) n fits
    (put_frame (back_of a) j n (Some 0) None slot (back_lays a n fits) some (search rules) below) order back

pub leaves_linked : (a : StateArea) (image : List ℕ) (front back : List (ℕ × Sa)) (slot : ℕ) (s : Sa)
    → Fits a (length image) → Apart (slots_in (front ++ ((slot, s) ∷ back)))
    → StatesLinked a image (front ++ ((slot, s) ∷ back))
    → StatesLinked a (cut_out a image (before_in a image slot) (after_in a image slot) slot) (front ++ back)
leaves_linked a image front back slot s fits apart st =
    let n : ℕ = length image in
    let some : 0 < 1 = omega arith in
    let before : before_in a image slot ≡ last_of (picked everyone 0 front) = before_picked (back_of a) image everyone 0 front back slot s some refl st.back in
    let after : after_in a image slot ≡ first_of (picked everyone 0 back) = next_picked (order_of a) image everyone 0 front back slot s some refl st.order in
    let j : List ℕ = taken_out (order_of a) image (Some 0) (before_in a image slot) slot in
    let frame : Frame (order_of a).heads ((order_of a).links + (order_of a).slots) image j =
    taken_frame (order_of a) image n (Some 0) (before_in a image slot) slot (order_lays a n fits) some (slot_below a.slots (slice_index image (place_of (chain_at (back_of a) 0) slot))) in
    let fit : Fits a (length j) = subst (λ (m : ℕ). Fits a m) (sym frame.size) fits in
    let order : Indexed (order_of a) j everyone (front ++ back) =
    subst (λ (o : Option ℕ). Indexed (order_of a) (taken_out (order_of a) image (Some 0) o slot) everyone (front ++ back)) (sym before)
    (indexed_taken (order_of a) image everyone front back slot s (Some 0) refl (order_lays a n fits) some apart st.order) in
    let still : Indexed (back_of a) j everyone (reverse (front ++ ((slot, s) ∷ back))) =
    indexed_apart (back_of a) image j n everyone (reverse (front ++ ((slot, s) ∷ back))) (back_lays a n fits) (λ q h l. frame.above q (omega (arith, h))) st.back in
    let last : Indexed (back_of a) (taken_out (back_of a) j (Some 0) (after_in a image slot) slot) everyone (reverse (front ++ back)) =
    subst (λ (o : Option ℕ). Indexed (back_of a) (taken_out (back_of a) j (Some 0) o slot) everyone (reverse (front ++ back))) (sym after)
    (back_taken (back_of a) j everyone front back slot s (Some 0) refl (back_lays a (length j) fit) some apart still) in
    both_linked a image j (taken_out (back_of a) j (Some 0) (after_in a image slot) slot) (front ++ back) n fits
    (taken_frame (back_of a) j n (Some 0) (after_in a image slot) slot (back_lays a n fits) some (slot_below a.slots (slice_index image (place_of (chain_at (order_of a) 0) slot)))) order last
