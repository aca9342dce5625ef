-- A state that leaves, one area after another.
use Rattle.std.proofs.Common.{◌≡◌, ℕ, ◌+◌, ◌-◌, ◌<◌, ◌≤◌, List, ◌∷◌, ◌++◌, Some, length, refl, ap, sym, ◌∙◌, subst, arith, slice_index, length-append}
use Rattle.xf_types.specs.declared.state.Sa.{Sa}
use Rattle.xf_types.specs.Machine.{Shown}
use Rattle.xf_chain.specs.Chains.{slot_of, place_of}
use Rattle.xf_chain.specs.Families.{chain_at}
use Rattle.xf_chain.proofs.Walks.{slot_below}
use Rattle.xf_chain.specs.Lists.{Apart}
use Rattle.xf_index.specs.Indexes.{slots_in, records_in}
use Rattle.xf_index.proofs.Entries.{records_length, apart_taken, within_taken}
use Rattle.xf_index.proofs.Holds.{holds_taken}
use Rattle.xf_image.specs.Frames.{Frame}
use Rattle.xf_image.proofs.Written.{both}
use Rattle.xf_sadidx.specs.declared.area.StateArea.{StateArea}
use Rattle.xf_sadidx.specs.Layout.{Fits, end_of, order_of, back_of, doubling_place, chains_start, chains_end, record_at}
use Rattle.xf_sadidx.specs.Standing.{StatesIndexed, RecordsStand}
use Rattle.xf_resize.specs.Rooms.{buckets_in, pending_in, Suffices, StatesChained}
use Rattle.xf_resize.proofs.Staying.{records_kept}
use Rattle.xf_sadimage.specs.States.{StatesLinked, CountersStand, StatesStand}
use Rattle.xf_sadimage.specs.Writes.{before_in, after_in, cut_out}
use Rattle.xf_sadimage.proofs.Keeping.{linked_kept, chained_kept, doubling_kept, heads_kept}
use Rattle.xf_sadimage.proofs.Linking.{leaves_linked, cut_frame}
use Rattle.xf_sadlist.specs.Listed.{count_in, one_less, with_states}
use Rattle.xf_sadlist.proofs.Tallies.{count_is, less_frame, less_count}

-- what the steps write, one after another, from the words before to those after
pub record Steps (a : StateArea) (i j k l : List ℕ) (slot : ℕ) (s : Sa) : Type 0 where
  pub header : j ≡ one_less a i
  pub chains : k ≡ cut_out a j (before_in a i slot) (after_in a i slot) slot
  pub hashes : Frame (chains_start a) (chains_end a) k l
  pub indexed : (front back : List (ℕ × Sa)) → Apart (slots_in (front ++ ((slot, s) ∷ back))) → StatesIndexed a k (front ++ ((slot, s) ∷ back))
      → StatesIndexed a l (front ++ back)

pub one_more : (front back : List (ℕ × Sa)) (e : ℕ × Sa) → length (front ++ (e ∷ back)) ≡ length (front ++ back) + 1
one_more front back e = let m = length-append front (e ∷ back) in let n = length-append front back in omega (arith, m, n)

-- heads that suffice do so for one state less
suffices_less : (buckets pending count : ℕ) → Suffices buckets pending (count + 1) → Suffices buckets pending count
suffices_less buckets pending count s = record {
  heads = λ h. let k = s.heads h in omega (arith, k);
  left = λ h. let k = s.left h in omega (arith, k);
}

module _ (a : StateArea) (i j k l : List ℕ) (slot : ℕ) (s : Sa) (fits : Fits a (length i)) (steps : Steps a i j k l slot s) where
  frame1 : Frame (a.base + 2) (a.base + 3) i j
  frame1 = subst (λ (w : List ℕ). Frame (a.base + 2) (a.base + 3) i w) (sym steps.header) (less_frame a i)

  frame2 : Frame (a.base + 3) (doubling_place a) j k
  frame2 =
      subst (λ (w : List ℕ). Frame (a.base + 3) (doubling_place a) j w) (sym steps.chains)
      (cut_frame a j (length i) (before_in a i slot) (after_in a i slot) slot fits
      (slot_below a.slots (slice_index i (place_of (chain_at (back_of a) 0) slot)))
      (slot_below a.slots (slice_index i (place_of (chain_at (order_of a) 0) slot))))

  -- all that is written is in the area
  pub steps_frame : Frame a.base (end_of a) i l
  steps_frame =
      let one : Frame a.base (end_of a) i k = both a.base (end_of a) (a.base + 2) (a.base + 3) (a.base + 3) (doubling_place a) i j k frame1 frame2 (omega arith) (omega arith) (omega arith) (omega arith) in
      both a.base (end_of a) a.base (chains_start a) (end_of a) (chains_end a) i k l one steps.hashes (omega arith) (omega arith) (omega arith) (omega arith)

  module _ (shown : Shown) (front back : List (ℕ × Sa)) (st : StatesStand a i shown (front ++ ((slot, s) ∷ back))) where
    fits1 : Fits a (length j)
    fits1 = subst (λ (x : ℕ). Fits a x) (sym frame1.size) fits

    -- the words from the chains of all on, before those are cut
    beyond : (q : ℕ) → a.base + 3 ≤ q → slice_index j q ≡ slice_index i q
    beyond q h = let f = frame1 in f.above q h

    links : StatesLinked a l (front ++ back)
    links =
        let chained = st.chained in
        let h = steps.hashes in
        let there : StatesLinked a j (front ++ ((slot, s) ∷ back)) =
        linked_kept a i j (length i) (front ++ ((slot, s) ∷ back)) fits (λ q m n. beyond q m) st.linked in
        let before : before_in a j slot ≡ before_in a i slot = ap (λ w. slot_of a.slots w) (beyond (place_of (chain_at (back_of a) 0) slot) (omega arith)) in
        let after : after_in a j slot ≡ after_in a i slot = ap (λ w. slot_of a.slots w) (beyond (place_of (chain_at (order_of a) 0) slot) (omega arith)) in
        let cut : StatesLinked a k (front ++ back) =
        subst (λ (w : List ℕ). StatesLinked a w (front ++ back))
        (ap (λ o. cut_out a j o (after_in a j slot) slot) before ∙ ap (λ o. cut_out a j (before_in a i slot) o slot) after ∙ sym steps.chains)
        (leaves_linked a j front back slot s fits1 chained.apart there) in
        linked_kept a k l (length i) (front ++ back) fits (λ q m n. h.below q (omega (arith, n))) cut

    still : (q : ℕ) → doubling_place a ≤ q → slice_index k q ≡ slice_index i q
    still q h = let f = frame2 in f.above q h ∙ beyond q (omega (arith, h))

    -- before the state leaves the chains by hash
    ready : StatesChained a k (front ++ ((slot, s) ∷ back))
    ready = chained_kept a i k (length i) (front ++ ((slot, s) ∷ back)) fits (λ q m n. still q m) st.chained

    chains : StatesChained a l (front ++ back)
    chains =
        let here : RecordsStand a l (front ++ ((slot, s) ∷ back)) =
        records_kept a k l (chains_start a) (front ++ ((slot, s) ∷ back)) steps.hashes ready.within ready.records in
        record {
          indexed = steps.indexed front back ready.apart ready.indexed;
          records = holds_taken (λ x. record_at a l x) (λ r. Some r) slot s front back here;
          apart = apart_taken front back slot s ready.apart;
          within = within_taken a.slots front back slot s ready.within;
        }

    enough : Suffices (buckets_in a l) (pending_in a l) (length (front ++ back))
    enough =
        let h = steps.hashes in
        let same : Suffices (buckets_in a l) (pending_in a l) (length (front ++ ((slot, s) ∷ back))) =
        heads_kept a i l (length (front ++ ((slot, s) ∷ back))) (doubling_kept a i l (λ q m n. h.below q (omega (arith, n)) ∙ still q m)) st.heads in
        suffices_less (buckets_in a l) (pending_in a l) (length (front ++ back))
        (subst (λ (n : ℕ). Suffices (buckets_in a l) (pending_in a l) n) (one_more front back (slot, s)) same)

    counters : CountersStand a l (with_states shown (records_in (front ++ back)))
    counters =
        let h = steps.hashes in
        let f = frame2 in
        let g = frame1 in
        let was = st.counters in
        let low : (q : ℕ) → q < a.base + 3 → slice_index l q ≡ slice_index j q = λ q m. h.below q (omega (arith, m)) ∙ f.below q m in
        let n : count_in a i ≡ length (front ++ ((slot, s) ∷ back)) = count_is a i shown (front ++ ((slot, s) ∷ back)) st in
        let m = one_more front back (slot, s) in
        let left : count_in a i - 1 ≡ length (front ++ back) = omega (arith, n, m) in
        record {
          next_seq = ap (λ x. x + 1) (low a.base (omega arith) ∙ g.below a.base (omega arith)) ∙ was.next_seq;
          next_sid = ap (λ x. x + 1) (low (a.base + 1) (omega arith) ∙ g.below (a.base + 1) (omega arith)) ∙ was.next_sid;
          count = low (a.base + 2) (omega arith) ∙ ap (λ w. slice_index w (a.base + 2)) steps.header ∙ less_count a i fits ∙ left ∙ sym (records_length (front ++ back));
        }

    pub steps_stand : StatesStand a l (with_states shown (records_in (front ++ back))) (front ++ back)
    steps_stand = record {
      listed = refl;
      linked = links;
      chained = chains;
      heads = enough;
      counters = counters;
      room = st.room;
    }
