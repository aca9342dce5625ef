-- A state that is listed last, one area after another.
use Rattle.std.proofs.Common.{◌≡◌, ◌≢◌, ℕ, ◌+◌, ◌<◌, ◌≤◌, ◌⊎◌, inl, inr, List, [], ◌∷◌, ◌++◌, Some, length, refl, ap, sym, ◌∙◌, subst, arith, rules, append-nil, slice_index}
use Rattle.xf_types.specs.declared.state.Sa.{Sa}
use Rattle.xf_types.specs.Machine.{Shown}
use Rattle.xf_chain.specs.Families.{chain_at}
use Rattle.xf_chain.specs.Chains.{Below, slot_of}
use Rattle.xf_chain.proofs.Walks.{slot_below}
use Rattle.xf_chain.specs.Lists.{Misses, Apart, Within}
use Rattle.xf_index.specs.Indexes.{slots_in}
use Rattle.xf_index.proofs.Entries.{records_append, records_length, apart_put, within_put}
use Rattle.xf_index.proofs.Holds.{holds_same}
use Rattle.xf_records.specs.States.{state_at}
use Rattle.xf_records.proofs.StateLaws.{state_frame}
use Rattle.xf_doubling.proofs.Numbers.{below_or}
use Rattle.xf_image.specs.Frames.{Frame}
use Rattle.xf_image.proofs.Written.{both}
use Rattle.xf_sadidx.specs.declared.area.StateArea.{StateArea}
use Rattle.xf_sadidx.specs.Layout.{Fits, end_of, back_of, doubling_place, chains_start, chains_end, record_place, record_at}
use Rattle.xf_sadidx.specs.Standing.{StatesIndexed, RecordsStand}
use Rattle.xf_sadidx.proofs.Reverses.{holds_append}
use Rattle.xf_resize.specs.Rooms.{buckets_in, pending_in, Suffices, StatesChained}
use Rattle.xf_resize.proofs.Staying.{records_kept}
use Rattle.xf_sadimage.specs.States.{StatesLinked, CountersStand, StatesStand}
use Rattle.xf_sadimage.specs.Writes.{last_in, linked}
use Rattle.xf_sadimage.proofs.Keeping.{linked_kept, chained_kept, doubling_kept, heads_kept, index_same}
use Rattle.xf_sadimage.proofs.Linking.{comes_linked, linked_frame}
use Rattle.xf_sadlist.specs.Listed.{count_in, tallied, with_state}
use Rattle.xf_sadlist.proofs.Tallies.{count_is, tallied_frame, tallied_seq, tallied_sid, tallied_count}

-- what the steps write, one after another, from the words before to those after
pub record Steps (a : StateArea) (i j k l m n : List ℕ) (slot : ℕ) (s : Sa) : Type 0 where
  pub header : j ≡ tallied a i s.sid (count_in a i + 1)
  pub chains : k ≡ linked a j (last_in a i) slot
  pub room : Frame (doubling_place a) (chains_end a) k l
  pub suffices : Suffices (buckets_in a k) (pending_in a k) (count_in a i) → Suffices (buckets_in a l) (pending_in a l) (count_in a i + 1)
  pub roomy : (es : List (ℕ × Sa)) → StatesChained a k es → StatesChained a l es
  pub hashes : Frame (chains_start a) (chains_end a) l m
  pub indexed : (es : List (ℕ × Sa)) → Misses slot (slots_in es) → Apart (slots_in es) → StatesIndexed a l es → StatesIndexed a m (es ++ ((slot, s) ∷ []))
  pub size : length n ≡ length m
  pub below : (q : ℕ) → q < record_place a slot → slice_index n q ≡ slice_index m q
  pub above : (q : ℕ) → record_place a slot + 46 ≤ q → slice_index n q ≡ slice_index m q
  pub back : state_at n (record_place a slot) ≡ Some s

pub either_side : (x y : ℕ) → x ≢ y → (x < y) ⊎ (y < x)
either_side x y d = by (below_or x y)
  where
    by : ((x < y) ⊎ (y ≤ x)) → (x < y) ⊎ (y < x)
    by (inl l) = inl l
    by (inr g) = inr (omega (arith, g, d))

-- the records of other slots lie elsewhere
pub others : (a : StateArea) (m n : List ℕ) (slot other : ℕ) → ((q : ℕ) → q < record_place a slot → slice_index n q ≡ slice_index m q)
    → ((q : ℕ) → record_place a slot + 46 ≤ q → slice_index n q ≡ slice_index m q) → ((other < slot) ⊎ (slot < other))
    → record_at a n other ≡ record_at a m other
others a m n slot other below above (inl l) = state_frame m n (record_place a other) (λ q h k. below q (omega (arith, k, l)))
others a m n slot other below above (inr l) = state_frame m n (record_place a other) (λ q h k. above q (omega (arith, h, l)))

module _ (a : StateArea) (i j k l m n : List ℕ) (slot : ℕ) (s : Sa) (fits : Fits a (length i)) (inside : slot < a.slots) (steps : Steps a i j k l m n slot s) where
  frame1 : Frame a.base (a.base + 3) i j
  frame1 = subst (λ (w : List ℕ). Frame a.base (a.base + 3) i w) (sym steps.header) (tallied_frame a i s.sid (count_in a i + 1))

  frame2 : Frame (a.base + 3) (doubling_place a) j k
  frame2 = subst (λ (w : List ℕ). Frame (a.base + 3) (doubling_place a) j w) (sym steps.chains) (linked_frame a j (length i) (last_in a i) slot fits inside (last_below a i))
    where
      last_below : (a : StateArea) (i : List ℕ) → Below a.slots (last_in a i)
      last_below a i = slot_below a.slots (slice_index i (chain_at (back_of a) 0).head)

  frame5 : Frame (record_place a slot) (record_place a slot + 46) m n
  frame5 = record { size = steps.size; below = steps.below; above = steps.above }

  -- all that is written is in the area
  pub steps_frame : Frame a.base (end_of a) i n
  steps_frame =
      let one : Frame a.base (end_of a) i k = both a.base (end_of a) a.base (a.base + 3) (a.base + 3) (doubling_place a) i j k frame1 frame2 (omega arith) (omega arith) (omega arith) (omega arith) in
      let two : Frame a.base (end_of a) i l = both a.base (end_of a) a.base (doubling_place a) (end_of a) (chains_end a) i k l one steps.room (omega arith) (omega arith) (omega arith) (omega arith) in
      let three : Frame a.base (end_of a) i m = both a.base (end_of a) a.base (chains_start a) (end_of a) (chains_end a) i l m two steps.hashes (omega arith) (omega arith) (omega arith) (omega arith) in
      both a.base (end_of a) a.base (record_place a slot) (end_of a) (record_place a slot + 46) i m n three frame5 (omega arith) (omega arith) (omega arith) (omega (arith, inside))

  module _ (shown : Shown) (es : List (ℕ × Sa)) (miss : Misses slot (slots_in es)) (sid : s.sid ≡ shown.next_sid) (st : StatesStand a i shown es) where
    count : count_in a i ≡ length es
    count = count_is a i shown es st

    fits1 : Fits a (length j)
    fits1 = subst (λ (x : ℕ). Fits a x) (sym frame1.size) fits

    -- the chains of all
    comes : StatesLinked a n (es ++ ((slot, s) ∷ []))
    comes =
        let f3 = steps.room in let f4 = steps.hashes in let f5 = frame5 in let f1 = frame1 in
        let chained = st.chained in
        let old : StatesLinked a j es = linked_kept a i j (length i) es fits (λ q h u. f1.above q h) st.linked in
        let same : last_in a j ≡ last_in a i = ap (λ w. slot_of a.slots w) (f1.above (a.base + 4 + a.slots + 0) (omega arith)) in
        let new : StatesLinked a k (es ++ ((slot, s) ∷ [])) =
        subst (λ (w : List ℕ). StatesLinked a w (es ++ ((slot, s) ∷ []))) (ap (λ o. linked a j o slot) same ∙ sym steps.chains)
        (comes_linked a j es slot s fits1 inside miss chained.apart old) in
        linked_kept a k n (length i) (es ++ ((slot, s) ∷ [])) fits
        (λ q h u. f5.below q (omega (arith, u)) ∙ f4.below q (omega (arith, u)) ∙ f3.below q u) new

    -- before the state comes into the chains by hash
    ready : StatesChained a k es
    ready =
        let f1 = frame1 in let f2 = frame2 in
        chained_kept a i k (length i) es fits (λ q h u. f2.above q h ∙ f1.above q (omega (arith, h))) st.chained

    heads : Suffices (buckets_in a n) (pending_in a n) (length (es ++ ((slot, s) ∷ [])))
    heads =
        let f1 = frame1 in let f2 = frame2 in let f4 = steps.hashes in let f5 = frame5 in
        let before : Suffices (buckets_in a k) (pending_in a k) (length es) =
        heads_kept a i k (length es) (doubling_kept a i k (λ q h u. f2.above q h ∙ f1.above q (omega (arith, h)))) st.heads in
        let after : Suffices (buckets_in a l) (pending_in a l) (count_in a i + 1) =
        steps.suffices (subst (λ (x : ℕ). Suffices (buckets_in a k) (pending_in a k) x) (sym count) before) in
        heads_kept a l n (length (es ++ ((slot, s) ∷ []))) (doubling_kept a l n (λ q h u. f5.below q (omega (arith, u)) ∙ f4.below q (omega (arith, u))))
        (subst (λ (x : ℕ). Suffices (buckets_in a l) (pending_in a l) x) (ap (λ x. x + 1) count ∙ sym (longer es)) after)
      where
        longer : (es : List (ℕ × Sa)) → length (es ++ ((slot, s) ∷ [])) ≡ length es + 1
        longer [] = refl
        longer (e ∷ es) = let r : length (es ++ ((slot, s) ∷ [])) ≡ length es + 1 = longer es in omega (arith, r)

    chained : StatesChained a n (es ++ ((slot, s) ∷ []))
    chained =
        let f4 = steps.hashes in let f5 = frame5 in
        let room : StatesChained a l es = steps.roomy es ready in
        let here : RecordsStand a m es = records_kept a l m (chains_start a) es steps.hashes room.within room.records in
        let still : RecordsStand a n es =
        holds_same (λ x. record_at a m x) (λ x. record_at a n x) (λ r. Some r) a.slots slot es
        (λ other u d. others a m n slot other steps.below steps.above (either_side other slot d)) miss room.within here in
        let index : StatesIndexed a m (es ++ ((slot, s) ∷ [])) = steps.indexed es miss room.apart room.indexed in
        record {
          indexed = index_kept index;
          records = holds_append (λ x. record_at a n x) (λ r. Some r) es ((slot, s) ∷ []) still (steps.back, search rules);
          apart = apart_put es [] slot s (subst (λ (xs : List (ℕ × Sa)). Misses slot (slots_in xs)) (sym (append-nil es)) miss)
              (subst (λ (xs : List (ℕ × Sa)). Apart (slots_in xs)) (sym (append-nil es)) room.apart);
          within = within_put a.slots es [] slot s inside (subst (λ (xs : List (ℕ × Sa)). Within a.slots (slots_in xs)) (sym (append-nil es)) room.within);
        }
      where
        index_kept : StatesIndexed a m (es ++ ((slot, s) ∷ [])) → StatesIndexed a n (es ++ ((slot, s) ∷ []))
        index_kept x = index_same a m n (length i) (es ++ ((slot, s) ∷ [])) fits (λ q h u. steps.below q (omega (arith, u))) x

    counters : CountersStand a n (with_state shown s)
    counters =
        let f2 = frame2 in let f3 = steps.room in let f4 = steps.hashes in let f5 = frame5 in
        let old = st.counters in
        let same : (q : ℕ) → q < a.base + 3 → slice_index n q ≡ slice_index (tallied a i s.sid (count_in a i + 1)) q =
        λ q h. f5.below q (omega (arith, h)) ∙ f4.below q (omega (arith, h)) ∙ f3.below q (omega (arith, h)) ∙ f2.below q h ∙ ap (λ w. slice_index w q) steps.header in
        record {
          next_seq = ap (λ x. x + 1) (same a.base (omega arith) ∙ tallied_seq a i s.sid (count_in a i + 1)) ∙ old.next_seq;
          next_sid = ap (λ x. x + 1) (same (a.base + 1) (omega arith) ∙ tallied_sid a i s.sid (count_in a i + 1) fits ∙ sid);
          count = same (a.base + 2) (omega arith) ∙ tallied_count a i s.sid (count_in a i + 1) fits ∙ ap (λ x. x + 1) (count ∙ sym (records_length es) ∙ ap length st.listed) ∙ sym (more shown.states);
        }
      where
        more : (xs : List Sa) → length (xs ++ (s ∷ [])) ≡ length xs + 1
        more [] = refl
        more (x ∷ xs) = let r : length (xs ++ (s ∷ [])) ≡ length xs + 1 = more xs in omega (arith, r)

    pub steps_stand : StatesStand a n (with_state shown s) (es ++ ((slot, s) ∷ []))
    steps_stand = record {
      listed = records_append es ((slot, s) ∷ []) ∙ ap (λ rs. rs ++ (s ∷ [])) st.listed;
      linked = comes;
      chained = chained;
      heads = heads;
      counters = counters;
      room = st.room;
    }
