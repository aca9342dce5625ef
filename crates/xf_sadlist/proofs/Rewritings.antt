-- Another record with the same hashes in the slot of a state.
use Rattle.std.proofs.Common.{◌≡◌, ℕ, ◌+◌, ◌<◌, ◌≤◌, List, ◌∷◌, ◌++◌, Option, Some, length, reverse, refl, ap, sym, ◌∙◌, subst, arith, slice_index}
use Rattle.xf_types.specs.declared.state.Sa.{Sa}
use Rattle.xf_types.specs.Machine.{Shown}
use Rattle.xf_chain.specs.declared.family.Family.{Family}
use Rattle.xf_chain.specs.Lists.{Misses, Within}
use Rattle.xf_index.specs.Indexes.{slots_in, records_in, Indexed}
use Rattle.xf_index.proofs.Entries.{records_length, reverse_within, misses_taken, apart_taken, apart_put, within_taken, within_put}
use Rattle.xf_index.proofs.Holds.{holds_same, holds_taken, holds_put}
use Rattle.xf_index.proofs.Stays.{indexed_changed}
use Rattle.xf_records.specs.States.{state_at}
use Rattle.xf_doubling.specs.Heads.{head_of}
use Rattle.xf_image.specs.Frames.{Frame}
use Rattle.xf_image.proofs.Written.{wider}
use Rattle.xf_sadidx.specs.declared.area.StateArea.{StateArea}
use Rattle.xf_sadidx.specs.declared.kind.Kind.{Kind}
use Rattle.xf_sadidx.specs.Keys.{key_of}
use Rattle.xf_sadidx.specs.Layout.{Fits, end_of, order_of, back_of, chains_of, doubling_in, record_place, record_at}
use Rattle.xf_sadidx.specs.Standing.{head_by, ChainsStand, StatesIndexed, RecordsStand}
use Rattle.xf_resize.specs.Rooms.{buckets_in, pending_in, Suffices, StatesChained}
use Rattle.xf_sadimage.specs.States.{everyone, StatesLinked, CountersStand, StatesStand}
use Rattle.xf_sadimage.proofs.Keeping.{linked_kept, counters_kept, doubling_kept, heads_kept, index_same}
use Rattle.xf_sadlist.specs.Listed.{with_states}
use Rattle.xf_sadlist.proofs.Comings.{either_side, others}
use Rattle.xf_sadlist.proofs.Leavings.{one_more}

-- the words of one record alone were written
pub record Rewritten (a : StateArea) (i j : List ℕ) (slot : ℕ) (s : Sa) : Type 0 where
  pub size : length j ≡ length i
  pub below : (q : ℕ) → q < record_place a slot → slice_index j q ≡ slice_index i q
  pub above : (q : ℕ) → record_place a slot + 46 ≤ q → slice_index j q ≡ slice_index i q
  pub there : state_at j (record_place a slot) ≡ Some s

-- an index of the entries the other way round, where a record has the same key
turned_changed : (family : Family) (image : List ℕ) (key : Sa → Option ℕ) (front back : List (ℕ × Sa)) (slot : ℕ) (r s : Sa) → key r ≡ key s
    → Indexed family image key (reverse (front ++ ((slot, r) ∷ back))) → Indexed family image key (reverse (front ++ ((slot, s) ∷ back)))
turned_changed family image key front back slot r s e is =
    subst (λ (es : List (ℕ × Sa)). Indexed family image key es) (sym (reverse_within front back (slot, s)))
    (indexed_changed family image key (reverse back) (reverse front) slot r s e
    (subst (λ (es : List (ℕ × Sa)). Indexed family image key es) (reverse_within front back (slot, r)) is))

module _ (a : StateArea) (i j : List ℕ) (slot : ℕ) (s : Sa) (inside : slot < a.slots) (rewritten : Rewritten a i j slot s) where
  pub rewritten_frame : Frame a.base (end_of a) i j
  rewritten_frame =
      let own : Frame (record_place a slot) (record_place a slot + 46) i j = record { size = rewritten.size; below = rewritten.below; above = rewritten.above } in
      wider a.base (end_of a) _ _ i j own (omega arith) (omega (arith, inside))

  module _ (shown : Shown) (front back : List (ℕ × Sa)) (was : Sa) (fits : Fits a (length i)) (keys : (kind : Kind) → key_of kind s ≡ key_of kind was)
      (st : StatesStand a i shown (front ++ ((slot, was) ∷ back))) where
    same : length (front ++ ((slot, s) ∷ back)) ≡ length (front ++ ((slot, was) ∷ back))
    same = one_more front back (slot, s) ∙ sym (one_more front back (slot, was))

    links : StatesLinked a j (front ++ ((slot, s) ∷ back))
    links =
        let linked = st.linked in
        linked_kept a i j (length i) (front ++ ((slot, s) ∷ back)) fits (λ q h l. rewritten.below q (omega (arith, l))) (record {
          order = indexed_changed (order_of a) i everyone front back slot was s refl linked.order;
          back = turned_changed (back_of a) i everyone front back slot was s refl linked.back;
        })

    index : StatesIndexed a j (front ++ ((slot, s) ∷ back))
    index =
        let half : ℕ = (doubling_in a i).half in
        let moved : ℕ = (doubling_in a i).moved in
        let chained = st.chained in
        let here : ChainsStand a i half moved (front ++ ((slot, was) ∷ back)) = chained.indexed in
        index_same a i j (length i) (front ++ ((slot, s) ∷ back)) fits (λ q h l. rewritten.below q (omega (arith, l))) (record {
          chains = λ kind. turned_changed (chains_of a kind) i (head_by half moved kind) front back slot was s (ap (head_of half moved) (sym (keys kind))) (here.chains kind);
        })

    records : RecordsStand a j (front ++ ((slot, s) ∷ back))
    records =
        let chained = st.chained in
        let miss : Misses slot (slots_in (front ++ back)) = misses_taken front back slot was chained.apart in
        let within : Within a.slots (slots_in (front ++ back)) = within_taken a.slots front back slot was chained.within in
        holds_put (λ x. record_at a j x) (λ r. Some r) slot s front back
        (holds_same (λ x. record_at a i x) (λ x. record_at a j x) (λ r. Some r) a.slots slot (front ++ back)
        (λ other u d. others a i j slot other rewritten.below rewritten.above (either_side other slot d)) miss within
        (holds_taken (λ x. record_at a i x) (λ r. Some r) slot was front back chained.records))
        rewritten.there

    chains : StatesChained a j (front ++ ((slot, s) ∷ back))
    chains =
        let chained = st.chained in
        record {
          indexed = index;
          records = records;
          apart = apart_put front back slot s (misses_taken front back slot was chained.apart) (apart_taken front back slot was chained.apart);
          within = within_put a.slots front back slot s inside (within_taken a.slots front back slot was chained.within);
        }

    enough : Suffices (buckets_in a j) (pending_in a j) (length (front ++ ((slot, s) ∷ back)))
    enough =
        heads_kept a i j (length (front ++ ((slot, s) ∷ back))) (doubling_kept a i j (λ q h l. rewritten.below q (omega (arith, l))))
        (subst (λ (n : ℕ). Suffices (buckets_in a i) (pending_in a i) n) (sym same) st.heads)

    counters : CountersStand a j (with_states shown (records_in (front ++ ((slot, s) ∷ back))))
    counters =
        let c : CountersStand a j shown = counters_kept a i j shown (λ q h l. rewritten.below q (omega (arith, l))) st.counters in
        record {
          next_seq = c.next_seq;
          next_sid = c.next_sid;
          count = c.count ∙ ap length (sym st.listed) ∙ records_length (front ++ ((slot, was) ∷ back)) ∙ sym same ∙ sym (records_length (front ++ ((slot, s) ∷ back)));
        }

    pub rewritten_stand : StatesStand a j (with_states shown (records_in (front ++ ((slot, s) ∷ back)))) (front ++ ((slot, s) ∷ back))
    rewritten_stand = record {
      listed = refl;
      linked = links;
      chained = chains;
      heads = enough;
      counters = counters;
      room = st.room;
    }
