-- Words that are the same in an area stand for the same there.
use Rattle.std.proofs.Common.{◌≡◌, ℕ, ◌+◌, ◌-◌, ◌<◌, ◌≤◌, List, Some, reverse, length, refl, ap, sym, ◌∙◌, subst, arith, slice_index}
use Rattle.xf_types.specs.declared.state.Sa.{Sa}
use Rattle.xf_types.specs.Machine.{Shown}
use Rattle.xf_index.proofs.Holds.{holds_kept}
use Rattle.xf_index.proofs.Stays.{indexed_apart}
use Rattle.xf_records.proofs.StateLaws.{state_frame}
use Rattle.xf_doubling.specs.declared.doubling.Doubling.{Doubling}
use Rattle.xf_sadidx.specs.declared.area.StateArea.{StateArea}
use Rattle.xf_sadidx.specs.Layout.{Fits, end_of, order_of, back_of, chains_of, chains_end, doubling_place, doubling_in, record_place, record_at}
use Rattle.xf_sadidx.specs.Standing.{head_by, ChainsStand, StatesIndexed}
use Rattle.xf_sadidx.proofs.Layouts.{order_lays, back_lays, chains_lay, chains_from, chains_to}
use Rattle.xf_resize.specs.Rooms.{buckets_in, pending_in, Suffices, StatesChained}
use Rattle.xf_sadimage.specs.States.{everyone, StatesLinked, CountersStand, StatesStand, AlikeInStates}

pub linked_kept : (a : StateArea) (i j : List ℕ) (size : ℕ) (entries : List (ℕ × Sa)) → Fits a size
    → ((q : ℕ) → a.base + 3 ≤ q → q < doubling_place a → slice_index j q ≡ slice_index i q)
    → StatesLinked a i entries → StatesLinked a j entries
linked_kept a i j size entries fits same st = record {
  order = indexed_apart (order_of a) i j size everyone entries (order_lays a size fits) (λ q h l. same q (omega (arith, h)) (omega (arith, l))) st.order;
  back = indexed_apart (back_of a) i j size everyone (reverse entries) (back_lays a size fits) (λ q h l. same q (omega (arith, h)) (omega (arith, l))) st.back;
}

pub counters_kept : (a : StateArea) (i j : List ℕ) (s : Shown) → ((q : ℕ) → a.base ≤ q → q < a.base + 3 → slice_index j q ≡ slice_index i q)
    → CountersStand a i s → CountersStand a j s
counters_kept a i j s same st = record {
  next_seq = ap (λ n. n + 1) (same a.base (omega arith) (omega arith)) ∙ st.next_seq;
  next_sid = ap (λ n. n + 1) (same (a.base + 1) (omega arith) (omega arith)) ∙ st.next_sid;
  count = same (a.base + 2) (omega arith) (omega arith) ∙ st.count;
}

pub doubling_kept : (a : StateArea) (i j : List ℕ) → ((q : ℕ) → doubling_place a ≤ q → q < doubling_place a + 2 → slice_index j q ≡ slice_index i q)
    → doubling_in a j ≡ doubling_in a i
doubling_kept a i j same =
    rw (same (doubling_place a) (omega arith) (omega arith), same (doubling_place a + 1) (omega arith) (omega arith)) refl

-- the chains by hash, where the records may be others
pub index_same : (a : StateArea) (i j : List ℕ) (size : ℕ) (entries : List (ℕ × Sa)) → Fits a size
    → ((q : ℕ) → doubling_place a ≤ q → q < chains_end a → slice_index j q ≡ slice_index i q)
    → StatesIndexed a i entries → StatesIndexed a j entries
index_same a i j size entries fits same st =
    let d : Doubling = doubling_in a i in
    let indexed : ChainsStand a j d.half d.moved entries = record {
      chains = λ kind. let from = chains_from a kind in let to = chains_to a kind in
          indexed_apart (chains_of a kind) i j size (head_by d.half d.moved kind) (reverse entries) (chains_lay a kind size fits)
          (λ q h l. same q (omega (arith, h, from)) (omega (arith, l, to))) (ChainsStand.chains st kind);
    } in
    subst (λ (e : Doubling). ChainsStand a j e.half e.moved entries)
    (sym (doubling_kept a i j (λ q h l. same q h (omega (arith, l))))) indexed

pub chained_kept : (a : StateArea) (i j : List ℕ) (size : ℕ) (entries : List (ℕ × Sa)) → Fits a size
    → ((q : ℕ) → doubling_place a ≤ q → q < end_of a → slice_index j q ≡ slice_index i q)
    → StatesChained a i entries → StatesChained a j entries
chained_kept a i j size entries fits same st =
    record {
      indexed = index_same a i j size entries fits (λ q h l. same q h (omega (arith, l))) st.indexed;
      records = holds_kept (λ slot. record_at a i slot) (λ slot. record_at a j slot) (λ s. Some s) a.slots entries
          (λ slot l. state_frame i j (record_place a slot) (λ q m n. same q (omega (arith, m)) (omega (arith, n, l)))) st.within st.records;
      apart = st.apart;
      within = st.within;
    }

pub heads_kept : (a : StateArea) (i j : List ℕ) (count : ℕ) → doubling_in a j ≡ doubling_in a i
    → Suffices (buckets_in a i) (pending_in a i) count → Suffices (buckets_in a j) (pending_in a j) count
heads_kept a i j count e s = subst (λ (d : Doubling). Suffices (d.half + d.half) (d.half - d.moved) count) (sym e) s

pub stands_kept : (a : StateArea) (i j : List ℕ) (s : Shown) (entries : List (ℕ × Sa)) → Fits a (length i)
    → ((q : ℕ) → a.base ≤ q → q < end_of a → slice_index j q ≡ slice_index i q)
    → StatesStand a i s entries → StatesStand a j s entries
stands_kept a i j s entries fits same st = record {
  listed = st.listed;
  linked = linked_kept a i j (length i) entries fits (λ q h l. same q (omega (arith, h)) (omega (arith, l))) st.linked;
  chained = chained_kept a i j (length i) entries fits (λ q h l. same q (omega (arith, h)) l) st.chained;
  heads = heads_kept a i j (length entries) (doubling_kept a i j (λ q h l. same q (omega (arith, h)) (omega (arith, l)))) st.heads;
  counters = counters_kept a i j s (λ q h l. same q h (omega (arith, l))) st.counters;
  room = st.room;
}

pub stands_alike : (a : StateArea) (image : List ℕ) (s t : Shown) (entries : List (ℕ × Sa)) → AlikeInStates s t → StatesStand a image s entries → StatesStand a image t entries
stands_alike a image s t entries alike st =
    let counters = st.counters in
    record {
      listed = st.listed ∙ sym alike.states;
      linked = st.linked;
      chained = st.chained;
      heads = st.heads;
      counters = record {
        next_seq = counters.next_seq ∙ sym alike.next_seq;
        next_sid = counters.next_sid ∙ sym alike.next_sid;
        count = counters.count ∙ ap length (sym alike.states);
      };
      room = alike.room ∙ st.room;
    }
