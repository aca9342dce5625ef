-- Good words list each state at one slot of its own, with the time, and each policy at one of its own.
use Rattle.std.proofs.Common.{◌≡◌, ◌≤◌, ℕ, ◌+◌, ◌-◌, ◌<◌, List, length, refl, sym, ap, ◌∙◌, subst, arith, AllPairs, Contains, Option, Some, None, option_map, slice_index}
use Rattle.std.proofs.lemmas.Option.{same_Some}
use Rattle.xf_types.specs.declared.policy.Policy.{Policy}
use Rattle.xf_types.specs.declared.state.Sa.{Sa}
use Rattle.xf_types.specs.IsMachine.{IsShownPart}
use Rattle.xf_index.specs.Indexes.{records_in}
use Rattle.xf_records.specs.States.{state_words}
use Rattle.xf_records.proofs.BlockLaws.{stands_at}
use Rattle.xf_records.proofs.StateLaws.{state_size, state_read}
use Rattle.xf_image.specs.Layout as policies
use Rattle.xf_image.proofs.Keeping.{entries_apart, entries_within}
use Rattle.xf_sadidx.specs.Layout as states
use Rattle.xf_invariant.specs.Meaning.{Told}
use Rattle.xf_ownpart.specs.Lists.{ListsStates, IsListing}
use Rattle.xf_retired.specs.Pools.{ArePools, IsPool, sid_at}
use Rattle.xf_stale.specs.StalePart.{AreShown}
use Rattle.xf_meaning.specs.Places.{policies_of, states_of, layout_of, id_place}
use Rattle.xf_meaning.specs.Good.{Good}
use Rattle.xf_meaning.specs.Tells.{state_there, index_there, lists, index_at}
use Rattle.xf_meaning.proofs.Entries.{IsEntry, entry_read, entry_contains, contains_entry, entry_once}
use Rattle.xf_meaning.proofs.Marked.{Stand, entry_marked, marked_entry, told_true, told_entry, pool_is}

module _ (p s : ℕ) (image : List ℕ) (t : Told) (g : Good p s image t) where
  -- the states and the policies stand in marked slots
  pub states_stand : Stand p s image g.states
  states_stand = record { marked = g.states_marked; apart = g.on_states.chained.apart; within = g.on_states.chained.within }

  pub policies_stand : Stand 0 p image g.policies
  policies_stand = record {
    marked = g.policies_marked;
    apart = entries_apart (policies_of p s) image t.shown.hthresh4 t.shown.hthresh6 g.policies g.on_policies.list.links;
    within = entries_within (policies_of p s) image t.shown.hthresh4 t.shown.hthresh6 g.policies g.on_policies.list.links;
  }

  pub state_record : (k : ℕ) (x : Sa) → IsEntry g.states k x → states.record_at (states_of p s) image k ≡ Some x
  state_record k x h = entry_read (λ (slot : ℕ). states.record_at (states_of p s) image slot) g.states k x g.on_states.chained.records h

  pub policy_record : (k : ℕ) (x : Policy) → IsEntry g.policies k x → policies.record_at (policies_of p s) image k ≡ Some x
  policy_record k x h = entry_read (λ (slot : ℕ). policies.record_at (policies_of p s) image slot) g.policies k x g.on_policies.list.columns.records h

  there : (k : ℕ) (x : Sa) → IsEntry g.states k x → state_there p s image (p + k) ≡ Some (x, t.shown.time)
  there k x h =
      let e : (p + k) - p ≡ k = omega arith in
      ap (λ (j : ℕ). option_map (λ (y : Sa). (y, slice_index image (layout_of p s).clock)) (states.record_at (states_of p s) image j)) e
      ∙ ap (λ (o : Option Sa). option_map (λ (y : Sa). (y, slice_index image (layout_of p s).clock)) o) (state_record k x h)
      ∙ ap (λ (n : ℕ). Some (x, n)) g.time

  -- the state of an entry is listed at its slot
  pub lists_entry : (k : ℕ) (x : Sa) → IsEntry g.states k x → lists p s image (p + k) ≡ Some (x, t.shown.time)
  lists_entry k x h = told_true p s image (state_there p s image) (p + k) (entry_marked p s image g.states states_stand k x h) ∙ there k x h

  -- and nothing else is listed
  pub record Lists (slot : ℕ) (y : Sa × ℕ) : Type 0 where
    pub number : ℕ
    pub state : Sa
    pub entry : IsEntry g.states number state
    pub is : slot ≡ p + number
    pub same : y ≡ (state, t.shown.time)

  pub entry_lists : (slot : ℕ) (y : Sa × ℕ) → lists p s image slot ≡ Some y → Lists slot y
  entry_lists slot y e =
      let f = told_entry p s image g.states (state_there p s image) states_stand slot y e in
      record {
        number = f.0;
        state = f.1;
        entry = f.2;
        is = f.3;
        same = same_Some y (f.1, t.shown.time) (sym f.4 ∙ there f.0 f.1 f.2);
      }

  sids_apart : IsShownPart t.shown → AllPairs (λ (a b : Sa). a.sid ≡ b.sid → ⊥) (records_in g.states)
  sids_apart sh = subst (λ (xs : List Sa). AllPairs (λ (a b : Sa). a.sid ≡ b.sid → ⊥) xs) (sym g.on_states.listed) sh.states.sids

  pub lists_states : IsShownPart t.shown → ListsStates (lists p s) image t.shown
  lists_states sh = record {
    listed = λ slot y e.
        let l = entry_lists slot y e in (
          subst (λ (x : Sa). Contains t.shown.states x) (sym (ap (λ (z : Sa × ℕ). z.0) l.same))
              (subst (λ (xs : List Sa). Contains xs l.state) g.on_states.listed (entry_contains g.states l.number l.state l.entry)),
          ap (λ (z : Sa × ℕ). z.1) l.same,
        );
    placed = λ x c.
        let f = contains_entry g.states x (subst (λ (xs : List Sa). Contains xs x) (sym g.on_states.listed) c) in
        (p + f.0, lists_entry f.0 x f.1);
    once = λ j k x y a b e.
        let l = entry_lists j x a in
        let m = entry_lists k y b in
        let same : l.number ≡ m.number = entry_once (λ (z : Sa). z.sid) g.states l.number m.number l.state m.state (sids_apart sh) l.entry m.entry
        (sym (ap (λ (z : Sa × ℕ). z.0.sid) l.same) ∙ e ∙ ap (λ (z : Sa × ℕ). z.0.sid) m.same) in
        l.is ∙ ap (λ (n : ℕ). p + n) same ∙ sym m.is;
  }

  id_there : (k : ℕ) (x : Sa) → states.record_at (states_of p s) image k ≡ Some x → slice_index image (states.record_place (states_of p s) k + 16) ≡ x.sid
  unfolding state_words
  id_there k x is =
      let size : length (state_words x) ≡ 46 = state_size x in
      stands_at image (states.record_place (states_of p s) k) (state_words x) (state_read image (states.record_place (states_of p s) k) x is) 16 (omega (arith, size))

  -- a state's slot with the status of a listed one lists the state with the id there
  pub shows_state : (slot : ℕ) → p ≤ slot → slot < p + s → slice_index image slot ≡ 1
      → (x : Sa × ℕ) × (lists p s image slot ≡ Some x) × (slice_index image (id_place p s slot) ≡ x.0.sid)
  shows_state slot low high status =
      let e : slot ≡ p + (slot - p) = omega (arith, low) in
      let f = marked_entry p s image g.states states_stand (slot - p) (omega (arith, low, high)) (subst (λ (k : ℕ). slice_index image k ≡ 1) e status) in
      ((f.0, t.shown.time), ap (λ (k : ℕ). lists p s image k) e ∙ lists_entry (slot - p) f.0 f.1, id_there (slot - p) f.0 (state_record (slot - p) f.0 f.1))

  pub state_pool : IsShownPart t.shown → IsPool (λ (x : Sa). x.sid) (sid_at (lists p s)) p s image t.shown.states t.shown.max_states
  state_pool sh =
      pool_is (λ (x : Sa). x.sid) (sid_at (lists p s)) p s image g.states t.shown.states t.shown.max_states states_stand g.on_states.listed sh.states.sids g.on_states.room
      (λ k x h. ap (λ (o : Option (Sa × ℕ)). option_map (λ (y : Sa × ℕ). y.0.sid) o) (lists_entry k x h))
      (λ slot n e. at slot n (lists p s image slot) refl e)
    where
      at : (slot n : ℕ) (o : Option (Sa × ℕ)) → lists p s image slot ≡ o → option_map (λ (y : Sa × ℕ). y.0.sid) o ≡ Some n
          → (k : ℕ) × (x : Sa) × IsEntry g.states k x × (slot ≡ p + k) × (x.sid ≡ n)
      at slot n None is e = absurd cc
      at slot n (Some y) is e =
          let l = entry_lists slot y is in
          (l.number, l.state, l.entry, l.is, sym (ap (λ (z : Sa × ℕ). z.0.sid) l.same) ∙ same_Some y.0.sid n e)

  pub policy_pool : IsShownPart t.shown → IsPool (λ (x : Policy). x.index) (index_at p s) 0 p image t.shown.policies t.shown.max_policies
  policy_pool sh =
      pool_is (λ (x : Policy). x.index) (index_at p s) 0 p image g.policies t.shown.policies t.shown.max_policies policies_stand g.on_policies.list.listed sh.policies.indices
      g.on_policies.list.room
      (λ k x h. told_true 0 p image (index_there p s image) (0 + k) (entry_marked 0 p image g.policies policies_stand k x h) ∙ read k x h)
      (λ slot n e.
      let f = told_entry 0 p image g.policies (index_there p s image) policies_stand slot n e in
      (f.0, f.1, f.2, f.3, same_Some f.1.index n (sym (read f.0 f.1 f.2) ∙ f.4)))
    where
      read : (k : ℕ) (x : Policy) → IsEntry g.policies k x → index_there p s image (0 + k) ≡ Some x.index
      read k x h =
          let e : 0 + k ≡ k = omega arith in
          ap (λ (j : ℕ). index_there p s image j) e ∙ ap (λ (o : Option Policy). option_map (λ (y : Policy). y.index) o) (policy_record k x h)

pub listing : (p s : ℕ) → IsListing (Good p s) (lists p s)
listing p s image t sh g = lists_states p s image t g sh

pub pools : (p s : ℕ) → ArePools (Good p s) (lists p s) (index_at p s) p s
pools p s image t sh g = (policy_pool p s image t g sh, state_pool p s image t g sh)

pub shows : (p s : ℕ) → AreShown (Good p s) (lists p s) (id_place p s) p s
shows p s image t slot sh g low high status = shows_state p s image t g slot low high status
