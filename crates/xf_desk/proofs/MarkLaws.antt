-- Words, lists and pools by their statuses.
use Rattle.std.proofs.Common.{◌≡◌, ◌≢◌, ℕ, ◌+◌, ◌<◌, ◌≤◌, Bool, true, List, [], ◌∷◌, length, sym, ap, ◌∙◌, subst, arith, Option, Some, None, slice_index}
use Rattle.std.specs.Prelude.{◌==◌}
use Rattle.std.specs.List.{list_any}
use Rattle.xf_types.specs.declared.call.Call.{Call}
use Rattle.xf_types.specs.declared.call.Reply.{Reply}
use Rattle.xf_types.specs.Machine.{Machine}
use Rattle.xf_cells.specs.declared.one_pool.OnePool.{OnePool}
use Rattle.xf_chain.specs.Lists.{Misses, Apart, Within}
use Rattle.xf_index.specs.Indexes.{slots_in}
use Rattle.xf_spd.specs.Slots.{PoolFits as PoliciesFit}
use Rattle.xf_sad.specs.Slots.{PoolFits as StatesFit}
use Rattle.xf_image.specs.Readings.{listed_in}
use Rattle.xf_image.proofs.Listed.{listed_is}
use Rattle.xf_sadidx.specs.Layout.{end_of}
use Rattle.xf_sadimage.proofs.Keeping as states
use Rattle.xf_inexact.specs.Whole.{whole_end}
use Rattle.xf_rows.specs.Layouts.{Fits}
use Rattle.xf_rows.specs.Readings.{state_slots}
use Rattle.xf_rows.specs.Stands.{Stands}
use Rattle.xf_rows.specs.Values.{Beside}
use Rattle.xf_rows.proofs.Keeping.{policies_kept, stands_apart}
use Rattle.xf_rows.proofs.Reading.{state_slots_are}
use Rattle.xf_invariant.specs.Meaning.{Told}
use Rattle.xf_retired.specs.Pools.{listed_slots}
use Rattle.xf_meaning.specs.Beside.{MarksStand}
use Rattle.xf_meaning.specs.Calls.{AnswersAll}
use Rattle.xf_meaning.specs.Good.{Good}
use Rattle.xf_meaning.specs.Marks.{AreMarked as Marked}
use Rattle.xf_meaning.specs.Places.{layout_of, policies_of, states_of}
use Rattle.xf_meaning.proofs.Listing.{policies_stand, states_stand}
use Rattle.xf_desk.specs.Marks.{AreMoved, KeepsRecords, moved_slots}
use Rattle.xf_desk.specs.Pools.{IsPoolOf, IsFullPool}
use Rattle.xf_desk.specs.MarkLaws.{MarkLaws, gives, takes}
use Rattle.xf_desk.proofs.Marked.{moved_marks, count_is, misses_unlisted}

answers : (p s : ℕ) (old mid new : List ℕ) (b c : Beside) (call : Call) (reply : Reply) → Fits (layout_of p s) (length mid) → KeepsRecords p s mid new
    → AnswersAll p s old b mid c call reply → AnswersAll p s old b new c call reply
answers p s old mid new b c call reply fits keeps all m st =
    let a = all m st in
    record { is_reply = a.is_reply; stands = stands_apart (layout_of p s) mid new c _ fits keeps.same a.stands }

module _ (p s : ℕ) (mid new : List ℕ) (c : Beside) (m : Machine) (fits : Fits (layout_of p s) (length mid)) (st : Stands (layout_of p s) mid c m) (keeps : KeepsRecords p s mid new) where
  same_policies : listed_in (policies_of p s) new ≡ listed_in (policies_of p s) mid
  same_policies =
      let order : whole_end (policies_of p s) ≤ (states_of p s).base = fits.order in
      let behind : end_of (states_of p s) ≤ (layout_of p s).clock = fits.behind in
      let now = policies_kept (policies_of p s) mid new m.shown st.policies fits.policies (λ q h l. keeps.same q h (omega (arith, l, order, behind))) st.on_policies in
      listed_is (policies_of p s) new m.shown st.policies now.list ∙ sym (listed_is (policies_of p s) mid m.shown st.policies st.on_policies.list)

  same_states : state_slots (states_of p s) new ≡ state_slots (states_of p s) mid
  same_states =
      let order : whole_end (policies_of p s) ≤ (states_of p s).base = fits.order in
      let behind : end_of (states_of p s) ≤ (layout_of p s).clock = fits.behind in
      let now = states.stands_kept (states_of p s) mid new m.shown _ fits.states (λ q h l. keeps.same q (omega (arith, h, order)) (omega (arith, l, behind))) st.on_states in
      state_slots_are (states_of p s) new m.shown _ now ∙ sym (state_slots_are (states_of p s) mid m.shown _ st.on_states)

module _ (p s : ℕ) (image : List ℕ) (t : Told) (g : Good p s image t) where
  pub policies_are : listed_in (policies_of p s) image ≡ slots_in g.policies
  policies_are = listed_is (policies_of p s) image t.shown g.policies g.on_policies.list

  pub states_are : state_slots (states_of p s) image ≡ slots_in g.states
  states_are = state_slots_are (states_of p s) image t.shown g.states g.on_states

marks : (p s : ℕ) (old mid new : List ℕ) (t : Told) (c : Beside) (m : Machine) (gone_policies gone_states : ℕ → Bool) (policy state : Option ℕ)
    → Fits (layout_of p s) (length mid) → Good p s old t → Stands (layout_of p s) mid c m → KeepsRecords p s mid new
    → listed_in (policies_of p s) mid ≡ moved_slots gone_policies policy (listed_in (policies_of p s) old)
    → state_slots (states_of p s) mid ≡ moved_slots gone_states state (state_slots (states_of p s) old)
    → AreMoved 0 p old new gone_policies policy → AreMoved p s old new gone_states state
    → MarksStand p s new
marks p s old mid new t c m gone_policies gone_states policy state fits g st keeps of_policies of_states moved_p moved_s =
    let in_p = policies_are p s old t g in
    let in_s = states_are p s old t g in
    let stand_p = policies_stand p s old t g in
    let stand_s = states_stand p s old t g in
    let now_p : listed_in (policies_of p s) new ≡ moved_slots gone_policies policy (slots_in g.policies) =
    same_policies p s mid new c m fits st keeps ∙ of_policies ∙ ap (λ (xs : List ℕ). moved_slots gone_policies policy xs) in_p in
    let now_s : state_slots (states_of p s) new ≡ moved_slots gone_states state (slots_in g.states) =
    same_states p s mid new c m fits st keeps ∙ of_states ∙ ap (λ (xs : List ℕ). moved_slots gone_states state xs) in_s in
    record {
      policies = subst (λ (xs : List ℕ). Marked 0 p new xs) (sym now_p) (moved_marks 0 p old new gone_policies policy moved_p (slots_in g.policies) stand_p.within g.policies_marked);
      states = subst (λ (xs : List ℕ). Marked p s new xs) (sym now_s) (moved_marks p s old new gone_states state moved_s (slots_in g.states) stand_s.within g.states_marked);
    }

-- ---- pools

some_in : (slot : ℕ) (xs : List ℕ) → list_any (λ other. other == slot) xs ≡ true → 0 < length xs
some_in slot [] is = absurd cc
some_in slot (x ∷ xs) is = omega arith

module _ (first size : ℕ) (image list xs : List ℕ) (list_is : list ≡ xs) (marked : Marked first size image xs) (apart : Apart xs) (within : Within size xs) (live : ℕ)
    (counted : live ≡ listed_slots image first size) where
  taken : live ≡ length list
  taken = counted ∙ count_is first size image xs marked apart within ∙ ap length (sym list_is)

  back : (slot : ℕ) → list_any (λ other. other == slot) list ≡ true → 0 < live
  back slot is = subst (λ n. 0 < n) (sym taken) (some_in slot list is)

  free : (slot : ℕ) → slice_index image (first + slot) ≢ 1 → Misses slot list
  free slot d = subst (λ ys. Misses slot ys) (sym list_is) (misses_unlisted first size slot image xs marked d)

policy_pool : (p s : ℕ) (image : List ℕ) (t : Told) (pool : OnePool) → Good p s image t → IsPoolOf 0 p image pool
    → PoliciesFit pool.capacity pool.live (gives pool) (takes pool) p (listed_in (policies_of p s) image)
policy_pool p s image t pool g is =
    let stand = policies_stand p s image t g in
    let e = policies_are p s image t g in
    record {
      capacity = is.capacity;
      taken = taken 0 p image (listed_in (policies_of p s) image) (slots_in g.policies) e stand.marked stand.apart stand.within pool.live is.scan.listed;
      below = λ slot gave. (is.scan.unlisted slot gave).0;
      free = λ slot gave. free 0 p image (listed_in (policies_of p s) image) (slots_in g.policies) e stand.marked stand.apart stand.within pool.live is.scan.listed slot (is.scan.unlisted slot gave).1;
      back = back 0 p image (listed_in (policies_of p s) image) (slots_in g.policies) e stand.marked stand.apart stand.within pool.live is.scan.listed;
    }

state_pool : (p s : ℕ) (image : List ℕ) (t : Told) (pool : OnePool) → Good p s image t → IsPoolOf p s image pool
    → StatesFit pool.capacity pool.live (gives pool) (takes pool) s (state_slots (states_of p s) image)
state_pool p s image t pool g is =
    let stand = states_stand p s image t g in
    let e = states_are p s image t g in
    record {
      capacity = is.capacity;
      taken = taken p s image (state_slots (states_of p s) image) (slots_in g.states) e stand.marked stand.apart stand.within pool.live is.scan.listed;
      below = λ slot gave. (is.scan.unlisted slot gave).0;
      free = λ slot gave. free p s image (state_slots (states_of p s) image) (slots_in g.states) e stand.marked stand.apart stand.within pool.live is.scan.listed slot (is.scan.unlisted slot gave).1;
      back = back p s image (state_slots (states_of p s) image) (slots_in g.states) e stand.marked stand.apart stand.within pool.live is.scan.listed;
    }

no_slot : (o : Option ℕ) (slot : ℕ) {A : Type 0} → o ≡ None → o ≡ Some slot → A
no_slot o slot none some = let e : None ≡ Some slot = sym none ∙ some in absurd cc

full_policies : (p s : ℕ) (image : List ℕ) (t : Told) (pool : OnePool) → Good p s image t → IsFullPool 0 p image pool
    → PoliciesFit pool.capacity pool.live (gives pool) (takes pool) p (listed_in (policies_of p s) image)
full_policies p s image t pool g is =
    let stand = policies_stand p s image t g in
    let e = policies_are p s image t g in
    record {
      capacity = is.capacity;
      taken = taken 0 p image (listed_in (policies_of p s) image) (slots_in g.policies) e stand.marked stand.apart stand.within pool.live is.live;
      below = λ slot gave. no_slot pool.slot slot is.none gave;
      free = λ slot gave. no_slot pool.slot slot is.none gave;
      back = back 0 p image (listed_in (policies_of p s) image) (slots_in g.policies) e stand.marked stand.apart stand.within pool.live is.live;
    }

full_states : (p s : ℕ) (image : List ℕ) (t : Told) (pool : OnePool) → Good p s image t → IsFullPool p s image pool
    → StatesFit pool.capacity pool.live (gives pool) (takes pool) s (state_slots (states_of p s) image)
full_states p s image t pool g is =
    let stand = states_stand p s image t g in
    let e = states_are p s image t g in
    record {
      capacity = is.capacity;
      taken = taken p s image (state_slots (states_of p s) image) (slots_in g.states) e stand.marked stand.apart stand.within pool.live is.live;
      below = λ slot gave. no_slot pool.slot slot is.none gave;
      free = λ slot gave. no_slot pool.slot slot is.none gave;
      back = back p s image (state_slots (states_of p s) image) (slots_in g.states) e stand.marked stand.apart stand.within pool.live is.live;
    }

pub mark_laws : MarkLaws
mark_laws = record {
  answers = answers;
  marks = marks;
  policy_pool = policy_pool;
  state_pool = state_pool;
  full_policies = full_policies;
  full_states = full_states;
}
