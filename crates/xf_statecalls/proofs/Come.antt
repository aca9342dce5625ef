-- A new state came, and at most one left for it.
use Rattle.std.proofs.Common.{arith, ℕ, ◌≡◌, ◌<◌, ◌≤◌, Bool, true, false, List, [], ◌∷◌, ◌++◌, Option, None, Some, length, refl, ap, sym, ◌∙◌, subst, cond, nat_lt}
use Rattle.xf_types.specs.declared.call.Reply.{Reply}
use Rattle.xf_types.specs.declared.call.Reply.TheVariants as reply
use Rattle.xf_types.specs.declared.state.Sa.{Sa}
use Rattle.xf_types.specs.declared.state.SaSpec.{SaSpec}
use Rattle.xf_types.specs.declared.state.AllocSpec.{AllocSpec}
use Rattle.xf_types.specs.Changes.{applied, Answer, Change, NewState, InPlace, LeaveThen, answer, stays, machine_after, shown_after}
use Rattle.xf_types.specs.IsMachine.{IsMachine}
use Rattle.xf_types.specs.Machine.{Machine, Shown, Outcome}
use Rattle.xf_types.specs.Steps.{step}
use Rattle.xf_types.specs.declared.call.Call.{Call}
use Rattle.xf_laws.proofs.MachineLemmas.{step-kept}
use Rattle.xf_rows.specs.Replies.{Answers}
use Rattle.xf_rows.proofs.Telling.{answers}
use Rattle.std.proofs.Common.{◌+◌, ◌-◌, ◌^◌, min, slice_index}
use Rattle.xf_sadlist.specs.Listed.{next_sid_in}
use Rattle.xf_sad.specs.Changes.{IsAt}
use Rattle.xf_sad.proofs.Found.{state_is}
use Rattle.xf_sadidx.specs.Layout.{record_at}
use Rattle.xf_statecalls.specs.Windows.{IsLarvalAt}
use Rattle.xf_types.specs.StateRules as rules_of_states
use Rattle.xf_sadidx.specs.declared.area.StateArea.{StateArea}
use Rattle.xf_sadidx.specs.Layout.{next_sid_place}
use Rattle.xf_types.specs.StateList.{has_sid, changed, is_none}
use Rattle.xf_types.specs.StateRules.{is_full, full_of_states, state_added_if_room, state_added_unless_found, state_updated, refreshed_record, larval_spec, allocated, free_spi}
use Rattle.xf_laws.specs.OwnLaws.{added_record}
use Rattle.xf_image.specs.Frames.{Frame}
use Rattle.xf_sadidx.specs.Layout.{end_of}
use Rattle.xf_sadimage.specs.States.{StatesStand}
use Rattle.xf_sad.specs.Changes.{Comes, new_state, entries_but}
use Rattle.xf_rows.specs.declared.layout.Layout.{Layout}
use Rattle.xf_rows.specs.Layouts.{Fits}
use Rattle.xf_rows.specs.Rows.{entries_in}
use Rattle.xf_rows.specs.Values.{Beside, value_put}
use Rattle.xf_rows.specs.Changes.{ended, new_value, acquiring}
use Rattle.xf_rows.specs.Stands.{Stands}
use Rattle.xf_rows.proofs.Leaving.{row_comes}
use Rattle.xf_statecalls.specs.Windows.{value_of_new}
use Rattle.xf_statecalls.proofs.Standing.{stands_behind}

-- ---- words and values

same_change : (s t : Shown) (leaves : Sa → Bool) (x y : NewState) → s ≡ t → x ≡ y → LeaveThen s leaves (Some x) ≡ LeaveThen t leaves (Some y)
same_change s t leaves x y e f =
    let same : LeaveThen s leaves (Some x) ≡ LeaveThen t leaves (Some y) = λ k. LeaveThen (e k) leaves (Some (f k)) in
    same

pub comes_stands : (layout : Layout) (i j k : List ℕ) (b : Beside) (m : Machine) (hidden seq slot : ℕ) (gave : ℕ → Type 0) (gone : Option ℕ) (rule : Answer) (new : NewState)
    (r : Stands layout i b m)
    → Fits layout (length i) → hidden ≤ layout.policies.base → Frame layout.states.base (end_of layout.states) i j → Frame 0 hidden j k
    → (x : Comes layout.states j m.shown (entries_in r.rows) gave gone slot rule)
    → x.shown ≡ acquiring m.shown seq → x.new ≡ new → slot < layout.states.slots → IsMachine (machine_after m rule.change)
    → Stands layout k (value_put (ended b gone) slot (new_value (acquiring m.shown seq) new)) (machine_after m rule.change)
comes_stands layout i j k b m hidden seq slot gave gone rule new r fits low first then_ x shown_is new_is below machine =
    let s : Shown = acquiring m.shown seq in
    let change : rule.change ≡ LeaveThen s x.leaves (Some new) = x.change ∙ same_change x.shown s x.leaves x.new new shown_is new_is in
    let record_is : new_state x.shown x.new ≡ new_state s new = ap (λ (t : Shown). new_state t x.new) shown_is ∙ ap (λ (n : NewState). new_state s n) new_is in
    let words : StatesStand layout.states j (shown_after m.shown (LeaveThen s x.leaves (Some new))) (entries_but gone (entries_in r.rows) ++ ((slot, new_state s new) ∷ [])) =
    subst (λ (c : Change). StatesStand layout.states j (shown_after m.shown c) (entries_but gone (entries_in r.rows) ++ ((slot, new_state s new) ∷ []))) change
    (subst (λ (y : Sa). StatesStand layout.states j (shown_after m.shown rule.change) (entries_but gone (entries_in r.rows) ++ ((slot, y) ∷ []))) record_is x.stands) in
    let is : IsMachine (machine_after m (LeaveThen s x.leaves (Some new))) = subst (λ (c : Change). IsMachine (machine_after m c)) change machine in
    let came : Stands layout j (value_put (ended b gone) slot (new_value s new)) (machine_after m (LeaveThen s x.leaves (Some new))) =
    row_comes layout i j b m seq x.leaves gone new slot r fits first x.tests below x.fresh words is in
    stands_behind layout j k (value_put (ended b gone) slot (new_value s new)) (machine_after m rule.change) hidden (subst (λ (n : ℕ). Fits layout n) (sym first.size) fits) low then_
    (subst (λ (c : Change). Stands layout j (value_put (ended b gone) slot (new_value s new)) (machine_after m c)) (sym change) came)

-- ---- what the rules add

-- The rule adds this to what is shown, and gives this reply.
pub record Adds (s : Shown) (shown : Shown) (new want : NewState) (rule : Answer) (given : Reply) : Type 0 where
  pub shown_is : shown ≡ s
  pub new_is : new ≡ want
  pub reply_is : given ≡ rule.reply

stays_adds : (r : Reply) (sh : Shown) (leaves : Sa → Bool) (new : NewState) → (stays r).change ≡ LeaveThen sh leaves (Some new) → ⊥
stays_adds r sh leaves new e = cc

place_adds : (r : Reply) (t sh : Shown) (leaves : Sa → Bool) (new : NewState) → (answer r (InPlace t)).change ≡ LeaveThen sh leaves (Some new) → ⊥
place_adds r t sh leaves new e = cc

leave_shown : (s sh : Shown) (l leaves : Sa → Bool) (x new : NewState) → LeaveThen s l (Some x) ≡ LeaveThen sh leaves (Some new) → sh ≡ s
leave_shown s sh l leaves x new e = cc

leave_new : (s sh : Shown) (l leaves : Sa → Bool) (x new : NewState) → LeaveThen s l (Some x) ≡ LeaveThen sh leaves (Some new) → new ≡ x
leave_new s sh l leaves x new e = cc

-- the answer where there may be room
room_by : Shown → (Sa → Bool) → NewState → Reply → Bool → Answer
room_by s l x r b = cond b (full_of_states s) (answer r (LeaveThen s l (Some x)))

room_adds : (s : Shown) (l : Sa → Bool) (x : NewState) (r : Reply) (b : Bool) (sh : Shown) (leaves : Sa → Bool) (new : NewState)
    → (room_by s l x r b).change ≡ LeaveThen sh leaves (Some new) → Adds s sh new x (room_by s l x r b) r
unfolding room_by
room_adds s l x r true sh leaves new = λ e. absurd (stays_adds (reply.Full (length s.states) 0) sh leaves new e)
room_adds s l x r false sh leaves new = λ e. record { shown_is = leave_shown s sh l leaves x new e; new_is = leave_new s sh l leaves x new e; reply_is = refl }

pub if_room_adds : (s : Shown) (l : Sa → Bool) (spec : SaSpec) (sh : Shown) (leaves : Sa → Bool) (new : NewState)
    → (state_added_if_room s l spec).change ≡ LeaveThen sh leaves (Some new) → Adds s sh new (record { spec = spec; larval = false }) (state_added_if_room s l spec) (reply.DoneSid s.next_sid)
unfolding room_by
if_room_adds s l spec sh leaves new e = room_adds s l (record { spec = spec; larval = false }) (reply.DoneSid s.next_sid) (is_full s) sh leaves new e

pub unless_found_adds : (s : Shown) (l : Sa → Bool) (spec : SaSpec) (o : Option Sa) (sh : Shown) (leaves : Sa → Bool) (new : NewState)
    → (state_added_unless_found s l spec o).change ≡ LeaveThen sh leaves (Some new)
    → Adds s sh new (record { spec = spec; larval = false }) (state_added_unless_found s l spec o) (reply.DoneSid s.next_sid)
unless_found_adds s l spec (Some old) sh leaves new = λ e. absurd (stays_adds (reply.StateExists old.sid) sh leaves new e)
unless_found_adds s l spec None sh leaves new = λ e. if_room_adds s l spec sh leaves new e

-- the answer for a state that was found, larval or not
updated_by : Shown → SaSpec → Sa → Bool → Answer
updated_by s spec old b =
    cond b (state_added_if_room s (has_sid old.sid) spec) (answer (reply.DoneSid old.sid) (InPlace (record s { states = changed old.sid (refreshed_record spec) s.states })))

larval_adds : (s : Shown) (spec : SaSpec) (old : Sa) (b : Bool) (sh : Shown) (leaves : Sa → Bool) (new : NewState)
    → (updated_by s spec old b).change ≡ LeaveThen sh leaves (Some new) → Adds s sh new (record { spec = spec; larval = false }) (updated_by s spec old b) (reply.DoneSid s.next_sid)
unfolding updated_by
larval_adds s spec old true sh leaves new = λ e. if_room_adds s (has_sid old.sid) spec sh leaves new e
larval_adds s spec old false sh leaves new = λ e.
    absurd (place_adds (reply.DoneSid old.sid) (record s { states = changed old.sid (refreshed_record spec) s.states }) sh leaves new e)

pub updated_adds : (s : Shown) (spec : SaSpec) (o : Option Sa) (sh : Shown) (leaves : Sa → Bool) (new : NewState)
    → (state_updated s spec o).change ≡ LeaveThen sh leaves (Some new) → Adds s sh new (record { spec = spec; larval = false }) (state_updated s spec o) (reply.DoneSid s.next_sid)
unfolding updated_by
updated_adds s spec None sh leaves new = λ e. absurd (stays_adds reply.NoState sh leaves new e)
updated_adds s spec (Some old) sh leaves new = λ e. larval_adds s spec old old.larval sh leaves new e

-- The rule of a request for an SPI adds a larval state with some SPI.
pub record Allots (s : Shown) (spec : AllocSpec) (shown : Shown) (new : NewState) (rule : Answer) : Type 0 where
  pub spi : ℕ
  pub adds : Adds s shown new (record { spec = larval_spec spec spi; larval = true }) rule (reply.DoneSpi spi s.next_sid)

allocated_adds : (s : Shown) (spec : AllocSpec) (o : Option ℕ) (sh : Shown) (leaves : Sa → Bool) (new : NewState)
    → (allocated s spec o).change ≡ LeaveThen sh leaves (Some new) → Allots s spec sh new (allocated s spec o)
unfolding room_by
allocated_adds s spec None sh leaves new = λ e. absurd (stays_adds reply.NoSpi sh leaves new e)
allocated_adds s spec (Some spi) sh leaves new = λ e.
    record { spi = spi; adds = room_adds s is_none (record { spec = larval_spec spec spi; larval = true }) (reply.DoneSpi spi s.next_sid) (is_full s) sh leaves new e }

-- the answer where the range may be empty
ranged_by : Shown → AllocSpec → Bool → Answer
ranged_by s spec b = cond b (stays reply.Invalid) (allocated s spec (free_spi spec s.states))

ranged_adds : (s : Shown) (spec : AllocSpec) (b : Bool) (sh : Shown) (leaves : Sa → Bool) (new : NewState)
    → (ranged_by s spec b).change ≡ LeaveThen sh leaves (Some new) → Allots s spec sh new (ranged_by s spec b)
unfolding ranged_by
ranged_adds s spec true sh leaves new = λ e. absurd (stays_adds reply.Invalid sh leaves new e)
ranged_adds s spec false sh leaves new = λ e. allocated_adds s spec (free_spi spec s.states) sh leaves new e

pub allots : (s : Shown) (spec : AllocSpec) (sh : Shown) (leaves : Sa → Bool) (new : NewState)
    → (Rattle.xf_types.specs.StateRules.alloc_spi s spec).change ≡ LeaveThen sh leaves (Some new) → Allots s spec sh new (Rattle.xf_types.specs.StateRules.alloc_spi s spec)
unfolding ranged_by
allots s spec sh leaves new e = ranged_adds s spec (nat_lt spec.max spec.min) sh leaves new e

-- ---- the call is answered

pub came : (layout : Layout) (i j k : List ℕ) (b c : Beside) (m : Machine) (hidden slot : ℕ) (gave : ℕ → Type 0) (gone : Option ℕ) (rule : Answer) (seq : ℕ) (new : NewState) (state : Sa)
    (call : Call) (given said : Reply) (r : Stands layout i b m)
    → Fits layout (length i) → hidden ≤ layout.policies.base → Frame layout.states.base (end_of layout.states) i j → Frame 0 hidden j k
    → (x : Comes layout.states j m.shown (entries_in r.rows) gave gone slot rule)
    → Adds (acquiring m.shown seq) x.shown x.new new rule given
    → slot < layout.states.slots → state ≡ added_record (acquiring m.shown seq) new → c ≡ value_put (ended b gone) slot (value_of_new state) → said ≡ given
    → ◌≡◌ {A = Outcome} (step m call) (applied m rule)
    → Answers layout k c m call said
came layout i j k b c m hidden slot gave gone rule seq new state call given said r fits low first then_ x adds below state_is value_is said_is whole =
    let s : Shown = acquiring m.shown seq in
    let machine : IsMachine (machine_after m rule.change) = subst (λ (o : Outcome). IsMachine o.machine) whole (step-kept m call r.machine) in
    let stands : Stands layout k (value_put (ended b gone) slot (new_value s new)) (machine_after m rule.change) =
    comes_stands layout i j k b m hidden seq slot gave gone rule new r fits low first then_ x adds.shown_is adds.new_is below machine in
    let value : value_put (ended b gone) slot (new_value s new) ≡ c = sym (value_is ∙ ap (λ (y : Sa). value_put (ended b gone) slot (value_of_new y)) state_is) in
    answers layout k c m call said (said_is ∙ adds.reply_is ∙ ap (λ (o : Outcome). o.reply) (sym whole))
    (subst (λ (o : Outcome). Stands layout k c o.machine) (sym whole) (subst (λ (d : Beside). Stands layout k d (machine_after m rule.change)) value stands))

-- ---- what the words tell of the machine

word_below : (w n : ℕ) → w + 1 ≡ n → min (w + 1) (2 ^ 64 - 1) < 2 ^ 63 → n < 2 ^ 63
word_below w n e l = omega (arith, e, l)

-- the id of the next state is below 2 ^ 63 where its word tells so
pub young_is : (a : StateArea) (i : List ℕ) (s : Shown) (es : List (ℕ × Sa)) → StatesStand a i s es → next_sid_in a i < 2 ^ 63 → s.next_sid < 2 ^ 63
young_is a i s es st l = let counters = st.counters in word_below (slice_index i (next_sid_place a)) s.next_sid counters.next_sid l

pub at_now : (layout : Layout) (i : List ℕ) (b : Beside) (m : Machine) (now : ℕ) (r : Stands layout i b m) → now ≡ slice_index i layout.clock → next_sid_in layout.states i < 2 ^ 63
    → IsAt m.shown now
at_now layout i b m now r is young = record {
  sid = young_is layout.states i m.shown (entries_in r.rows) r.on_states young;
  states = r.machine.shown.states;
  room = r.machine.shown.room;
  range = r.machine.shown.range;
  time = sym r.time ∙ sym is;
}

-- ---- what stands in the new slot

pub came_record : (a : StateArea) (j : List ℕ) (s : Shown) (es : List (ℕ × Sa)) (gave : ℕ → Type 0) (gone : Option ℕ) (slot : ℕ) (rule : Answer) (t : Shown) (new : NewState)
    (x : Comes a j s es gave gone slot rule) → x.shown ≡ t → x.new ≡ new → record_at a j slot ≡ Some (added_record t new)
came_record a j s es gave gone slot rule t new x shown_is new_is =
    state_is a j (shown_after s rule.change) slot (entries_but gone es) [] (new_state x.shown x.new) x.stands
    ∙ ap (λ (y : Shown). Some (new_state y x.new)) shown_is ∙ ap (λ (y : NewState). Some (new_state t y)) new_is

pub allotted : (a : StateArea) (j : List ℕ) (s : Shown) (es : List (ℕ × Sa)) (gave : ℕ → Type 0) (slot : ℕ) (spec : AllocSpec)
    (x : Comes a j s es gave None slot (rules_of_states.alloc_spi s spec)) → Allots s spec x.shown x.new (rules_of_states.alloc_spi s spec)
allotted a j s es gave slot spec x = allots s spec x.shown x.leaves x.new x.change

pub larval_came : (a : StateArea) (j : List ℕ) (s : Shown) (es : List (ℕ × Sa)) (gave : ℕ → Type 0) (slot : ℕ) (spec : AllocSpec)
    → Comes a j s es gave None slot (rules_of_states.alloc_spi s spec) → IsLarvalAt a j slot
larval_came a j s es gave slot spec x =
    let l : Allots s spec x.shown x.new (rules_of_states.alloc_spi s spec) = allotted a j s es gave slot spec x in
    record {
      state = added_record s (record { spec = larval_spec spec l.spi; larval = true });
      record_is = came_record a j s es gave None slot (rules_of_states.alloc_spi s spec) s (record { spec = larval_spec spec l.spi; larval = true }) x l.adds.shown_is l.adds.new_is;
      window = refl;
      start = refl;
    }

word_small : (w n : ℕ) → w + 1 ≡ n → n < 2 ^ 63 → min (w + 1) (2 ^ 64 - 1) < 2 ^ 63
word_small w n e l = omega (arith, e, l)

-- and the other way round
pub young_word : (a : StateArea) (i : List ℕ) (s : Shown) (es : List (ℕ × Sa)) → StatesStand a i s es → s.next_sid < 2 ^ 63 → next_sid_in a i < 2 ^ 63
young_word a i s es st l = let counters = st.counters in word_small (slice_index i (next_sid_place a)) s.next_sid counters.next_sid l
