-- A state comes by a rule.
use Rattle.std.proofs.Common.{ℕ, ◌≡◌, ◌<◌, Bool, true, false, List, [], ◌∷◌, ◌++◌, length, refl, sym, subst, cond, Option, None, Some, nat_le, nat_lt}
use Rattle.xf_types.specs.declared.network.Addr.{Addr}
use Rattle.xf_types.specs.declared.call.Reply.TheVariants as reply
use Rattle.xf_types.specs.declared.policy.Policy.{Policy}
use Rattle.xf_types.specs.declared.policy.Template.{Template}
use Rattle.xf_types.specs.declared.state.Sa.{Sa}
use Rattle.xf_types.specs.declared.state.SaSpec.{SaSpec}
use Rattle.xf_types.specs.declared.state.AllocSpec.{AllocSpec}
use Rattle.xf_types.specs.Counters.{next_in}
use Rattle.xf_types.specs.Machine.{Machine, Shown}
use Rattle.xf_types.specs.PolicyList.{without}
use Rattle.xf_types.specs.StateList.{has_sid, is_that, is_none, larval_replaced, latest_match, id_of, changed}
use Rattle.xf_types.specs.StateRules.{state_add, state_update, alloc_spi, state_added_if_room, state_added_unless_found, state_updated, allocated, full_of_states, free_spi, larval_spec, refreshed_record}
use Rattle.xf_types.specs.FlowRules as flows
use Rattle.xf_types.specs.Changes.{NewState, Change, InPlace, LeaveThen, machine_after, shown_after, answer, stays}
use Rattle.xf_types.specs.IsMachine.{IsMachine}
use Rattle.xf_laws.specs.OwnLaws.{added_record}
use Rattle.xf_chain.specs.Lists.{Misses}
use Rattle.xf_index.specs.Indexes.{slots_in}
use Rattle.xf_image.specs.Frames.{Frame}
use Rattle.xf_sadidx.specs.Layout.{end_of}
use Rattle.xf_sadimage.specs.States.{StatesStand}
use Rattle.xf_rows.specs.declared.layout.Layout.{Layout}
use Rattle.xf_rows.specs.Layouts.{Fits}
use Rattle.xf_rows.specs.Rows.{entries_in}
use Rattle.xf_rows.specs.Values.{Beside, value_put}
use Rattle.xf_rows.specs.Stands.{Stands}
use Rattle.xf_rows.specs.Changes.{is_slot, entries_but, TellAlike, ended, new_value, acquiring, OnlyAcquires}
use Rattle.xf_rows.proofs.Leaving.{row_comes}

pub row_comes_by : (layout : Layout) (i j : List ℕ) (b : Beside) (m : Machine) (change : Change) (shown : Shown) (leaves : Sa → Bool) (gone : Option ℕ)
    (new : NewState) (slot : ℕ) (r : Stands layout i b m)
    → Fits layout (length i) → Frame layout.states.base (end_of layout.states) i j
    → change ≡ LeaveThen shown leaves (Some new) → OnlyAcquires m.shown change
    → TellAlike leaves (is_slot gone) (entries_in r.rows) → slot < layout.states.slots → Misses slot (slots_in (entries_in r.rows))
    → StatesStand layout.states j (shown_after m.shown change) (entries_but gone (entries_in r.rows) ++ ((slot, added_record shown new) ∷ []))
    → IsMachine (machine_after m change)
    → Stands layout j (value_put (ended b gone) slot (new_value shown new)) (machine_after m change)
row_comes_by layout i j b m change shown leaves gone new slot r fits frame is only alike below miss st machine =
    let es : List (ℕ × Sa) = entries_in r.rows in
    let same : shown ≡ acquiring m.shown shown.next_seq = subst (λ (k : Change). OnlyAcquires m.shown k) is only in
    let st1 : StatesStand layout.states j (shown_after m.shown (LeaveThen shown leaves (Some new))) (entries_but gone es ++ ((slot, added_record shown new) ∷ [])) =
    subst (λ (k : Change). StatesStand layout.states j (shown_after m.shown k) (entries_but gone es ++ ((slot, added_record shown new) ∷ []))) is st in
    let machine1 : IsMachine (machine_after m (LeaveThen shown leaves (Some new))) = subst (λ (k : Change). IsMachine (machine_after m k)) is machine in
    let s : Shown = acquiring m.shown shown.next_seq in
    let whole : Stands layout j (value_put (ended b gone) slot (new_value s new)) (machine_after m (LeaveThen s leaves (Some new))) =
    row_comes layout i j b m shown.next_seq leaves gone new slot r fits frame alike below miss
    (subst (λ (t : Shown). StatesStand layout.states j (shown_after m.shown (LeaveThen t leaves (Some new))) (entries_but gone es ++ ((slot, added_record t new) ∷ []))) same st1)
    (subst (λ (t : Shown). IsMachine (machine_after m (LeaveThen t leaves (Some new)))) same machine1) in
    subst (λ (k : Change). Stands layout j (value_put (ended b gone) slot (new_value shown new)) (machine_after m k)) (sym is)
    (subst (λ (t : Shown). Stands layout j (value_put (ended b gone) slot (new_value t new)) (machine_after m (LeaveThen t leaves (Some new)))) (sym same) whole)

-- ---- the rules by which a state comes

room_acquires : (s : Shown) (leaves : Sa → Bool) (spec : SaSpec) → OnlyAcquires s (state_added_if_room s leaves spec).change
room_acquires s leaves spec =
    elim (nat_le s.max_states (length s.states)) as (λ b. OnlyAcquires s (cond b (full_of_states s)
    (answer (reply.DoneSid s.next_sid) (LeaveThen s leaves (Some (record { spec = spec; larval = false }))))).change) [ true ↦ tt | false ↦ refl ]

unless_acquires : (s : Shown) (leaves : Sa → Bool) (spec : SaSpec) (o : Option Sa) → OnlyAcquires s (state_added_unless_found s leaves spec o).change
unless_acquires s leaves spec None = room_acquires s leaves spec
unless_acquires s leaves spec (Some old) = tt

pub add_acquires : (s : Shown) (spec : SaSpec) → OnlyAcquires s (state_add s spec).change
add_acquires s spec =
    unless_acquires s (is_that (larval_replaced s.states spec)) spec (latest_match (without (is_that (larval_replaced s.states spec)) s.states) (id_of spec))

updated_acquires : (s : Shown) (spec : SaSpec) (o : Option Sa) → OnlyAcquires s (state_updated s spec o).change
updated_acquires s spec None = tt
updated_acquires s spec (Some old) =
    elim old.larval as (λ b. OnlyAcquires s (cond b (state_added_if_room s (has_sid old.sid) spec)
    (answer (reply.DoneSid old.sid) (InPlace (record s { states = changed old.sid (refreshed_record spec) s.states })))).change) [
      | true ↦ room_acquires s (has_sid old.sid) spec
      | false ↦ tt
    ]

pub update_acquires : (s : Shown) (spec : SaSpec) → OnlyAcquires s (state_update s spec).change
update_acquires s spec = updated_acquires s spec (latest_match s.states (id_of spec))

allocated_acquires : (s : Shown) (spec : AllocSpec) (o : Option ℕ) → OnlyAcquires s (allocated s spec o).change
allocated_acquires s spec None = tt
allocated_acquires s spec (Some spi) =
    elim (nat_le s.max_states (length s.states)) as (λ b. OnlyAcquires s (cond b (full_of_states s)
    (answer (reply.DoneSpi spi s.next_sid) (LeaveThen s is_none (Some (record { spec = larval_spec spec spi; larval = true }))))).change) [ true ↦ tt | false ↦ refl ]

pub alloc_acquires : (s : Shown) (spec : AllocSpec) → OnlyAcquires s (alloc_spi s spec).change
alloc_acquires s spec =
    elim (nat_lt spec.max spec.min) as (λ b. OnlyAcquires s (cond b (stays reply.Invalid) (allocated s spec (free_spi spec s.states))).change) [
      | true ↦ tt
      | false ↦ allocated_acquires s spec (free_spi spec s.states)
    ]

pub acquire_acquires : (s : Shown) (p : Policy) (t : Template) (src dst : Addr) → OnlyAcquires s (flows.acquired s p t src dst).change
acquire_acquires s p t src dst =
    elim (nat_le s.max_states (length s.states)) as (λ b. OnlyAcquires s (cond b (full_of_states s)
    (answer (reply.Acquire (flows.free_seq s)) (LeaveThen (record s { next_seq = next_in flows.last_seq (flows.free_seq s) }) is_none
    (Some (record { spec = flows.acquired_spec p t src dst (flows.free_seq s); larval = true }))))).change) [ true ↦ tt | false ↦ refl ]
