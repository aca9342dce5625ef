-- What words and values stand for after rows left, one came, or one is another one in its slot.
use Rattle.std.specs.Prelude.{◌≡◌, ℕ, ◌<◌, ◌==◌, ◌||◌, Bool, true, false, List, [], ◌∷◌, ◌++◌, Option, None, Some, length}
use Rattle.xf_types.specs.declared.state.Sa.{Sa}
use Rattle.xf_types.specs.declared.state.SaSpec.{SaSpec}
use Rattle.xf_types.specs.declared.state.AllocSpec.{AllocSpec}
use Rattle.xf_types.specs.declared.network.Addr.{Addr}
use Rattle.xf_types.specs.declared.policy.Policy.{Policy}
use Rattle.xf_types.specs.declared.policy.Template.{Template}
use Rattle.xf_types.specs.Machine.{Machine, Shown}
use Rattle.xf_types.specs.StateRules.{state_add, state_update, alloc_spi}
use Rattle.xf_types.specs.FlowRules as flows
use Rattle.xf_types.specs.PolicyList.{without}
use Rattle.xf_types.specs.StateList.{has_sid, changed}
use Rattle.xf_types.specs.Changes.{NewState, Change, InPlace, LeaveThen, machine_after, shown_after, without_states, without_then}
use Rattle.xf_types.specs.OneState.{put_back}
use Rattle.xf_types.specs.TrafficRules.{Fate}
use Rattle.xf_types.specs.IsMachine.{IsMachine}
use Rattle.xf_laws.specs.OwnLaws.{added_record}
use Rattle.xf_local.specs.View.{Dead}
use Rattle.xf_chain.specs.Lists.{Misses}
use Rattle.xf_index.specs.Indexes.{slots_in, records_in}
use Rattle.xf_image.specs.Frames.{Frame}
use Rattle.xf_sadidx.specs.Layout.{end_of}
use Rattle.xf_sadimage.specs.States.{StatesStand}
use Rattle.xf_rows.specs.declared.layout.Layout.{Layout}
use Rattle.xf_rows.specs.Layouts.{Fits}
use Rattle.xf_rows.specs.Rows.{Row, entries_in, value_of}
use Rattle.xf_rows.specs.Values.{Beside, value_put}
use Rattle.xf_rows.specs.Stands.{Stands}
use Rattle.xf_rows.specs.Changes.{is_slot, entries_but, TellAlike, AreEnded, ended, new_value, acquiring, OnlyAcquires}
use Rattle.xf_rows.specs.Fates.{entries_fated, value_fated}

pub record RowLaws : Type 0 where
  -- some states leave, and the values of their slots end
  pub leave : (layout : Layout) (i j : List ℕ) (b c : Beside) (m : Machine) (leaves : Sa → Bool) (gone : ℕ → Bool) (r : Stands layout i b m)
      → Fits layout (length i) → Frame layout.states.base (end_of layout.states) i j
      → TellAlike leaves gone (entries_in r.rows) → AreEnded gone b c
      → StatesStand layout.states j (without_states m.shown leaves) (without (λ (e : ℕ × Sa). gone e.0) (entries_in r.rows))
      → Stands layout j c (machine_after m (LeaveThen m.shown leaves None))
  -- one leaves
  pub leave_one : (layout : Layout) (i j : List ℕ) (b : Beside) (m : Machine) (x : Row) (front back : List Row) (r : Stands layout i b m)
      → Fits layout (length i) → Frame layout.states.base (end_of layout.states) i j → r.rows ≡ front ++ (x ∷ back)
      → StatesStand layout.states j (record m.shown { states = records_in (entries_in front ++ entries_in back) }) (entries_in front ++ entries_in back)
      → Stands layout j (value_put b x.0 Dead) (machine_after m (LeaveThen m.shown (has_sid x.1.0.sid) None))
  -- at most one leaves, and one comes last in a slot that was free
  pub come : (layout : Layout) (i j : List ℕ) (b : Beside) (m : Machine) (seq : ℕ) (leaves : Sa → Bool) (gone : Option ℕ) (new : NewState) (slot : ℕ)
      (r : Stands layout i b m)
      → Fits layout (length i) → Frame layout.states.base (end_of layout.states) i j
      → TellAlike leaves (is_slot gone) (entries_in r.rows) → slot < layout.states.slots → Misses slot (slots_in (entries_in r.rows))
      → StatesStand layout.states j (without_then (acquiring m.shown seq) leaves (Some new))
      (entries_but gone (entries_in r.rows) ++ ((slot, added_record (acquiring m.shown seq) new) ∷ []))
      → IsMachine (machine_after m (LeaveThen (acquiring m.shown seq) leaves (Some new)))
      → Stands layout j (value_put (ended b gone) slot (new_value (acquiring m.shown seq) new)) (machine_after m (LeaveThen (acquiring m.shown seq) leaves (Some new)))
  -- the same by a rule's change
  pub come_by : (layout : Layout) (i j : List ℕ) (b : Beside) (m : Machine) (change : Change) (shown : Shown) (leaves : Sa → Bool) (gone : Option ℕ)
      (new : NewState) (slot : ℕ) (r : Stands layout i b m)
      → Fits layout (length i) → Frame layout.states.base (end_of layout.states) i j
      → change ≡ LeaveThen shown leaves (Some new) → OnlyAcquires m.shown change
      → TellAlike leaves (is_slot gone) (entries_in r.rows) → slot < layout.states.slots → Misses slot (slots_in (entries_in r.rows))
      → StatesStand layout.states j (shown_after m.shown change) (entries_but gone (entries_in r.rows) ++ ((slot, added_record shown new) ∷ []))
      → IsMachine (machine_after m change)
      → Stands layout j (value_put (ended b gone) slot (new_value shown new)) (machine_after m change)
  -- and these are the rules by which a state comes
  pub adding : (s : Shown) (spec : SaSpec) → OnlyAcquires s (state_add s spec).change
  pub updating : (s : Shown) (spec : SaSpec) → OnlyAcquires s (state_update s spec).change
  pub allocating : (s : Shown) (spec : AllocSpec) → OnlyAcquires s (alloc_spi s spec).change
  pub acquired : (s : Shown) (p : Policy) (t : Template) (src dst : Addr) → OnlyAcquires s (flows.acquired s p t src dst).change
  -- one has another record, and its own part stays
  pub change : (layout : Layout) (i j : List ℕ) (b : Beside) (m : Machine) (f : Sa → Sa) (x : Row) (front back : List Row) (r : Stands layout i b m)
      → Fits layout (length i) → Frame layout.states.base (end_of layout.states) i j → r.rows ≡ front ++ (x ∷ back)
      → StatesStand layout.states j (record m.shown { states = records_in (entries_in front ++ ((x.0, f x.1.0) ∷ entries_in back)) })
      (entries_in front ++ ((x.0, f x.1.0) ∷ entries_in back))
      → IsMachine (machine_after m (InPlace (record m.shown { states = changed x.1.0.sid f m.shown.states })))
      → Stands layout j (value_put b x.0 (value_of m.shown.time (x.0, (f x.1.0, x.1.1))))
      (machine_after m (InPlace (record m.shown { states = changed x.1.0.sid f m.shown.states })))
  -- one has its fate
  pub fate : (layout : Layout) (i j : List ℕ) (b : Beside) (m : Machine) (x : Row) (front back : List Row) (f : Fate) (r : Stands layout i b m)
      → Fits layout (length i) → Frame layout.states.base (end_of layout.states) i j → r.rows ≡ front ++ (x ∷ back) → b.held x.0 ≡ true
      → StatesStand layout.states j (record m.shown { states = records_in (entries_fated (entries_in front) x.0 x.1.0 (entries_in back) f) })
      (entries_fated (entries_in front) x.0 x.1.0 (entries_in back) f)
      → IsMachine (put_back m x.1.0 f)
      → Stands layout j (value_put b x.0 (value_fated m.shown.time x f)) (put_back m x.1.0 f)
  -- a state id and its slot name the same entry
  pub named : (layout : Layout) (i : List ℕ) (b : Beside) (m : Machine) (x : Row) (front back : List Row) (r : Stands layout i b m)
      → r.rows ≡ front ++ (x ∷ back) → TellAlike (has_sid x.1.0.sid) (is_slot (Some x.0)) (entries_in r.rows)
  -- values end one after another
  pub none_ended : (b : Beside) → AreEnded (λ slot. false) b b
  pub more_ended : (b c : Beside) (gone : ℕ → Bool) (slot : ℕ) → AreEnded gone b c → AreEnded (λ other. (other == slot) || gone other) b (value_put c slot Dead)
