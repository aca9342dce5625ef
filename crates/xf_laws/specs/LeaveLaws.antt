-- What a call leaves: all but the own part of the state that it is for, where its reply doesn't move; and where it does, the own part
-- of each other state that stays.
use Rattle.std.specs.Prelude.{◌≡◌, ◌≢◌, ℕ, Bool, false, List, Option, None, IsTrue, IfSome}
use Rattle.std.specs.List.{list_any}
use Rattle.xf_types.specs.declared.state.Sa.{Sa}
use Rattle.xf_types.specs.declared.call.Call.{Call}
use Rattle.xf_types.specs.declared.call.Receipt.{Receipt}
use Rattle.xf_types.specs.Machine.{Machine, Own}
use Rattle.xf_types.specs.StateList.{has_sid}
use Rattle.xf_types.specs.OwnParts.{own_of}
use Rattle.xf_types.specs.Steps.{step, rule_of}
use Rattle.xf_types.specs.Moves.{is_moving, state_found}
use Rattle.xf_types.specs.History.{Moment, MayReply, machine_next}
use Rattle.xf_types.specs.IsMachine.{IsMachine}

-- a state with this state id is listed
abbrev pub is_listed : ℕ → List Sa → Bool
is_listed sid states = list_any (has_sid sid) states

-- the state id is not that of this state, where there is one
abbrev pub IsAnother : Option Sa → ℕ → Type 0
IsAnother one sid = IfSome one (λ x. x.sid ≢ sid)

-- the machine is as it was, but for the own part of this state, where there is one
pub record IsLeftBut (one : Option Sa) (m n : Machine) : Type 0 where
  pub shown : n.shown ≡ m.shown
  pub own : (sid : ℕ) (none : Own) → IsAnother one sid
      → own_of sid n.shown.states n.own none ≡ own_of sid m.shown.states m.own none

pub record LeaveLaws : Type 0 where
  -- a call whose reply doesn't move leaves all but the own part of the state that it is for
  pub still : (m : Machine) (c : Call) → IsMachine m → is_moving (step m c).reply ≡ false
      → IsLeftBut (state_found (rule_of m.shown c)) m (step m c).machine
  -- and the whole machine where it is for none
  pub whole : (m : Machine) (c : Call) → IsMachine m → is_moving (step m c).reply ≡ false → state_found (rule_of m.shown c) ≡ None
      → (step m c).machine ≡ m
  -- so does each receipt that may stand in a history and doesn't move, want of memory and what comes of other threads among them
  pub receipt : (t : Moment) (r : Receipt) → IsMachine t.machine → MayReply t r r.reply → is_moving r.reply ≡ false
      → IsLeftBut (state_found (rule_of t.machine.shown r.call)) t.machine (machine_next t.machine r)
  -- a call that moves leaves the own part of each state that was listed, still is, and is another than the one that it is for
  pub moved : (m : Machine) (c : Call) (sid : ℕ) (none : Own) → IsMachine m → IsAnother (state_found (rule_of m.shown c)) sid
      → IsTrue (is_listed sid m.shown.states) → IsTrue (is_listed sid (step m c).machine.shown.states)
      → own_of sid (step m c).machine.shown.states (step m c).machine.own none ≡ own_of sid m.shown.states m.own none
