-- What a packet or an output reads: the record of the state that it is for, the state's own part and the time alone.
use Rattle.std.specs.Prelude.{◌≡◌, ℕ, Some, find}
use Rattle.xf_types.specs.declared.state.Sa.{Sa}
use Rattle.xf_types.specs.declared.call.Packet.{Packet}
use Rattle.xf_types.specs.declared.call.Call.{Call}
use Rattle.xf_types.specs.declared.call.Call.TheVariants as call
use Rattle.xf_types.specs.Machine.{Machine, Shown}
use Rattle.xf_types.specs.StateList.{latest_match, has_sid}
use Rattle.xf_types.specs.OwnParts.{own_in}
use Rattle.xf_types.specs.TrafficRules.{id_of_packet}
use Rattle.xf_types.specs.Steps.{step, rule_of}
use Rattle.xf_types.specs.Moves.{state_found}
use Rattle.xf_types.specs.IsMachine.{IsMachine}

-- two machines in which a call is for the same state, with the same own part, at the same time. All else may differ
pub record TellOfState (m n : Machine) (c : Call) (x : Sa) : Type 0 where
  pub found : state_found (rule_of m.shown c) ≡ Some x
  pub found_too : state_found (rule_of n.shown c) ≡ Some x
  pub time : m.shown.time ≡ n.shown.time
  pub own : own_in m x ≡ own_in n x

pub record TrafficLaws : Type 0 where
  -- an output is for the state that is listed under its state id, a packet for the latest match
  pub output : (s : Shown) (sid len : ℕ) → state_found (rule_of s (call.Output sid len)) ≡ find (has_sid sid) s.states
  pub packet : (s : Shown) (k : Packet) → state_found (rule_of s (call.Packet k)) ≡ latest_match s.states (id_of_packet k)
  -- it gets the same reply in both machines
  pub reply : (m n : Machine) (c : Call) (x : Sa) → TellOfState m n c x → (step m c).reply ≡ (step n c).reply
  -- and leaves the state the same own part
  pub own : (m n : Machine) (c : Call) (x : Sa) → IsMachine m → IsMachine n → TellOfState m n c x
      → own_in (step m c).machine x ≡ own_in (step n c).machine x
  -- and the same record, or none
  pub listed : (m n : Machine) (c : Call) (x : Sa) → IsMachine m → IsMachine n → TellOfState m n c x
      → find (has_sid x.sid) (step m c).machine.shown.states ≡ find (has_sid x.sid) (step n c).machine.shown.states
