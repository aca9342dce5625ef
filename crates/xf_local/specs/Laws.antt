-- What a packet, an output and time do in the machine that has one state alone, by the rules of one state.
use Rattle.std.specs.Prelude.{◌≡◌, ℕ, max, true, false, [], option_to_list}
use Rattle.xf_types.specs.declared.call.Call.TheVariants.{Tick}
use Rattle.xf_types.specs.declared.call.Packet.{Packet}
use Rattle.xf_types.specs.declared.call.Reply.TheVariants.{NoState, Ticked}
use Rattle.xf_types.specs.Machine.{Machine, outcome}
use Rattle.xf_types.specs.OneState.{dying_if}
use Rattle.xf_types.specs.StateList.{has_id}
use Rattle.xf_types.specs.Steps.{step}
use Rattle.xf_types.specs.TrafficRules.{Fate, Same, Ends, Becomes, id_of_packet, packet_at, output_at}
use Rattle.xf_local.specs.View.{LiveView, Live, aged, event_of}
use Rattle.xf_local.specs.Alone.{machine_of, step_of, left_in, Inward, Outward}

-- the machine after the fate of its one state
abbrev pub machine_after : LiveView → Fate → Machine
machine_after l Same = machine_of l
machine_after l Ends = record { shown = record (machine_of l).shown { states = [] }; own = [] }
machine_after l (Becomes soft own) = machine_of (record l { state = dying_if soft l.state; own = own })

-- a packet that names the state, and each output, have the reply and the fate of the state's rule; another packet finds none. A
-- tick, which never goes back, reports the value's event, and leaves the value that has that age
pub record OneStateLaws : Type 0 where
  pub packet : (l : LiveView) (p : Packet) → has_id (id_of_packet p) l.state ≡ true
      → step_of l (Inward p)
      ≡ outcome (packet_at p l.time l.state l.own).reply (machine_after l (packet_at p l.time l.state l.own).fate)
  pub other_packet : (l : LiveView) (p : Packet) → has_id (id_of_packet p) l.state ≡ false
      → step_of l (Inward p) ≡ outcome NoState (machine_of l)
  pub output : (l : LiveView) (len : ℕ)
      → step_of l (Outward len)
      ≡ outcome (output_at len l.time l.state l.own).reply (machine_after l (output_at len l.time l.state l.own).fate)
  pub event : (l : LiveView) (given : ℕ)
      → let now = max l.time given in
      (step (machine_of l) (Tick given)).reply ≡ Ticked now (option_to_list (event_of now (Live l)))
  pub aged : (l : LiveView) (given : ℕ)
      → let now = max l.time given in left_in (step (machine_of l) (Tick given)).machine ≡ aged now (Live l)
