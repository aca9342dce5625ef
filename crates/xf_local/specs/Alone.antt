-- The machine that has one state alone.
use Rattle.std.specs.Prelude.{ℕ, List, [], ◌∷◌}
use Rattle.xf_types.specs.declared.state.Sa.{Sa}
use Rattle.xf_types.specs.declared.call.Packet.{Packet}
use Rattle.xf_types.specs.declared.call.Call.{Call}
use Rattle.xf_types.specs.declared.call.Call.TheVariants as call
use Rattle.xf_types.specs.Machine.{Machine, Own, Outcome}
use Rattle.xf_types.specs.Steps.{empty_shown, step}
use Rattle.xf_local.specs.View.{LiveView, LocalView, Dead, Live}

-- the machine with this state alone, at its time. Counters and capacities are the empty machine's: no packet and no output
-- asks for them
abbrev pub machine_of : LiveView → Machine
machine_of l =
    record {
      shown = record (empty_shown 4096 8192) { states = l.state ∷ []; time = l.time };
      own = l.own ∷ [];
    }

-- the first state of the lists, at this time; dead where there is none
abbrev pub first_at : ℕ → List Sa → List Own → LocalView
first_at time [] own = Dead
first_at time (s ∷ states) [] = Dead
first_at time (s ∷ states) (o ∷ own) = Live (record { state = s; own = o; time = time })

-- the one state that is left in such a machine, or none
abbrev pub left_in : Machine → LocalView
left_in m = first_at m.shown.time m.shown.states m.own

-- what a state is asked: a packet that came in, or an output of this length
pub data Traffic : Type 0 where
  Inward : (p : Packet) → Traffic
  Outward : (len : ℕ) → Traffic

-- the call that asks it; an output names the state itself
abbrev pub call_of : LiveView → Traffic → Call
call_of l (Inward p) = call.Packet p
call_of l (Outward len) = call.Output l.state.sid len

-- one step of the machine with this state alone
abbrev pub step_of : LiveView → Traffic → Outcome
step_of l t = step (machine_of l) (call_of l t)
