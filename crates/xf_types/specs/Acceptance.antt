-- Which packets a history accepts, and that no number is accepted twice (RFC 4303, 3.4.3).
use Rattle.std.specs.Prelude.{◌≡◌, ℕ, ◌==◌, List, [], ◌∷◌, ◌++◌, Option, None, Some, AllPairs, option_to_list, if◌then◌else◌}
use Rattle.std.specs.Option.{option_map}
use Rattle.xf_types.specs.declared.state.Sa.{Sa}
use Rattle.xf_types.specs.declared.call.Packet.{Packet}
use Rattle.xf_types.specs.declared.call.Call.{Call}
use Rattle.xf_types.specs.declared.call.Call.TheVariants as call
use Rattle.xf_types.specs.declared.call.Reply.{Reply}
use Rattle.xf_types.specs.declared.call.Reply.TheVariants as reply
use Rattle.xf_types.specs.declared.call.Receipt.{Receipt}
use Rattle.xf_types.specs.Machine.{Machine}
use Rattle.xf_types.specs.StateList.{latest_match}
use Rattle.xf_types.specs.OwnParts.{own_in}
use Rattle.xf_types.specs.TrafficRules.{packet_number, id_of_packet}
use Rattle.xf_types.specs.History.{machine_next}

-- a state id, and a number that the state accepted
pub record Accepting : Type 0 where
  pub sid : ℕ
  pub number : ℕ

-- the number that a packet has at the state that was found, where this has a replay window
abbrev pub number_at : Machine → Packet → Option Sa → Option Accepting
number_at m p None = None
number_at m p (Some s) =
    if s.spec.window == 0 then None
    else option_map (λ n. record { sid = s.sid; number = n }) (packet_number s (own_in m s) p.seq)

-- what a packet that was accepted adds
abbrev pub accepting_of : Machine → Call → Reply → Option Accepting
accepting_of m (call.Packet p) (reply.Accepted top soft) = number_at m p (latest_match m.shown.states (id_of_packet p))
accepting_of m c other = None

-- what the states with a replay window accept in a history that begins at this machine
abbrev pub acceptings : Machine → List Receipt → List Accepting
acceptings m [] = []
acceptings m (r ∷ rs) = option_to_list (accepting_of m r.call r.reply) ++ acceptings (machine_next m r) rs

-- no state with a replay window accepts a number twice; over several phases the histories are joined
abbrev pub AcceptsOnce : Machine → List Receipt → Type 0
AcceptsOnce start history = AllPairs (λ a b. a ≡ b → ⊥) (acceptings start history)
