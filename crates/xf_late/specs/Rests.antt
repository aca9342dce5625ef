-- On whose own part a receipt rests, and what it does to it.
use Rattle.std.specs.Prelude.{ℕ, Option, None, Some, if◌then◌else◌}
use Rattle.std.specs.Option.{option_map}
use Rattle.xf_types.specs.declared.call.Call.{Call}
use Rattle.xf_types.specs.declared.call.Call.TheVariants as call
use Rattle.xf_types.specs.declared.call.Receipt.{Receipt}
use Rattle.xf_types.specs.declared.state.Sa.{Sa}
use Rattle.xf_types.specs.Machine.{Own, Shown}
use Rattle.xf_types.specs.StateList.{has_sid}
use Rattle.xf_types.specs.OwnParts.{new_own}
use Rattle.xf_types.specs.TrafficRules.{Fate, Same, Ends, Becomes, packet_at, output_at}
use Rattle.xf_types.specs.Steps.{rule_of}
use Rattle.xf_types.specs.Moves.{state_found}
use Rattle.xf_types.specs.History.{is_exception}

-- the id of the state on whose own part a receipt rests: the one that its call is for. An exception rests on none
abbrev pub rests_on : Shown → Receipt → Option ℕ
rests_on s r = if is_exception r.reply then None else option_map (λ (x : Sa). x.sid) (state_found (rule_of s r.call))

-- the own part of a state after its fate; of one that ended it is what one with such a record begins with
abbrev pub own_fated : Sa → Own → Fate → Own
own_fated x own Same = own
own_fated x own Ends = new_own x.spec
own_fated x own (Becomes soft new) = new

-- what a call makes of the own part of the state that it is for, at this time
abbrev pub own_called : Call → ℕ → Sa → Own → Own
own_called (call.Packet packet) time x own = own_fated x own (packet_at packet time x own).fate
own_called (call.Output sid len) time x own = own_fated x own (output_at len time x own).fate
own_called other time x own = own

-- what a receipt with this call makes of the own part of a state, where it rests on this state id, or on none
abbrev pub own_touched : Option ℕ → Call → ℕ → Sa → Own → Own
own_touched None c time x own = own
own_touched (Some sid) c time x own = if has_sid sid x then own_called c time x own else own
