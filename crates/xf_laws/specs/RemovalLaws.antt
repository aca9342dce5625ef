-- What a reply that doesn't move removes: no record, in a step, by a receipt, and over the receipts of a history.
use Rattle.std.specs.Prelude.{◌≡◌, false, List, All, Contains}
use Rattle.xf_types.specs.declared.call.Call.{Call}
use Rattle.xf_types.specs.declared.call.Receipt.{Receipt}
use Rattle.xf_types.specs.Machine.{Machine}
use Rattle.xf_types.specs.Steps.{step}
use Rattle.xf_types.specs.Moves.{is_moving}
use Rattle.xf_types.specs.History.{Moment, MayReply, IsLegalFrom, next_moment, moment_of, policies_gone, states_gone}

-- each record that the one machine lists is listed by the other as it was, so none is counted as removed
pub record AllStay (m n : Machine) : Type 0 where
  pub policies : All (Contains n.shown.policies) m.shown.policies
  pub states : All (Contains n.shown.states) m.shown.states
  pub no_policy_gone : policies_gone m n ≡ 0
  pub no_state_gone : states_gone m n ≡ 0

-- all stay from the one moment to the other, and the counts of what was removed do
pub record NoneIsRemoved (t u : Moment) : Type 0 where
  pub stay : AllStay t.machine u.machine
  pub policies_removed : u.policies_removed ≡ t.policies_removed
  pub states_removed : u.states_removed ≡ t.states_removed

pub record RemovalLaws : Type 0 where
  pub step : (m : Machine) (c : Call) → is_moving (step m c).reply ≡ false → AllStay m (step m c).machine
  -- a receipt that may stand in a history and doesn't move
  pub receipt : (t : Moment) (r : Receipt) → MayReply t r r.reply → is_moving r.reply ≡ false
      → NoneIsRemoved t (next_moment t r)
  -- and any number of them
  pub history : (t : Moment) (history : List Receipt) → IsLegalFrom t history → All (λ r. is_moving r.reply ≡ false) history
      → NoneIsRemoved t (moment_of t history)
