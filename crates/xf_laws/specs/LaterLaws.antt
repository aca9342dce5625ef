-- Laws of what a step leaves: capacities stay, time never goes back, and of the numbers that are given to policies and states at
-- most one is used.
use Rattle.std.specs.Prelude.{◌≡◌, ◌+◌, ◌≤◌, List}
use Rattle.xf_types.specs.declared.state.Sa.{Sa}
use Rattle.xf_types.specs.declared.call.Call.{Call}
use Rattle.xf_types.specs.Machine.{Machine, Shown, Own}
use Rattle.xf_types.specs.PolicyList.{without}
use Rattle.xf_types.specs.StateList.{is_none}
use Rattle.xf_types.specs.OwnParts.{own_without}
use Rattle.xf_types.specs.Steps.{step}
use Rattle.xf_types.specs.IsMachine.{AreOwn}

-- what is shown later
pub record IsLater (s t : Shown) : Type 0 where
  pub max_policies : t.max_policies ≡ s.max_policies
  pub max_states : t.max_states ≡ s.max_states
  pub time : s.time ≤ t.time
  pub number_kept : s.next_number ≤ t.next_number
  pub number_next : t.next_number ≤ s.next_number + 1
  pub sid_kept : s.next_sid ≤ t.next_sid
  pub sid_next : t.next_sid ≤ s.next_sid + 1

pub record LaterLaws : Type 0 where
  pub step : (m : Machine) (c : Call) → IsLater m.shown (step m c).machine.shown
  -- where none leaves, all are left
  pub none_leaves : (states : List Sa) → without is_none states ≡ states
  pub no_own_leaves : (states : List Sa) (own : List Own) → AreOwn states own → own_without is_none states own ≡ own
