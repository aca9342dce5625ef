-- What holds of every machine that a run reaches.
use Rattle.std.specs.Prelude.{◌≡◌, ◌%◌, ◌<◌, ◌≤◌, ◌^◌, Some, length, List, IsTrue, AllPairs, All}
use Rattle.std.specs.List.{AllZip}
use Rattle.xf_types.specs.declared.state.Sa.{Sa}
use Rattle.xf_types.specs.Facts.{IsThresholds}
use Rattle.xf_types.specs.Machine.{Machine, Shown, Own}
use Rattle.xf_types.specs.Same.{dir_number}
use Rattle.xf_types.specs.PolicyList.{IsPolicyOrder, is_same}
use Rattle.xf_types.specs.PolicyRules.{last_index}
use Rattle.xf_types.specs.FlowRules.{last_seq}
use Rattle.xf_types.specs.Replay.{in_window, is_among, top}
use Rattle.xf_types.specs.TrafficRules.{last_number}

-- the accepted numbers are told as far as the window, so that alike sets are one list; the numbers are in range
pub record IsOwnOf (s : Sa) (own : Own) : Type 0 where
  pub numbers : own.accepted ≡ in_window s.spec.window (is_among own.accepted) (top own.accepted)
  pub sent : own.sent ≤ last_number s
  pub counts : (own.packets < 2 ^ 64) × (own.bytes < 2 ^ 64)

-- one own part for each state, at the same place
abbrev pub AreOwn : List Sa → List Own → Type 0
AreOwn states own = AllZip IsOwnOf states own

-- the policies stand in their order, no two are the same or share an index or a number, and each index is of its direction
pub record IsPolicyList (s : Shown) : Type 0 where
  pub ordered : IsPolicyOrder s.policies
  pub keys : AllPairs (λ p q. IsTrue (is_same p.spec q.spec) → ⊥) s.policies
  pub indices : AllPairs (λ p q. p.index ≡ q.index → ⊥) s.policies
  pub directions : All (λ p. p.index % 8 ≡ dir_number p.spec.dir) s.policies
  pub numbers : AllPairs (λ p q. p.number ≡ q.number → ⊥) s.policies
  pub numbers_given : All (λ p. p.number < s.next_number) s.policies

-- no two states share a state id, and each was given
pub record IsStateList (s : Shown) : Type 0 where
  pub sids : AllPairs (λ x y. x.sid ≡ y.sid → ⊥) s.states
  pub sids_given : All (λ x. x.sid < s.next_sid) s.states

-- the lists fit their capacities, which have their own bounds
pub record IsInRoom (s : Shown) : Type 0 where
  pub policies : length s.policies ≤ s.max_policies
  pub states : length s.states ≤ s.max_states
  pub max_policies : s.max_policies ≤ 4096
  pub max_states : s.max_states ≤ 8192

-- the counters and the thresholds are in their ranges
pub record IsInRange (s : Shown) : Type 0 where
  pub index_counter : (0 < s.next_index) × (s.next_index ≤ last_index)
  pub seq_counter : (0 < s.next_seq) × (s.next_seq ≤ last_seq)
  pub thresholds : IsThresholds (Some s.hthresh4) (Some s.hthresh6)

-- what is shown: the two lists, their room, and the ranges
pub record IsShownPart (s : Shown) : Type 0 where
  pub policies : IsPolicyList s
  pub states : IsStateList s
  pub room : IsInRoom s
  pub range : IsInRange s

-- the shown part, and the own parts beside its states
pub record IsMachine (m : Machine) : Type 0 where
  pub shown : IsShownPart m.shown
  pub own : AreOwn m.shown.states m.own
