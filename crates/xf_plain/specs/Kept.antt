-- What every plain machine keeps.
use Rattle.std.specs.Prelude.{ℕ, ◌<◌, ◌≤◌, List, All, length}
use Rattle.xf_types.specs.declared.policy.Policy.{Policy}
use Rattle.xf_types.specs.declared.state.Sa.{Sa}
use Rattle.xf_types.specs.PolicyRules.{last_index}
use Rattle.xf_types.specs.FlowRules.{last_seq}

-- the index counter is in its range, and the list in its capacity
pub record IsKept (policies : List Policy) (next_index max_policies : ℕ) : Type 0 where
  pub index_low : 0 < next_index
  pub index_high : next_index ≤ last_index
  pub room : length policies ≤ max_policies
  pub few : max_policies ≤ 4096

-- each state id was given, and the list is in its capacity
pub record AreKeptStates (states : List Sa) (next_sid max_states : ℕ) : Type 0 where
  pub given : All (λ s. s.sid < next_sid) states
  pub room : length states ≤ max_states
  pub few : max_states ≤ 8192

-- the acquire counter is in its range
pub record IsSeqCounter (next_seq : ℕ) : Type 0 where
  pub low : 0 < next_seq
  pub high : next_seq ≤ last_seq

-- both lists, and the acquire counter is in its range
pub record AreKept (ps : List Policy) (next_index max_policies : ℕ) (ss : List Sa) (next_sid max_states next_seq : ℕ) : Type 0 where
  pub policies : IsKept ps next_index max_policies
  pub states : AreKeptStates ss next_sid max_states
  pub seq : IsSeqCounter next_seq
