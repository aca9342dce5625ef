-- Laws of what holds of every machine: it holds of the empty one, each step keeps it, and so it holds after each history.
use Rattle.std.specs.Prelude.{ℕ, ◌≤◌, List}
use Rattle.xf_types.specs.declared.call.Call.{Call}
use Rattle.xf_types.specs.declared.call.Receipt.{Receipt}
use Rattle.xf_types.specs.Machine.{Machine}
use Rattle.xf_types.specs.Steps.{step, empty}
use Rattle.xf_types.specs.History.{machine_of}
use Rattle.xf_types.specs.IsMachine.{IsMachine}

pub record MachineLaws : Type 0 where
  -- with capacities in their bounds the empty machine is one
  pub empty : (max_policies max_states : ℕ) → max_policies ≤ 4096 → max_states ≤ 8192
      → IsMachine (empty max_policies max_states)
  -- each of the 23 calls keeps it
  pub step : (m : Machine) (c : Call) → IsMachine m → IsMachine (step m c).machine
  -- and so does each list of receipts, whatever they say
  pub history : (m : Machine) (history : List Receipt) → IsMachine m → IsMachine (machine_of m history)
