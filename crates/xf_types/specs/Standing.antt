-- What a value stands for that threads hand to each other.
use Rattle.std.specs.Prelude.{ℕ}
use Rattle.xf_types.specs.declared.state.Sa.{Sa}
use Rattle.xf_types.specs.Machine.{Machine, Own}
use Rattle.xf_types.specs.ChangeIds.{ChangeIds}

-- nothing; the whole machine with its ids of changes; or one state's record with the time and its own part
pub data Standing : Type 0 where
  Nothing : Standing
  WholeMachine : (m : Machine) (ids : ChangeIds) → Standing
  OneState : (s : Sa) (time : ℕ) (own : Own) → Standing
