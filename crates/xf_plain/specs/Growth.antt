-- How far a step raises the counters that have no end of their own.
use Rattle.std.specs.Prelude.{◌≤◌, ◌+◌}
use Rattle.xf_types.specs.Machine.{Shown}

-- the next policy number and the next state id grow by one at most
pub record GrowsLittle (old new : Shown) : Type 0 where
  pub numbers : new.next_number ≤ old.next_number + 1
  pub sids : new.next_sid ≤ old.next_sid + 1
