-- What a call makes of the machine.
use Rattle.std.specs.Prelude.{◌≡◌, ◌≢◌, false}
use Rattle.xf_types.specs.declared.call.Call.{Call}
use Rattle.xf_types.specs.declared.call.Reply.{Reply}
use Rattle.xf_types.specs.declared.call.Reply.TheVariants as reply
use Rattle.xf_types.specs.History.{is_contended}
use Rattle.xf_types.specs.Machine.{Machine, outcome}
use Rattle.xf_types.specs.Steps.{step}

-- It is a step; where memory runs out the machine stays. No reply comes of other threads.
pub record IsStep (old new : Machine) (c : Call) (r : Reply) : Type 0 where
  pub answer : r ≢ reply.NoMemory → outcome r new ≡ step old c
  pub memory : r ≡ reply.NoMemory → new ≡ old
  pub settled : is_contended r ≡ false
