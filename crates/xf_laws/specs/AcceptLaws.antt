-- The law of acceptance (RFC 4303, 3.4.3): in a legal history no state with a replay window accepts a number twice.
use Rattle.std.specs.Prelude.{List}
use Rattle.xf_types.specs.declared.call.Receipt.{Receipt}
use Rattle.xf_types.specs.Machine.{Machine}
use Rattle.xf_types.specs.History.{IsLegalHistory}
use Rattle.xf_types.specs.Acceptance.{AcceptsOnce}
use Rattle.xf_types.specs.IsMachine.{IsMachine}

pub record AcceptLaws : Type 0 where
  pub once : (m : Machine) (history : List Receipt) → IsMachine m → IsLegalHistory m history → AcceptsOnce m history
