-- Laws of the moves: what they say of each call, and of a whole history.
use Rattle.std.specs.Prelude.{◌≡◌, List}
use Rattle.xf_types.specs.declared.call.Call.{Call}
use Rattle.xf_types.specs.declared.call.Receipt.{Receipt}
use Rattle.xf_types.specs.Machine.{Machine}
use Rattle.xf_types.specs.Steps.{step}
use Rattle.xf_types.specs.Moves.{after_move, after_moves, moves_of}
use Rattle.xf_types.specs.History.{IsLegalHistory, machine_of}
use Rattle.xf_types.specs.IsMachine.{IsMachine}

pub record MoveLaws : Type 0 where
  -- of a machine of which everything holds, what is shown after each call, a tick too, is fixed by what was shown before, the call
  -- and its reply
  pub moved : (m : Machine) (c : Call) → IsMachine m → (step m c).machine.shown ≡ after_move m.shown c (step m c).reply
  -- what is shown after a legal history is what its moves make of what was shown at its beginning
  pub folded : (m : Machine) (history : List Receipt) → IsMachine m → IsLegalHistory m history
      → after_moves m.shown (moves_of history) ≡ (machine_of m history).shown
