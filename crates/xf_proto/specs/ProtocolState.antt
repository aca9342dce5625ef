-- The state of the protocol.
use Rattle.std.specs.Prelude.{ℕ, List, [], replicate}
use Rattle.xf_types.specs.declared.call.Receipt.{Receipt}
use Rattle.xf_views.specs.Log.{Numbers}
use Rattle.xf_views.specs.Starts.{first_numbers}
use Rattle.xf_proto.specs.SeatState.{SeatState, first_seat}

-- the four numbers; the image words, of which the first are the statuses of the slots; a turn per slot, 0 where it is free and else
-- one more than its seat; the seats, each with its pin word; the receipts that stand, by number; and how many steps were made
pub record ProtocolState : Type 0 where
  pub numbers : Numbers
  pub words : List ℕ
  pub turns : List ℕ
  pub seats : List SeatState
  pub receipts : List Receipt
  pub steps : ℕ

-- the first state: all numbers and words 0, all turns free, and nothing recorded
abbrev pub first_state : ℕ → ℕ → ℕ → ProtocolState
first_state seats words slots =
    record {
      numbers = first_numbers;
      words = replicate words 0;
      turns = replicate slots 0;
      seats = replicate seats first_seat;
      receipts = [];
      steps = 0;
    }
