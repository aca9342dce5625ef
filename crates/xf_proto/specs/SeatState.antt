-- A seat of the protocol.
use Rattle.std.specs.Prelude.{Option, None}
use Rattle.xf_types.specs.declared.call.Receipt.{Receipt}
use Rattle.xf_views.specs.declared.hand.Hand.{Hand}
use Rattle.xf_views.specs.Hands.{first_hand}

-- what says which steps it may make, and the receipt of its pending trial, if that has one
pub record SeatState : Type 0 where
  pub hand : Hand
  pub pending : Option Receipt

-- a seat before its first step
abbrev pub first_seat : SeatState
first_seat = record { hand = first_hand; pending = None }
