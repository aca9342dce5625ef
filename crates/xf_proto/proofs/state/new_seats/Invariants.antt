use Rattle.std.proofs.Common.{◌≡◌}
use Rattle.std.specs.Prelude.{replicate}
use Rattle.xf_proto.specs.SeatState.{first_seat}
use Rattle.xf_proto.proofs.state.new_seats.Given as goal

abbrev pub invariant-loop-i : goal.invariant-loop-i
invariant-loop-i l = l.seats.items ≡ replicate l.i first_seat
