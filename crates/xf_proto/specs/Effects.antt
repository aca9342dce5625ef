-- What each kind of step does.
use Rattle.std.specs.Prelude.{ℕ, zero, suc, ◌+◌, nat_lt, not, Bool, true, false, if◌then◌else◌, List, [], ◌∷◌, ◌++◌, length, position, unwrap_or, Option, Some, None, slice_set, slice_index, slice_get}
use Rattle.std.specs.List.{insert}
use Rattle.xf_types.specs.declared.call.Receipt.{Receipt}
use Rattle.xf_views.specs.declared.hand.Hand.{Hand}
use Rattle.xf_views.specs.Hands.{is_same, hand_after_ticket, hand_after_serving, hand_after_begin, hand_after_store, hand_after_draw, hand_after_trial, hand_after_finish, hand_after_leave, hand_after_generation, hand_after_look, hand_after_pin, hand_after_load_pin, hand_after_take, hand_after_give}
use Rattle.xf_proto.specs.declared.step.Kind.{Kind}
use Rattle.xf_proto.specs.declared.step.Kind.TheVariants as kind
use Rattle.xf_proto.specs.SeatState.{SeatState}
use Rattle.xf_proto.specs.ProtocolState.{ProtocolState}
use Rattle.xf_proto.specs.Legality.{is_by_move, is_by_trial}

-- the receipt among the others, by its number: before the first one whose number isn't smaller, or last
abbrev pub place_of : Receipt → List Receipt → ℕ
place_of r rs = unwrap_or (position (λ q. not (nat_lt q.number r.number)) rs) (length rs)

abbrev pub placed : Receipt → List Receipt → List Receipt
placed r rs = insert rs (place_of r rs) r

-- the receipts after a read: that of its trial comes to stand where the read ends the same
abbrev pub settled_with : Bool → Option Receipt → List Receipt → List Receipt
settled_with true (Some r) rs = placed r rs
settled_with true None rs = rs
settled_with false pending rs = rs

-- seat i has this hand and this pending receipt, after one step more
abbrev pub with_seat : ProtocolState → ℕ → Hand → Option Receipt → ProtocolState
with_seat p i h pending =
    record p { seats = slice_set p.seats i (record { hand = h; pending = pending }); steps = p.steps + 1 }

-- a pin is one more than the first value of the read that just began
abbrev pub pin_after : Option ℕ → ℕ
pin_after None = 0
pin_after (Some g) = g + 1

-- the pin word of a seat
abbrev pub pin_of : Option SeatState → ℕ
pin_of None = 0
pin_of (Some s) = s.hand.pin

-- one number more was drawn
abbrev pub with_draw : ProtocolState → ProtocolState
with_draw p = let n = p.numbers in record p { numbers = record n { draw = n.draw + 1 } }

-- a trial of seat i; its receipt is pending
abbrev pub drawn_later : ProtocolState → ℕ → SeatState → Option Receipt → ProtocolState
drawn_later p i s pending = with_draw (with_seat p i (hand_after_trial s.hand p.numbers.draw) pending)

-- a draw of seat i whose receipt stands at once
abbrev pub drawn_now : ProtocolState → ℕ → SeatState → Receipt → Bool → ProtocolState
drawn_now p i s r moves =
    let q = with_draw (with_seat p i (hand_after_draw s.hand moves) s.pending) in
    record q { receipts = q.receipts ++ r ∷ [] }

abbrev pub drawn_by : ProtocolState → ℕ → SeatState → Option Receipt → ProtocolState
drawn_by p i s None = drawn_later p i s None
drawn_by p i s (Some r) = if is_by_trial s.hand r then drawn_later p i s (Some r) else drawn_now p i s r (is_by_move s.hand r)

-- the turn of a slot is taken where it is free
abbrev pub taken_by : ProtocolState → ℕ → SeatState → ℕ → ℕ → ProtocolState
taken_by p i s slot zero = record (with_seat p i (hand_after_take s.hand slot) s.pending) { turns = slice_set p.turns slot (i + 1) }
taken_by p i s slot (suc k) = with_seat p i (hand_after_look s.hand) s.pending

-- the state after a legal step of seat i
abbrev pub state_after : ProtocolState → ℕ → SeatState → Kind → ProtocolState
state_after p i s kind.Ticket =
    let n = p.numbers in
    record (with_seat p i (hand_after_ticket s.hand n.ticket) s.pending) { numbers = record n { ticket = n.ticket + 1 } }
state_after p i s kind.Serving = with_seat p i (hand_after_serving s.hand p.numbers.serving) s.pending
state_after p i s kind.Begin =
    let n = p.numbers in
    record (with_seat p i (hand_after_begin s.hand) s.pending) { numbers = record n { generation = n.generation + 1 } }
state_after p i s (kind.Store place value) =
    record (with_seat p i (hand_after_store (length p.turns) s.hand place value) s.pending) { words = slice_set p.words place value }
state_after p i s (kind.Draw receipt) = drawn_by p i s receipt
state_after p i s kind.Finish =
    let n = p.numbers in
    record (with_seat p i (hand_after_finish s.hand) s.pending) { numbers = record n { generation = n.generation + 1 } }
state_after p i s kind.Leave =
    let n = p.numbers in
    record (with_seat p i (hand_after_leave s.hand) s.pending) { numbers = record n { serving = n.serving + 1 } }
state_after p i s kind.LoadGeneration =
    let g = p.numbers.generation in
    record (with_seat p i (hand_after_generation s.hand g) None) { receipts = settled_with (is_same s.hand.began g) s.pending p.receipts }
state_after p i s (kind.LoadWord place) = with_seat p i (hand_after_look s.hand) s.pending
state_after p i s kind.Pin = with_seat p i (hand_after_pin s.hand (pin_after s.hand.began)) s.pending
state_after p i s kind.Unpin = with_seat p i (hand_after_pin s.hand 0) s.pending
state_after p i s (kind.LoadPin seat) =
    with_seat p i (hand_after_load_pin s.hand seat (pin_of (slice_get p.seats seat))) s.pending
state_after p i s (kind.TakeTurn slot) = taken_by p i s slot (slice_index p.turns slot)
state_after p i s (kind.GiveTurn slot) =
    record (with_seat p i (hand_after_give s.hand slot) s.pending) { turns = slice_set p.turns slot 0 }
