-- Where each kind of step is legal.
use Rattle.std.specs.Prelude.{ℕ, ◌%◌, nat_lt, ◌&&◌, ◌||◌, not, Bool, true, false, List, [], ◌∷◌, length, Option, Some, None, is_some, is_none, ◌==◌}
use Rattle.std.specs.List.{list_any}
use Rattle.xf_types.specs.declared.call.Call.{Call}
use Rattle.xf_types.specs.declared.call.Call.TheVariants as call
use Rattle.xf_types.specs.declared.call.Receipt.{Receipt}
use Rattle.xf_types.specs.Moves.{is_moving}
use Rattle.xf_views.specs.declared.hand.Hand.{Hand}
use Rattle.xf_proto.specs.declared.step.Kind.{Kind}
use Rattle.xf_proto.specs.declared.step.Kind.TheVariants as kind
use Rattle.xf_proto.specs.ProtocolState.{ProtocolState}
use Rattle.xf_proto.specs.Statuses.{may_store}

-- the slot is among them
abbrev pub has_slot : ℕ → List ℕ → Bool
has_slot slot slots = list_any (λ j. j == slot) slots

-- no slot's turn is held
abbrev pub holds_none : List ℕ → Bool
holds_none [] = true
holds_none (k ∷ ks) = false

-- the current read began even
abbrev pub began_even : Option ℕ → Bool
began_even None = false
began_even (Some g) = g % 2 == 0

abbrev pub is_output : Call → Bool
is_output (call.Output sid len) = true
is_output other = false

-- a receipt is drawn in one of four ways. A move: under the turn, in an opening that hasn't drawn
abbrev pub is_by_move : Hand → Receipt → Bool
is_by_move h r = h.has_turn && h.writing && not h.drawn && is_moving r.reply

-- another receipt under the turn, with no opening
abbrev pub is_by_turn : Hand → Receipt → Bool
is_by_turn h r = h.has_turn && not h.writing && not (is_moving r.reply)

-- a trial: without the turn, in a read that began even; an output isn't drawn so
abbrev pub is_by_trial : Hand → Receipt → Bool
is_by_trial h r = not h.has_turn && began_even h.began && not (is_output r.call) && not (is_moving r.reply)

-- an output under the turn of a slot, without the turn of the database
abbrev pub is_by_slot : Hand → Receipt → Bool
is_by_slot h r = not h.has_turn && not (holds_none h.slots) && is_output r.call && not (is_moving r.reply)

-- no way is open while a trial is pending; a receipt has the number that is drawn, and its actor as its worker. A draw without a
-- receipt is a trial too
abbrev pub may_draw : ℕ → ℕ → Hand → Option Receipt → Bool
may_draw n i h None = not h.has_turn && is_none h.trial && began_even h.began
may_draw n i h (Some r) =
    (r.number == n) && (r.worker == i) && is_none h.trial
    && (is_by_move h r || is_by_turn h r || is_by_trial h r || is_by_slot h r)

-- seat i with this hand may make a step of this kind
abbrev pub may_step : ProtocolState → ℕ → Hand → Kind → Bool
may_step p i h kind.Ticket = is_none h.ticket
may_step p i h kind.Serving = is_some h.ticket && not h.has_turn
may_step p i h kind.Begin = h.has_turn && not h.writing
may_step p i h (kind.Store place value) =
    h.has_turn && h.writing && not h.drawn && nat_lt place (length p.words) && may_store p h place value
may_step p i h (kind.Draw receipt) = may_draw p.numbers.draw i h receipt
may_step p i h kind.Finish = h.writing && h.drawn
may_step p i h kind.Leave = h.has_turn && not h.writing
may_step p i h kind.LoadGeneration = true
may_step p i h (kind.LoadWord place) = nat_lt place (length p.words)
may_step p i h kind.Pin = (h.pin == 0) && h.just_began
may_step p i h kind.Unpin = not (h.pin == 0) && not h.has_turn && holds_none h.slots
may_step p i h (kind.LoadPin seat) = h.has_turn && nat_lt seat (length p.seats)
may_step p i h (kind.TakeTurn slot) = nat_lt slot (length p.turns) && not (has_slot slot h.slots) && not h.writing
may_step p i h (kind.GiveTurn slot) =
    nat_lt slot (length p.turns) && has_slot slot h.slots && is_none h.trial && (not h.writing || h.drawn)
