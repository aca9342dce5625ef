-- Worked rows on histories: replies outside the table, the fold of moves, the receipts of a worker, alike numbers.
use Rattle.std.specs.Prelude.{◌≡◌, List, [], ◌∷◌, Some, true, false}
use Rattle.std.proofs.Common.{lit<}
use Rattle.xf_types.specs.declared.call.Call.{Call}
use Rattle.xf_types.specs.declared.call.Call.TheVariants as call
use Rattle.xf_types.specs.declared.call.Event.TheVariants.{StateExpired}
use Rattle.xf_types.specs.declared.call.Receipt.{Receipt}
use Rattle.xf_types.specs.declared.call.Reply.TheVariants as reply
use Rattle.xf_types.specs.StateList.{no_limits}
use Rattle.xf_types.specs.Replay.{accepted_with}
use Rattle.xf_types.specs.Steps.{empty}
use Rattle.xf_types.specs.Moves.{after_moves, moves_of}
use Rattle.xf_types.specs.History.{IsLegalHistory, moves_since}
use Rattle.xf_examples.specs.Words.{after, usual, state_to_a2, packet, flow, receipt, add_proto, delete_proto}

-- slots of deleted policies are held back
abbrev held_back : List Receipt
held_back =
    receipt 0 0 1 0 (add_proto 1) (reply.DoneIndex 9) ∷ receipt 1 0 2 0 (add_proto 2) (reply.DoneIndex 17)
    ∷ receipt 2 0 3 0 (delete_proto 1) (reply.DoneIndex 9) ∷ receipt 3 0 4 0 (delete_proto 2) (reply.DoneIndex 17)
    ∷ receipt 4 0 5 0 (add_proto 3) (reply.Full 0 2) ∷ receipt 5 0 6 0 (add_proto 3) (reply.DoneIndex 25)
    ∷ receipt 6 0 7 0 (add_proto 4) (reply.Full 1 1) ∷ receipt 7 0 8 0 (add_proto 4) (reply.DoneIndex 33) ∷ []

-- a worker gives up after two moves of another
abbrev overtaken : List Receipt
overtaken =
    receipt 0 0 2 0 (add_proto 0) (reply.DoneIndex 9) ∷ receipt 1 0 3 0 (delete_proto 0) (reply.DoneIndex 9)
    ∷ receipt 2 1 5 0 (call.Flow flow) (reply.Again 2) ∷ receipt 3 1 6 0 (call.Flow flow) reply.FlowNone ∷ []

-- the latest first
abbrev past : List Receipt
past =
    receipt 3 0 0 0 (add_proto 0) (reply.DoneIndex 9) ∷ receipt 2 0 0 0 call.PolicyCount (reply.PolicyCount 0 0 0)
    ∷ receipt 1 1 0 0 call.PolicyCount (reply.PolicyCount 0 0 0) ∷ receipt 0 0 0 0 (add_proto 0) (reply.DoneIndex 9) ∷ []

-- a state warns, and then expires
abbrev warning : Call
warning = state_to_a2 (record no_limits { packet_soft = Some 0; time_hard = 9 })

abbrev warned : List Receipt
warned =
    receipt 0 0 0 0 warning (reply.DoneSid 1) ∷ receipt 1 0 0 0 call.StateCount (reply.StateCount 1)
    ∷ receipt 2 0 0 0 (packet 3 (lit< tt) 0 false) (reply.BadIcv true)
    ∷ receipt 3 0 0 0 (call.Tick 9) (reply.Ticked 9 (StateExpired 1 ∷ [])) ∷ []

pub record HistoryRows : Type 0 where
  pub held_back_is_legal : IsLegalHistory (empty 2 2) held_back
  pub overtaken_is_legal : IsLegalHistory usual overtaken
  -- the worker's own receipt ends the count
  pub since : moves_since 1 past ≡ 1
  -- the fold of moves is the shown part of the machine
  pub folded :
      after_moves usual.shown (moves_of warned)
      ≡ (after usual (warning ∷ call.StateCount ∷ packet 3 (lit< tt) 0 false ∷ call.Tick 9 ∷ [])).shown
  -- one set of numbers in two orders is one list once a number is accepted
  pub two_orders : accepted_with 32 (1 ∷ 2 ∷ 3 ∷ []) 4 ≡ accepted_with 32 (3 ∷ 2 ∷ 1 ∷ []) 4
