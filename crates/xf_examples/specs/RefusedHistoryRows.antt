-- Worked rows on histories that may not be.
use Rattle.std.specs.Prelude.{ℕ, List, [], ◌∷◌, true, false}
use Rattle.std.proofs.Common.{lit<}
use Rattle.xf_types.specs.declared.network.Proto.TheVariants.{Esp}
use Rattle.xf_types.specs.declared.call.Call.{Call}
use Rattle.xf_types.specs.declared.call.Call.TheVariants as call
use Rattle.xf_types.specs.declared.call.Receipt.{Receipt}
use Rattle.xf_types.specs.declared.call.Reply.{Reply}
use Rattle.xf_types.specs.declared.call.Reply.TheVariants as reply
use Rattle.xf_types.specs.Machine.{Machine}
use Rattle.xf_types.specs.StateList.{no_limits}
use Rattle.xf_types.specs.Steps.{empty}
use Rattle.xf_types.specs.Acceptance.{AcceptsOnce}
use Rattle.xf_types.specs.History.{IsLegalHistory}
use Rattle.xf_examples.specs.Words.{usual, a2, flow, state_to_a2, packet, receipt, add_proto, delete_proto}

-- ---- calls that were given up

-- worker 0 adds a policy and deletes it, and a call of this worker is answered
abbrev pub moved_then : ℕ → Call → Reply → List Receipt
moved_then worker c r =
    receipt 0 0 2 0 (add_proto 0) (reply.DoneIndex 9) ∷ receipt 1 0 3 0 (delete_proto 0) (reply.DoneIndex 9)
    ∷ receipt 2 worker 5 0 c r ∷ []

-- ---- slots that are held back

-- two policies are deleted, and a call is answered
abbrev pub removed_then : Call → Reply → List Receipt
removed_then c r =
    receipt 0 0 1 0 (add_proto 1) (reply.DoneIndex 9) ∷ receipt 1 0 2 0 (add_proto 2) (reply.DoneIndex 17)
    ∷ receipt 2 0 3 0 (delete_proto 1) (reply.DoneIndex 9) ∷ receipt 3 0 4 0 (delete_proto 2) (reply.DoneIndex 17)
    ∷ receipt 4 0 5 0 c r ∷ []

-- one policy is deleted and one stays, and a call is answered
abbrev pub one_removed_then : Call → Reply → List Receipt
one_removed_then c r =
    receipt 0 0 1 0 (add_proto 1) (reply.DoneIndex 9) ∷ receipt 1 0 2 0 (add_proto 2) (reply.DoneIndex 17)
    ∷ receipt 2 0 3 0 (delete_proto 2) (reply.DoneIndex 17) ∷ receipt 3 0 4 0 c r ∷ []

-- one policy is added and none deleted, and a call is answered
abbrev pub added_then : Call → Reply → List Receipt
added_then c r = receipt 0 0 1 0 (add_proto 1) (reply.DoneIndex 9) ∷ receipt 1 0 2 0 c r ∷ []

-- a state is added and deleted, and a call is answered
abbrev pub state_removed_then : Call → Reply → List Receipt
state_removed_then c r =
    receipt 0 0 1 0 (state_to_a2 no_limits) (reply.DoneSid 1)
    ∷ receipt 1 0 2 0 (call.StateDelete (record { dst = a2; proto = Esp; spi = 4096; mark = 0 })) (reply.DoneSid 1)
    ∷ receipt 2 0 3 0 c r ∷ []

-- ---- order, replies and acceptances

-- two counts of policies under these draw numbers
abbrev pub numbered : ℕ → ℕ → List Receipt
numbered first second =
    receipt first 0 1 0 call.PolicyCount (reply.PolicyCount 0 0 0) ∷ receipt second 0 2 0 call.PolicyCount (reply.PolicyCount 0 0 0) ∷ []

-- an empty machine is asked, and answers this
abbrev pub answers : Call → Reply → List Receipt
answers c r = receipt 0 0 1 0 c r ∷ []

-- a policy is refused for want of memory, and a count is answered
abbrev pub unadded_then : Reply → List Receipt
unadded_then r = receipt 0 0 1 0 (add_proto 1) reply.NoMemory ∷ receipt 1 0 2 0 call.PolicyCount r ∷ []

-- a state accepts number 7, and a second packet of this number is answered
abbrev pub accepted_then : Reply → List Receipt
accepted_then r =
    receipt 0 0 1 0 (state_to_a2 no_limits) (reply.DoneSid 1) ∷ receipt 1 0 2 0 (packet 7 (lit< tt) 0 true) (reply.Accepted 7 false)
    ∷ receipt 2 1 3 0 (packet 7 (lit< tt) 0 true) r ∷ []

-- no machine has this history from there on
abbrev pub IsRefused : Machine → List Receipt → Type 0
IsRefused start history = IsLegalHistory start history → ⊥

pub record RefusedHistoryRows : Type 0 where
  -- nothing has moved yet
  pub again_at_front : IsRefused usual (answers (call.Flow flow) (reply.Again 1))
  -- a call is tried once at least, and at most once for each move since the worker's receipt before
  pub again_without_try : IsRefused usual (moved_then 1 (call.Flow flow) (reply.Again 0))
  pub again_too_often : IsRefused usual (moved_then 1 (call.Flow flow) (reply.Again 3))
  pub again_of_own_moves : IsRefused usual (moved_then 0 (call.Flow flow) (reply.Again 1))
  -- a flow, a packet and the showing of a state alone are given up
  pub again_of_count : IsRefused usual (moved_then 1 call.PolicyCount (reply.Again 1))
  pub again_of_trial : IsRefused usual (moved_then 1 (call.TryFlow flow) (reply.Again 1))
  pub again_of_output : IsRefused usual (moved_then 1 (call.Output 1 10) (reply.Again 1))
  pub again_of_add : IsRefused usual (moved_then 1 (add_proto 1) (reply.Again 1))
  -- no slot waits where nothing was removed from that list
  pub full_without_removal : IsRefused (empty 2 2) (added_then (add_proto 2) (reply.Full 1 1))
  pub full_of_other_list : IsRefused (empty 2 2) (removed_then (state_to_a2 no_limits) (reply.Full 0 2))
  -- the records that are told live are those of the list, and with the waiting slots they fill it
  pub full_with_another_live : IsRefused (empty 2 2) (removed_then (add_proto 3) (reply.Full 1 1))
  pub full_with_slots_left : IsRefused (empty 2 2) (removed_then (add_proto 3) (reply.Full 0 1))
  pub full_with_too_many : IsRefused (empty 2 2) (removed_then (add_proto 3) (reply.Full 0 3))
  -- what adds nothing is not refused for want of a slot, nor what is refused for another cause
  pub full_of_count : IsRefused (empty 1 1) (state_removed_then call.StateCount (reply.Full 0 1))
  pub full_of_listed : IsRefused (empty 2 2) (one_removed_then (add_proto 1) (reply.Full 1 1))
  -- without waiting slots the list itself is full
  pub full_with_room : IsRefused (empty 2 2) (added_then (add_proto 2) (reply.Full 1 0))
  -- each draw number is greater than the one before
  pub equal_numbers : IsRefused usual (numbered 4 4)
  pub falling_numbers : IsRefused usual (numbered 4 3)
  pub rising_numbers : IsLegalHistory usual (numbered 4 6)
  -- a reply is the machine's
  pub wrong_index : IsRefused usual (answers (add_proto 1) (reply.DoneIndex 17))
  pub wrong_kind : IsRefused usual (answers (add_proto 1) reply.Done)
  pub no_entry : IsRefused usual (answers (delete_proto 1) (reply.DoneIndex 9))
  -- want of memory leaves the machine
  pub added_without_memory : IsRefused usual (unadded_then (reply.PolicyCount 0 1 0))
  pub not_added : IsLegalHistory usual (unadded_then (reply.PolicyCount 0 0 0))
  -- a number is accepted once
  pub accepted_twice : IsRefused usual (accepted_then (reply.Accepted 7 false))
  pub not_once : AcceptsOnce usual (accepted_then (reply.Accepted 7 false)) → ⊥
  pub seen : IsLegalHistory usual (accepted_then (reply.Seen 7))
