-- Worked rows on batches: which thread has which lines, and a history that is a shuffle of the threads' calls.
use Rattle.std.specs.Prelude.{◌≡◌, ℕ, List, [], ◌∷◌}
use Rattle.xf_types.specs.declared.call.Call.TheVariants as call
use Rattle.xf_types.specs.declared.call.Receipt.{Receipt}
use Rattle.xf_types.specs.declared.call.Reply.TheVariants as reply
use Rattle.xf_types.specs.Batch.{Line, One, Send, WorkerLine, calls_of_thread, threads_of, IsPhaseShuffle}
use Rattle.xf_examples.specs.Words.{a5, flow, hop, receipt}

-- the lines of a phase: two of worker 5, with one of worker 2 between them, and one of worker 0
abbrev first_of_five : Line
first_of_five = Send 4 flow 10

abbrev of_two : Line
of_two = One 5 call.StateCount

abbrev second_of_five : Line
second_of_five = One 6 call.PolicyCount

abbrev of_zero : Line
of_zero = One 7 call.StateCount

abbrev of_worker : ℕ → Line → WorkerLine
of_worker worker line = record { worker = worker; line = line }

abbrev phase : List WorkerLine
phase = of_worker 5 first_of_five ∷ of_worker 2 of_two ∷ of_worker 5 second_of_five ∷ of_worker 0 of_zero ∷ []

-- one worker sends through two hops and then counts, and the other has nothing to do
abbrev send_phase : List (List Line)
send_phase = (first_of_five ∷ second_of_five ∷ []) ∷ [] ∷ []

-- the receipts of the first line, and those of the second
abbrev pub of_send : List Receipt
of_send =
    receipt 0 0 4 0 (call.Flow flow) (reply.FlowAllow 9 (hop 3 3 a5 ∷ hop 5 5 a5 ∷ [])) ∷ receipt 1 0 4 1 (call.Output 3 10) reply.Stale
    ∷ receipt 2 0 4 2 (call.Output 5 10) reply.Stale ∷ []

abbrev pub of_count : List Receipt
of_count = receipt 3 0 6 0 call.PolicyCount (reply.PolicyCount 0 0 0) ∷ []

abbrev pub sent : List Receipt
sent =
    receipt 0 0 4 0 (call.Flow flow) (reply.FlowAllow 9 (hop 3 3 a5 ∷ hop 5 5 a5 ∷ [])) ∷ receipt 1 0 4 1 (call.Output 3 10) reply.Stale
    ∷ receipt 2 0 4 2 (call.Output 5 10) reply.Stale ∷ receipt 3 0 6 0 call.PolicyCount (reply.PolicyCount 0 0 0) ∷ []

pub record BatchRows : Type 0 where
  -- of two threads worker 5 is on thread 1, and its lines keep their order
  pub odd_worker : calls_of_thread 2 phase 1 ≡ first_of_five ∷ second_of_five ∷ []
  pub even_workers : calls_of_thread 2 phase 0 ≡ of_two ∷ of_zero ∷ []
  pub two_threads :
      threads_of 2 phase ≡ (of_two ∷ of_zero ∷ []) ∷ (first_of_five ∷ second_of_five ∷ []) ∷ []
  -- one thread has all lines in order
  pub one_thread : threads_of 1 phase ≡ (first_of_five ∷ of_two ∷ second_of_five ∷ of_zero ∷ []) ∷ []
  pub shuffled : IsPhaseShuffle send_phase sent
