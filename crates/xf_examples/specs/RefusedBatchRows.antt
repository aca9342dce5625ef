-- Worked rows on histories that are no shuffle of a phase.
use Rattle.std.specs.Prelude.{ℕ, List, [], ◌∷◌}
use Rattle.xf_types.specs.declared.call.Call.TheVariants as call
use Rattle.xf_types.specs.declared.call.Receipt.{Receipt}
use Rattle.xf_types.specs.declared.call.Reply.TheVariants as reply
use Rattle.xf_types.specs.Batch.{Line, One, Send, IsPhaseShuffle, IsShuffle}
use Rattle.xf_examples.specs.Words.{a5, flow, hop, receipt}

-- worker 0 sends through two hops and then counts, and worker 1 counts
abbrev pub phase : List (List Line)
phase = (Send 4 flow 10 ∷ One 6 call.PolicyCount ∷ []) ∷ (One 5 call.StateCount ∷ []) ∷ []

-- ---- receipts of worker 0, and of worker 1

abbrev pub sending : ℕ → Receipt
sending number = receipt number 0 4 0 (call.Flow flow) (reply.FlowAllow 9 (hop 3 3 a5 ∷ hop 5 5 a5 ∷ []))

abbrev pub first_output : ℕ → Receipt
first_output number = receipt number 0 4 1 (call.Output 3 10) reply.Stale

abbrev pub second_output : ℕ → Receipt
second_output number = receipt number 0 4 2 (call.Output 5 10) reply.Stale

abbrev pub policies : ℕ → Receipt
policies number = receipt number 0 6 0 call.PolicyCount (reply.PolicyCount 0 0 0)

abbrev pub states : ℕ → ℕ → Receipt
states number worker = receipt number worker 5 0 call.StateCount (reply.StateCount 0)

-- ---- the rows

abbrev IsNoShuffle : List Receipt → Type 0
IsNoShuffle history = IsPhaseShuffle phase history → ⊥

pub record RefusedBatchRows : Type 0 where
  -- the workers' receipts may stand in any order that keeps each worker's
  pub shuffled : IsPhaseShuffle phase (sending 0 ∷ states 1 1 ∷ first_output 2 ∷ second_output 3 ∷ policies 4 ∷ [])
  pub shuffled_late : IsPhaseShuffle phase (sending 0 ∷ first_output 1 ∷ second_output 2 ∷ policies 3 ∷ states 4 1 ∷ [])
  -- two receipts of one worker are swapped: those of two lines, and those of one
  pub swapped_lines : IsNoShuffle (policies 0 ∷ states 1 1 ∷ sending 2 ∷ first_output 3 ∷ second_output 4 ∷ [])
  pub swapped_outputs : IsNoShuffle (sending 0 ∷ states 1 1 ∷ second_output 2 ∷ first_output 3 ∷ policies 4 ∷ [])
  -- one too many
  pub counted_twice : IsNoShuffle (sending 0 ∷ states 1 1 ∷ first_output 2 ∷ second_output 3 ∷ policies 4 ∷ policies 5 ∷ [])
  pub one_of_other : IsNoShuffle (sending 0 ∷ states 1 1 ∷ first_output 2 ∷ second_output 3 ∷ policies 4 ∷ states 5 1 ∷ [])
  pub sent_again : IsNoShuffle (sending 0 ∷ states 1 1 ∷ first_output 2 ∷ second_output 3 ∷ second_output 4 ∷ policies 5 ∷ [])
  -- one too few
  pub not_counted : IsNoShuffle (sending 0 ∷ states 1 1 ∷ first_output 2 ∷ second_output 3 ∷ [])
  pub not_sent : IsNoShuffle (sending 0 ∷ states 1 1 ∷ first_output 2 ∷ policies 3 ∷ [])
  pub none_of_other : IsNoShuffle (sending 0 ∷ first_output 1 ∷ second_output 2 ∷ policies 3 ∷ [])
  -- one of a worker that there is not, beside the others or in another's place
  pub stranger : IsNoShuffle (sending 0 ∷ states 1 1 ∷ first_output 2 ∷ second_output 3 ∷ policies 4 ∷ states 5 2 ∷ [])
  pub wrong_worker : IsNoShuffle (sending 0 ∷ states 1 0 ∷ first_output 2 ∷ second_output 3 ∷ policies 4 ∷ [])
  -- a phase has its own history, and there is one for each
  pub no_history : IsShuffle (phase ∷ []) [] → ⊥
  pub no_phase : IsShuffle [] ([] ∷ []) → ⊥
