-- What a batch asks for: phases of lines, each line of a worker, and which histories are a shuffle of the threads' calls.
-- Which lines a text spells is said where lines are read.
use Rattle.std.specs.Prelude.{◌≡◌, ℕ, ◌==◌, ◌+◌, ◌%◌, List, [], ◌∷◌, ◌++◌, filter, map, ◌<◌, All, length}
use Rattle.xf_types.specs.declared.call.Call.{Call}
use Rattle.xf_types.specs.declared.call.Call.TheVariants as call
use Rattle.xf_types.specs.declared.call.Hop.{Hop}
use Rattle.xf_types.specs.declared.call.Reply.{Reply}
use Rattle.xf_types.specs.declared.call.Reply.TheVariants as reply
use Rattle.xf_types.specs.declared.call.Receipt.{Receipt}
use Rattle.xf_types.specs.declared.network.Flow.{Flow}
use Rattle.xf_types.specs.Counters.{upwards}

-- a call line: one call, or a flow and then an output for each hop of its path
pub data Line : Type 0 where
  One : (line : ℕ) (c : Call) → Line
  Send : (line : ℕ) (flow : Flow) (len : ℕ) → Line

-- a call line of a worker
pub record WorkerLine : Type 0 where
  pub worker : ℕ
  pub line : Line

-- the lines of a thread, in the order of the phase: those whose worker, modulo the number of threads, is the thread's number
abbrev pub calls_of_thread : ℕ → List WorkerLine → ℕ → List Line
calls_of_thread threads phase thread = map (λ l. l.line) (filter (λ l. l.worker % threads == thread) phase)

-- the lines of each thread
abbrev pub threads_of : ℕ → List WorkerLine → List (List Line)
threads_of threads phase = map (calls_of_thread threads phase) (upwards 0 threads)

-- the path that a reply gives, if it gives one
abbrev pub path_of : Reply → List Hop
path_of (reply.FlowAllow index path) = path
path_of _ = []

-- the receipt is of this call at this place
pub record IsOf (line part : ℕ) (c : Call) (r : Receipt) : Type 0 where
  pub at_line : r.at.line ≡ line
  pub at_part : r.at.part ≡ part
  pub of_call : r.call ≡ c

-- the receipts are one output for each hop, from this part on
abbrev pub AreOutputs : ℕ → ℕ → ℕ → List Hop → List Receipt → Type 0
AreOutputs line part len [] [] = Unit {0}
AreOutputs line part len [] (r ∷ rs) = ⊥
AreOutputs line part len (hop ∷ hops) [] = ⊥
AreOutputs line part len (hop ∷ hops) (r ∷ rs) =
    IsOf line part (call.Output hop.sid len) r × AreOutputs line (part + 1) len hops rs

-- the receipts are exactly those of the line
abbrev pub IsRunOf : Line → List Receipt → Type 0
IsRunOf (One line c) [] = ⊥
IsRunOf (One line c) (r ∷ []) = IsOf line 0 c r
IsRunOf (One line c) (r ∷ q ∷ rs) = ⊥
IsRunOf (Send line flow len) [] = ⊥
IsRunOf (Send line flow len) (r ∷ rs) = IsOf line 0 (call.Flow flow) r × AreOutputs line 1 len (path_of r.reply) rs

-- the receipts are exactly those of the lines, one line after another
abbrev pub Runs : List Line → List Receipt → Type 0
Runs [] rs = rs ≡ []
Runs (l ∷ ls) rs = (own : List Receipt) × (rest : List Receipt) × (own ++ rest ≡ rs) × IsRunOf l own × Runs ls rest

-- the receipts of one worker, in order
abbrev pub receipts_of : ℕ → List Receipt → List Receipt
receipts_of worker history = filter (λ r. r.worker == worker) history

-- each worker from the given one on has exactly the receipts of its thread
abbrev pub EachRuns : ℕ → List (List Line) → List Receipt → Type 0
EachRuns worker [] history = Unit {0}
EachRuns worker (lines ∷ threads) history =
    Runs lines (receipts_of worker history) × EachRuns (worker + 1) threads history

-- a phase is run: each receipt is of one of its workers, and each worker has its own in order
pub record IsPhaseShuffle (threads : List (List Line)) (history : List Receipt) : Type 0 where
  pub workers : All (λ r. r.worker < length threads) history
  pub each : EachRuns 0 threads history

-- a shuffle of the phases: one history for each, in order
abbrev pub IsShuffle : List (List (List Line)) → List (List Receipt) → Type 0
IsShuffle [] histories = histories ≡ []
IsShuffle (phase ∷ phases) [] = ⊥
IsShuffle (phase ∷ phases) (history ∷ histories) = IsPhaseShuffle phase history × IsShuffle phases histories
