-- What code keeps, as the definitions see it.
use Rattle.std.specs.Prelude.{ℕ, Bool, List, map}
use Rattle.std.specs.Global.{Vec}
use Rattle.xf_types.specs.Batch.{Line, One, Send}
use Rattle.xf_batch.specs.declared.task.Task.{Task}
use Rattle.xf_batch.specs.declared.task.Job.{Job}
use Rattle.xf_batch.specs.declared.task.Job.TheVariants as job
use Rattle.xf_batch.specs.declared.phase.Phase.{Phase}

-- a job with the number of its line
abbrev pub line_with : ℕ → Job → Line
line_with n (job.One c) = One n c
line_with n (job.Send flow len) = Send n flow len

-- a call line
abbrev pub line_of : Task → Line
line_of t = line_with t.line t.job

-- call lines
abbrev pub lines_shown : List Task → List Line
lines_shown tasks = map line_of tasks

-- the call lines of each thread
abbrev pub threads_shown : List (Vec Task) → List (List Line)
threads_shown threads = map (λ tasks. lines_shown tasks.items) threads

-- a phase: the call lines of each thread, whether a `sync` ended it, and whether the input goes on
pub record PhaseShown : Type 0 where
  pub threads : List (List Line)
  pub synced : Bool
  pub more : Bool

-- what a phase shows
abbrev pub phase_shown : Phase → PhaseShown
phase_shown p = record { threads = threads_shown p.threads.items; synced = p.synced; more = p.more }
