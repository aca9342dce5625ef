-- What it means that lines are made one after another.
use Rattle.std.specs.Prelude.{◌≡◌, ℕ, ◌+◌, List, ◌++◌, length}
use Rattle.xf_batch.specs.declared.generated_lines.Making.{Making}
use Rattle.xf_batch.specs.declared.task.Job.{Job}
use Rattle.xf_batch.specs.Shown.{lines_shown}
use Rattle.xf_batch.specs.GeneratedCalls.{x_after}
use Rattle.xf_batch.specs.Generated.{numbered}

-- lines that ask for these were made, which took so many values
pub record Asks (old new : Making) (jobs : List Job) (values : ℕ) : Type 0 where
  pub lines : lines_shown new.tasks.items ≡ lines_shown old.tasks.items ++ numbered old.line jobs
  pub next : new.line ≡ old.line + length jobs
  pub x : new.x ≡ x_after values old.x
