-- What each status says, by the command words.
use Rattle.std.specs.Prelude.{ℕ, Bool, true, false, List, [], Option, None, Some}
use Rattle.std.specs.Io.KnownBytes.{Appends}
use Rattle.xf_types.specs.declared.status.Status.{Status}
use Rattle.xf_types.specs.declared.status.Status.TheVariants.{Done, Refusals, Usage, BadLine, ReadFault, WriteFault, NoMemory}
use Rattle.xf_words.specs.declared.command.Command.{Command}
use Rattle.xf_words.specs.declared.command.Command.TheVariants as command
use Rattle.xf_run.specs.Outcome.{PartOf, IsOutcome}
use Rattle.xf_run.specs.Check.{IsCheckOutcome}
use Rattle.xf_run.specs.Generated.{IsGenOutcome}
use Rattle.xf_run.specs.Usage.{usage_text}

-- words that are no command: the usage line was written, or a front of it, or memory ran out before
abbrev pub Refuses : Status → Option (List ℕ) → Option (List ℕ) → Type 0
Refuses Usage old new = Appends old new usage_text
Refuses WriteFault old new = PartOf usage_text old new
Refuses NoMemory old new = Appends old new []
Refuses Done old new = ⊥
Refuses Refusals old new = ⊥
Refuses (BadLine line reason) old new = ⊥
Refuses ReadFault old new = ⊥

-- what the status says, by the command that the words are
abbrev pub Does : Option Command → Status → Option (ℕ → ℕ) → Option (ℕ → ℕ) → Option (List ℕ) → Option (List ℕ) → Option (List ℕ)
    → Option (List ℕ) → Type 0
Does None s coming later left_old left_new old new = Refuses s old new
Does (Some command.One) s coming later left_old left_new old new = IsOutcome s coming later left_old left_new old new
Does (Some command.Check) s coming later left_old left_new old new = IsCheckOutcome s left_old left_new old new
Does (Some (command.Gen seed)) s coming later left_old left_new old new = IsGenOutcome s seed old new

-- the command reads a batch
abbrev pub reads_input : Command → Bool
reads_input command.One = true
reads_input command.Check = true
reads_input (command.Gen seed) = false
