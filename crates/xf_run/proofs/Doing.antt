-- What stands where memory ran out before anything was done.
use Rattle.std.proofs.Common.{ℕ, List, Option, None, Some}
use Rattle.std.proofs.KnownBytes.{Appends-nil}
use Rattle.xf_types.specs.declared.status.Status.TheVariants as status
use Rattle.xf_words.specs.declared.command.Command.{Command}
use Rattle.xf_words.specs.declared.command.Command.TheVariants as command
use Rattle.xf_run.specs.Check.{IsCheckOutcome}
use Rattle.xf_run.specs.Command.{Does}
use Rattle.xf_run.proofs.Ending.{ran_out}

checks_nothing : (left text : Option (List ℕ)) → IsCheckOutcome status.NoMemory left left text text
checks_nothing None text = record { may_end = tt; outcome = tt }
checks_nothing (Some input) text = record { may_end = tt; outcome = Appends-nil text }

-- by any command
pub does_nothing : (c : Option Command) (coming : Option (ℕ → ℕ)) (left text : Option (List ℕ))
    → Does c status.NoMemory coming coming left left text text
does_nothing None coming left text = Appends-nil text
does_nothing (Some command.One) coming left text = ran_out coming left text
does_nothing (Some command.Check) coming left text = checks_nothing left text
does_nothing (Some (command.Gen seed)) coming left text = Appends-nil text
