use Rattle.std.proofs.Common.{arith}
use Rattle.xf_batch.proofs.GeneratedSizes.{values-before}
use Rattle.xf_batch.proofs.generated.values_before.Goals as goal

pub returns-in_default : goal.returns-in_default
returns-in_default c = values-before c.args.phase (omega arith) (omega arith)
