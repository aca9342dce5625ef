-- The sizes are those of the lists.
use Rattle.std.proofs.Common.{ap, ◌∙◌, arith}
use Rattle.xf_batch.proofs.GeneratedSizes.{size_of, part-size, size-otherwise}
use Rattle.xf_batch.proofs.generated.part_size.Goals as goal

pub returns-in-2-clause-size : goal.returns-in-2-clause-size
returns-in-2-clause-size c = λ seed w. part-size seed c.args.phase w ∙ ap size_of c.in-2.is

pub returns-in-3-clause-size : goal.returns-in-3-clause-size
returns-in-3-clause-size c = λ seed w. part-size seed c.args.phase w ∙ ap size_of c.in-3.is

pub returns-in_default-clause-size : goal.returns-in_default-clause-size
returns-in_default-clause-size c =
    λ seed w. part-size seed c.args.phase w ∙ size-otherwise c.args.phase (λ e. omega arith) (λ e. omega arith)
