-- The parts of the workers before have equal sizes.
use Rattle.std.proofs.Common.{◌*◌, ap, sym, ◌∙◌, arith}
use Rattle.xf_batch.proofs.GeneratedSizes.{part-size, parts-before}
use Rattle.xf_batch.proofs.generated.worker_line.Goals as goal

pub returns-clause-line : goal.returns-clause-line
returns-clause-line c = λ seed.
    let w = c.args.worker in
    let size = sym (part-size seed c.args.phase w) ∙ c.part_size.ensures.size seed w in
    omega (
      arith,
      c.first_line.ensures.line seed,
      parts-before seed c.args.phase w,
      ap (λ n. w * n) size,
      ap (λ n. n * c.part_size.result) c.from.ensures,
    )
