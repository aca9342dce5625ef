use Rattle.std.proofs.Common.{◌-◌, length, sym, ◌∙◌, arith, length-take-le}
use Rattle.xf_batch.proofs.Runs.{one_line}
use Rattle.xf_batch.proofs.ends.count_lines.Goals as goal

pub returns-then-feedless_count-front-clause-count : goal.returns-then-feedless_count-front-clause-count
returns-then-feedless_count-front-clause-count c =
    let line = c.args.line.now in
    one_line line c.requires.some
    (sym c.feedless_count.ensures.count ∙ c.if-feedless_count-front.true ∙ length-take-le (length line - 1) line (omega arith))
