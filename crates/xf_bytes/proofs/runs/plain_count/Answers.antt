use Rattle.std.proofs.Common.{sym, ◌∙◌}
use Rattle.xf_bytes.proofs.Counting.{plain_count-prefix_len}
use Rattle.xf_bytes.proofs.runs.plain_count.Goals as goal

pub returns-clause-count : goal.returns-clause-count
returns-clause-count c = c.count_front.ensures.count ∙ sym (plain_count-prefix_len c.args.bytes.now)
