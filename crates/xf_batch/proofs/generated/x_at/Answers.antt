-- Each round is one value more.
use Rattle.std.proofs.Common.{ap, sym, ◌∙◌}
use Rattle.xf_batch.specs.GeneratedCalls.{next_x}
use Rattle.xf_batch.proofs.MakingLines.{x_after-none, x_after-more}
use Rattle.xf_batch.proofs.generated.x_at.Goals as goal

pub loop-init : goal.loop-init
loop-init c = sym (x_after-none _)

pub loop-preserved : goal.loop-preserved
loop-preserved c = c.next_x-x.ensures ∙ ap next_x c.loop.invariant ∙ sym (x_after-more c.loop.counter _)
