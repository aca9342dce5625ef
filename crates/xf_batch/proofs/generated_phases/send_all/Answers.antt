-- Each round takes a value and asks for a send more.
use Rattle.std.proofs.Common.{ap, arith}
use Rattle.xf_batch.specs.GeneratedCalls.{send_to}
use Rattle.xf_batch.proofs.MakingLines.{each-none, each-line, each-next}
use Rattle.xf_batch.proofs.generated_phases.send_all.Goals as goal

pub loop-init : goal.loop-init
loop-init c = each-none _ _

pub ask-requires : goal.ask-requires
ask-requires c = omega (arith, each-line _ _ _ _ _ c.loop.invariant, ap (λ m. m.line) c.value-value.ensures.x)

pub loop-preserved : goal.loop-preserved
loop-preserved c =
    each-next (λ _. send_to c.args.worker) c.args.made.now c.loop.made c.value-value.new.self c.ask.new.self c.loop.counter c.value-value.result
    _ c.loop.invariant c.value-value.ensures.x c.value-value.ensures.value c.in_ok-ask.ensures c.send_to.ensures
