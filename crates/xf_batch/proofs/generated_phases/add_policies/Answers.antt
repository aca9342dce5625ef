-- Each round takes a value and asks for a policy more.
use Rattle.std.proofs.Common.{ap, arith}
use Rattle.xf_batch.specs.GeneratedCalls.{add_policy}
use Rattle.xf_batch.proofs.MakingLines.{each-none, each-line, each-next}
use Rattle.xf_batch.proofs.generated_phases.add_policies.Goals as goal

pub loop-i-init : goal.loop-i-init
loop-i-init c = each-none _ _

pub ask-requires : goal.ask-requires
ask-requires c = omega (arith, each-line _ _ _ _ _ c.loop-i.invariant, ap (λ m. m.line) c.value-value.ensures.x)

pub loop-i-preserved : goal.loop-i-preserved
loop-i-preserved c =
    each-next (add_policy c.args.worker) c.args.made.now c.loop-i.made c.value-value.new.self c.ask.new.self c.loop-i.i c.value-value.result _
    c.loop-i.invariant c.value-value.ensures.x c.value-value.ensures.value c.in_ok-ask.ensures c.add_policy.ensures
