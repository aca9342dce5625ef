-- Each round asks for a state more.
use Rattle.std.proofs.Common.{arith}
use Rattle.xf_batch.specs.GeneratedCalls.{add_state}
use Rattle.xf_batch.proofs.MakingLines.{each-none, each-line, each-more}
use Rattle.xf_batch.proofs.generated_phases.add_states.Goals as goal

pub loop-i-init : goal.loop-i-init
loop-i-init c = each-none _ _

pub ask-requires : goal.ask-requires
ask-requires c = omega (arith, each-line _ _ _ _ _ c.loop-i.invariant)

pub loop-i-preserved : goal.loop-i-preserved
loop-i-preserved c =
    each-more (add_state c.args.worker) c.args.made.now c.loop-i.made c.ask.new.self c.loop-i.i 0 _ c.loop-i.invariant c.in_ok-ask.ensures
    c.add_state.ensures
