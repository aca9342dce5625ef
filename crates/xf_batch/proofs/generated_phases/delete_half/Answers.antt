-- Each round asks for two lines more.
use Rattle.std.proofs.Common.{◌*◌, arith}
use Rattle.xf_batch.specs.GeneratedCalls.{delete_policy, delete_state}
use Rattle.xf_batch.proofs.MakingLines.{asks-line, pairs-none, pairs-line, pairs-more}
use Rattle.xf_batch.proofs.generated_phases.delete_half.Goals as goal

pub loop-k-init : goal.loop-k-init
loop-k-init c = pairs-none _ _ _

pub ask-requires : goal.ask-requires
ask-requires c = omega (arith, pairs-line _ _ _ _ _ _ c.loop-k.invariant)

pub ask-requires-in-loop-k : goal.ask-requires-in-loop-k
ask-requires-in-loop-k c =
    omega (arith, asks-line _ _ _ _ c.in_ok-ask.ensures, pairs-line _ _ _ _ _ _ c.loop-k.invariant)

pub loop-k-preserved : goal.loop-k-preserved
loop-k-preserved c =
    pairs-more (λ k. delete_policy c.args.worker (2 * k)) (λ k. delete_state c.args.worker (2 * k)) c.args.made.now c.loop-k.made
    c.ask.new.self c.ask-in-loop-k.new.self c.loop-k.k _ _ c.loop-k.invariant c.in_ok-ask.ensures c.in_ok-ask-2.ensures
    c.delete_policy.ensures c.delete_state.ensures
