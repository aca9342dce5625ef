-- One value is taken, and each round asks for a flow more.
use Rattle.std.proofs.Common.{◌+◌, ◌%◌, [], ap, ◌∙◌, arith}
use Rattle.xf_batch.specs.GeneratedCalls.{look_up, value_at}
use Rattle.xf_batch.proofs.MakingLines.{Asks-none, value-is, each-none_valued, each-line, each-more}
use Rattle.xf_batch.proofs.generated_phases.look_up_all.Goals as goal

pub loop-i-init : goal.loop-i-init
loop-i-init c = each-none_valued _ _ _ c.value-first.ensures.x

pub ask-requires : goal.ask-requires
ask-requires c = omega (arith, each-line _ _ _ _ _ c.loop-i.invariant)

pub loop-i-preserved : goal.loop-i-preserved
loop-i-preserved c =
    let a = c.args.made.now in
    let value = c.value-first.ensures.value ∙ value-is a a c.value-first.new.self [] 0 (Asks-none a) c.value-first.ensures.x in
    each-more (λ i. look_up c.args.worker ((i + value_at 0 a.x % 500) % 500)) a c.loop-i.made c.ask.new.self c.loop-i.i 1 _
    c.loop-i.invariant c.in_ok-ask.ensures (c.look_up.ensures ∙ ap (λ v. look_up c.args.worker ((c.loop-i.i + v % 500) % 500)) value)
