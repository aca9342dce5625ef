-- Each round takes a value and asks for a packet more; behind them the last value serves again.
use Rattle.std.proofs.Common.{◌≡◌, ℕ, ◌+◌, List, ◌++◌, map, ap, subst, arith}
use Rattle.std.proofs.lemmas.Result.{on_ok_weaker}
use Rattle.xf_batch.specs.declared.task.Job.{Job}
use Rattle.xf_batch.specs.GeneratedCalls.{bring, value_at}
use Rattle.xf_batch.specs.Generated.{below, last_packet}
use Rattle.xf_batch.specs.Making.{Asks}
use Rattle.xf_batch.proofs.MakingLines.{Asks-join, each-none, each-line, each-next}
use Rattle.xf_batch.proofs.generated_phases.bring_all.Goals as goal

pub loop-i-init : goal.loop-i-init
loop-i-init c = each-none _ _

pub ask-requires : goal.ask-requires
ask-requires c = omega (arith, each-line _ _ _ _ _ c.loop-i.invariant, ap (λ m. m.line) c.value-value.ensures.x)

pub loop-i-preserved : goal.loop-i-preserved
loop-i-preserved c =
    each-next (λ i value. bring c.args.worker value (i + 1)) c.args.made.now c.loop-i.made c.value-value.new.self c.ask.new.self c.loop-i.i
    c.value-value.result _ c.loop-i.invariant c.value-value.ensures.x c.value-value.ensures.value c.in_ok-ask.ensures c.bring.ensures

pub bring_again-requires-clause-room : goal.bring_again-requires-clause-room
bring_again-requires-clause-room c = omega (arith, each-line _ _ _ _ _ c.loop-i.invariant)

pub returns : goal.returns
returns c =
    let a = c.args.made.now in
    let w = c.args.worker in
    let ordered : ℕ → List Job = λ n. map (λ i. bring w (value_at i a.x) (i + 1)) (below n) in
    let all : c.loop-i.i ≡ 500 = omega (arith, c.loop-i-test.false, c.loop-i.auto.i-end) in
    let P : ℕ → Type 0 = λ n. Asks a c.loop-i.made (ordered n) n in
    let asks : Asks a c.loop-i.made (ordered 500) 500 = subst P all c.loop-i.invariant in
    let Q : ℕ → Type 0 = λ x. Asks a c.bring_again.new.made (ordered 500 ++ last_packet w x) 500 in
    on_ok_weaker _ (λ one. subst Q asks.x (Asks-join a c.loop-i.made c.bring_again.new.made (ordered 500) _ 500 0 asks one))
    c.bring_again.ensures
