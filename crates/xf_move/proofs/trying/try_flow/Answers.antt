use Rattle.std.proofs.Common.{refl}
use Rattle.xf_serve.proofs.Runs.{lends}
use Rattle.xf_serve.proofs.Answered.{may_stay, stays_alone, served_settled}
use Rattle.xf_move.proofs.Tried.{tried}
use Rattle.xf_move.proofs.trying.try_flow.Goals as goal

pub ask-pass-requires-clause-said : goal.ask-pass-requires-clause-said
ask-pass-requires-clause-said g c = (refl, refl)

pub ask-pass-requires-clause-lent : goal.ask-pass-requires-clause-lent
ask-pass-requires-clause-lent g c =
    lends c.args.policies c.args.states c.args.live.now c.args.pass c.enter_turn.new.pass c.requires.base c.requires.rests.0 c.requires.rests.1
    c.enter_turn.ensures.table c.enter_turn.ensures.row

pub settle_still-requires-clause-row : goal.settle_still-requires-clause-row
settle_still-requires-clause-row g c =
    may_stay c.args.pass c.ask-pass.result.0 _ c.requires.spare
    (tried c.args.policies c.args.states c.args.live.now c.args.pass c.enter_turn.new.pass c.ask-pass.result.0 c.args.flow c.ask-pass.result.1
    c.requires.base c.requires.rests.0 c.requires.rests.1 c.enter_turn.ensures.row c.ask-pass.ensures.lent c.ask-pass.ensures.values c.ask-pass.ensures.reply)

pub settle_still-requires-clause-honest : goal.settle_still-requires-clause-honest
settle_still-requires-clause-honest g c =
    stays_alone c.args.pass c.ask-pass.result.0 _ (λ s. refl)
    (tried c.args.policies c.args.states c.args.live.now c.args.pass c.enter_turn.new.pass c.ask-pass.result.0 c.args.flow c.ask-pass.result.1
    c.requires.base c.requires.rests.0 c.requires.rests.1 c.enter_turn.ensures.row c.ask-pass.ensures.lent c.ask-pass.ensures.values c.ask-pass.ensures.reply)

pub returns-clause-served : goal.returns-clause-served
returns-clause-served g c =
    served_settled c.args.pass c.ask-pass.result.0 c.settle_still.result _
    (tried c.args.policies c.args.states c.args.live.now c.args.pass c.enter_turn.new.pass c.ask-pass.result.0 c.args.flow c.ask-pass.result.1
    c.requires.base c.requires.rests.0 c.requires.rests.1 c.enter_turn.ensures.row c.ask-pass.ensures.lent c.ask-pass.ensures.values c.ask-pass.ensures.reply)
    c.settle_still.ensures.settled
