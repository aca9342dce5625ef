use Rattle.std.proofs.Common.{refl}
use Rattle.xf_serve.proofs.Runs.{lends}
use Rattle.xf_serve.proofs.Answered.{answered, may_stay, stays_honestly, served_still}
use Rattle.xf_serve.proofs.reading.read.Goals as goal

pub ask-pass-requires-clause-said : goal.ask-pass-requires-clause-said
ask-pass-requires-clause-said g c = (refl, refl)

pub ask-pass-requires-clause-lent : goal.ask-pass-requires-clause-lent
ask-pass-requires-clause-lent g c =
    lends c.args.policies c.args.states c.args.live.now c.args.pass c.enter_turn.new.pass c.requires.base c.requires.rests.0 c.requires.rests.1
    c.enter_turn.ensures.table c.enter_turn.ensures.row

pub draw_still-requires-clause-row : goal.draw_still-requires-clause-row
draw_still-requires-clause-row g c =
    may_stay c.args.pass c.ask-pass.result.0 _ c.requires.spare
    (answered c.args.policies c.args.states c.args.live.now c.args.pass c.enter_turn.new.pass c.ask-pass.result.0 c.args.call c.ask-pass.result.1
    c.requires.base c.requires.rests.0 c.requires.rests.1 c.enter_turn.ensures.row c.ask-pass.ensures.lent c.ask-pass.ensures.values c.requires.reads
    c.ask-pass.ensures.reply)

pub draw_still-requires-clause-honest : goal.draw_still-requires-clause-honest
draw_still-requires-clause-honest g c =
    stays_honestly c.args.pass c.ask-pass.result.0 _ c.requires.reads
    (answered c.args.policies c.args.states c.args.live.now c.args.pass c.enter_turn.new.pass c.ask-pass.result.0 c.args.call c.ask-pass.result.1
    c.requires.base c.requires.rests.0 c.requires.rests.1 c.enter_turn.ensures.row c.ask-pass.ensures.lent c.ask-pass.ensures.values c.requires.reads
    c.ask-pass.ensures.reply)

pub returns-clause-served : goal.returns-clause-served
returns-clause-served g c =
    served_still c.args.pass c.ask-pass.result.0 c.draw_still.new.pass c.leave_turn.new.pass _ c.draw_still.result
    (answered c.args.policies c.args.states c.args.live.now c.args.pass c.enter_turn.new.pass c.ask-pass.result.0 c.args.call c.ask-pass.result.1
    c.requires.base c.requires.rests.0 c.requires.rests.1 c.enter_turn.ensures.row c.ask-pass.ensures.lent c.ask-pass.ensures.values c.requires.reads
    c.ask-pass.ensures.reply)
    c.draw_still.ensures.table.1 c.draw_still.ensures.row c.leave_turn.ensures.row
