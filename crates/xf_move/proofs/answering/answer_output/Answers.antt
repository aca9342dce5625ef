use Rattle.std.proofs.Common.{refl}
use Rattle.xf_move.proofs.Kept.{output_on}
use Rattle.xf_move.proofs.answering.answer_output.Goals as goal

pub output_lent-requires-clause-said : goal.output_lent-requires-clause-said
output_lent-requires-clause-said g c = (refl, refl)

pub returns-clause-answered : goal.returns-clause-answered
returns-clause-answered g c = λ at still.
    output_on c.args.policies c.args.states c.args.live.now c.args.pass c.output_lent.result.0 c.args.slot _ c.args.sid c.args.len refl c.requires.base c.requires.knows c.requires.slot
    c.requires.held (c.output_lent.ensures.lent still) c.output_lent.ensures.turns c.output_lent.ensures.settled c.output_lent.ensures.answers c.requires.found
