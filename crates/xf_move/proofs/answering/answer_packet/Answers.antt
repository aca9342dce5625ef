use Rattle.std.proofs.Common.{refl}
use Rattle.xf_move.proofs.Kept.{packet_on}
use Rattle.xf_move.proofs.answering.answer_packet.Goals as goal

pub packet_lent-requires-clause-said : goal.packet_lent-requires-clause-said
packet_lent-requires-clause-said g c = (refl, refl)

pub returns-clause-answered : goal.returns-clause-answered
returns-clause-answered g c = λ at still.
    packet_on c.args.policies c.args.states c.args.live.now c.args.pass c.packet_lent.result.0 c.args.slot _ c.args.packet.now refl c.requires.base c.requires.knows c.requires.slot
    c.requires.held (c.packet_lent.ensures.lent still) c.packet_lent.ensures.turns c.packet_lent.ensures.settled c.packet_lent.ensures.answers c.requires.found
