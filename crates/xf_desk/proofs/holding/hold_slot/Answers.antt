use Rattle.xf_desk.proofs.TurnLaws.{take, took_too, took_stands}
use Rattle.xf_desk.proofs.holding.hold_slot.Goals as goal

pub returns-then-not-has_turn-clause-holds : goal.returns-then-not-has_turn-clause-holds
returns-then-not-has_turn-clause-holds g c = took_too c.args.pass.now c.enter_slot.new.pass c.args.slot c.enter_slot.ensures.row

pub returns-then-not-has_turn-clause-stands : goal.returns-then-not-has_turn-clause-stands
returns-then-not-has_turn-clause-stands g c = (
  take c.args.pass.now c.enter_slot.new.pass c.args.slot c.enter_slot.ensures.row c.requires.stands.0,
  took_stands c.args.live.now c.args.pass.now c.enter_slot.new.pass c.args.slot c.requires.here c.enter_slot.ensures.row c.requires.shut.0 c.requires.shut.1,
)
