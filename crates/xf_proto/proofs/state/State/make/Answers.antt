use Rattle.std.proofs.Common.{subst}
use Rattle.xf_proto.proofs.Within.{MayStep, store_within, load_pin_within, take_within, give_within}
use Rattle.xf_proto.proofs.state.State.make.Goals as goal

pub make_store-requires-clause-word : goal.make_store-requires-clause-word
make_store-requires-clause-word c = store_within c.args.self.now c.args.i c.requires.seat c.in-Store.place c.in-Store.value (subst (MayStep c.args.self.now c.args.i) c.in-Store.is c.requires.legal)

pub make_load_pin-requires-clause-other : goal.make_load_pin-requires-clause-other
make_load_pin-requires-clause-other c = load_pin_within c.args.self.now c.args.i c.requires.seat c.in-LoadPin.seat (subst (MayStep c.args.self.now c.args.i) c.in-LoadPin.is c.requires.legal)

pub make_take_turn-requires-clause-slot : goal.make_take_turn-requires-clause-slot
make_take_turn-requires-clause-slot c = take_within c.args.self.now c.args.i c.requires.seat c.in-TakeTurn.slot (subst (MayStep c.args.self.now c.args.i) c.in-TakeTurn.is c.requires.legal)

pub make_give_turn-requires-clause-slot : goal.make_give_turn-requires-clause-slot
make_give_turn-requires-clause-slot c = give_within c.args.self.now c.args.i c.requires.seat c.in-GiveTurn.slot (subst (MayStep c.args.self.now c.args.i) c.in-GiveTurn.is c.requires.legal)
