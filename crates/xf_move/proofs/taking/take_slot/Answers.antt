use Rattle.std.proofs.Common.{◌+◌}
use Rattle.xf_move.proofs.Taken.{took_lends, took_holds, took_knows}
use Rattle.xf_move.proofs.taking.take_slot.Goals as goal

pub returns-clause-lent : goal.returns-clause-lent
returns-clause-lent g c =
    took_lends c.args.live.now c.args.pass c.enter_slot.new.pass (c.args.policies + c.args.slot) c.enter_slot.ensures.row c.requires.lent c.requires.alone c.enter_slot.ensures.table

pub returns-clause-knows : goal.returns-clause-knows
returns-clause-knows g c =
    took_knows c.args.live.now c.args.pass c.enter_slot.new.pass (c.args.policies + c.args.slot) c.enter_slot.ensures.row c.requires.lent c.requires.alone c.args.policies c.args.states
    c.requires.base

pub returns-clause-held : goal.returns-clause-held
returns-clause-held g c =
    took_holds c.args.live.now c.args.pass c.enter_slot.new.pass (c.args.policies + c.args.slot) c.enter_slot.ensures.row c.requires.lent c.requires.alone
