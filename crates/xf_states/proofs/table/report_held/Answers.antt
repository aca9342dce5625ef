use Rattle.xf_types.specs.TickRules.{state_event}
use Rattle.xf_held.specs.View.{HeldView}
use Rattle.xf_states.specs.Table.{pair_of}
use Rattle.xf_states.proofs.Walks.{collects}
use Rattle.xf_states.proofs.table.report_held.Goals as goal

pub loop-one-preserved : goal.loop-one-preserved
loop-one-preserved c =
    collects (λ (h : HeldView). state_event c.args.now (pair_of h)) c.args.held.now c.loop-one.one-index c.one-item.result
    c.args.events.now.items c.loop-one.events.items c.push_some.new.events.items c.event.result c.loop-one-test.true
    c.one-item.is c.in_ok-push_some.ensures c.loop-one.invariant c.event.ensures
