use Rattle.std.proofs.Common.{◌<◌, length, subst}
use Rattle.xf_held.specs.View.{HeldView}
use Rattle.xf_states.specs.Table.{held_later}
use Rattle.xf_states.proofs.Walks.{mapped-more}
use Rattle.xf_states.proofs.table.age_all.Goals as goal

pub loop-one-preserved : goal.loop-one-preserved
loop-one-preserved c =
    mapped-more (held_later c.args.now) c.args.held.now.items c.loop-one.one-items c.loop-one.one-index
    c.one-item.result c.age.new.self
    (subst (λ ps. c.loop-one.one-index < length {A = HeldView} ps) c.deref_mut-one-items.ensures.value c.loop-one-test.true)
    c.loop-one.invariant c.age.ensures
