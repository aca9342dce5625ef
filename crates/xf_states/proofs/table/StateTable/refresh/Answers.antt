use Rattle.xf_types.specs.StateRules.{refreshed_record}
use Rattle.xf_states.proofs.Fates.{changes-at}
use Rattle.xf_states.proofs.Founds.{states-within}
use Rattle.xf_states.proofs.table.StateTable.refresh.Goals as goal

pub returns : goal.returns
returns c =
    changes-at (refreshed_record c.args.spec.now) c.self.inside.held.items c.args.self.now c.args.place c.index_mut.result.now
    c.refresh.new.self c.self.view_is c.self.invariant
    (states-within c.self.inside.held.items c.args.self.now c.args.place c.self.view_is c.requires)
    c.index_mut.ensures.value c.refresh.ensures
