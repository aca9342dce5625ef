use Rattle.std.proofs.Common.{ap, sym, ◌∙◌}
use Rattle.xf_types.specs.StateList.{state_meets}
use Rattle.xf_states.specs.Table.{table_of}
use Rattle.xf_states.proofs.Founds.{listed-pushed, listed-passed}
use Rattle.xf_states.proofs.table.StateTable.list_admitted.Goals.{then-admits+in_ok-push, else-admits}
use Rattle.xf_states.proofs.table.StateTable.list_admitted.Goals as goal

pub loop-held-preserved : goal.loop-held-preserved
loop-held-preserved c =
    let states = ap table_of c.deref-held-items.ensures.value ∙ c.self.view_is in
    elim c.if-admits.branch [
      | then-admits+in_ok-push w ↦
          ap (λ v. v.items) w.admitted-is ∙ w.in_ok-push.ensures.items
          ∙ listed-pushed (state_meets c.args.wanted.now) c.deref-held-items.result.now c.args.self.now c.loop-held.held-index
          c.held-item.result c.state-state.result.now c.loop-held.admitted.items states c.loop-held-test.true c.held-item.is c.state-state.ensures
          (sym c.admits.ensures ∙ w.if-admits.true) c.loop-held.invariant
      | else-admits w ↦
          ap (λ v. v.items) w.admitted-is
          ∙ listed-passed (state_meets c.args.wanted.now) c.deref-held-items.result.now c.args.self.now c.loop-held.held-index
          c.held-item.result c.state-state.result.now c.loop-held.admitted.items states c.loop-held-test.true c.held-item.is c.state-state.ensures
          (sym c.admits.ensures ∙ w.if-admits.false) c.loop-held.invariant
    ]
