use Rattle.std.proofs.Common.{sym, ◌∙◌}
use Rattle.xf_paths.specs.Stage.{is_preferred}
use Rattle.xf_paths.proofs.Bests.{ord_max-is, latest-counted, latest-passed}
use Rattle.xf_paths.proofs.best.latest_added.Goals.{then-is_preferred, else-is_preferred}
use Rattle.xf_paths.proofs.best.latest_added.Goals as goal

pub loop-held-preserved : goal.loop-held-preserved
loop-held-preserved c =
    elim c.if-is_preferred.branch [
      | then-is_preferred w ↦
          w.latest-is ∙ w.max-latest.ensures ∙ ord_max-is _ _
          ∙ latest-counted (is_preferred c.args.stage.now c.args.living) c.args.states.now c.loop-held.held-index
          c.held-item.result c.state-state.result.now c.loop-held.latest c.loop-held-test.true c.held-item.is
          c.state-state.ensures (sym c.is_preferred.ensures ∙ w.if-is_preferred.true) c.loop-held.invariant
      | else-is_preferred w ↦
          w.latest-is
          ∙ latest-passed (is_preferred c.args.stage.now c.args.living) c.args.states.now c.loop-held.held-index
          c.held-item.result c.state-state.result.now c.loop-held.latest c.loop-held-test.true c.held-item.is
          c.state-state.ensures (sym c.is_preferred.ensures ∙ w.if-is_preferred.false) c.loop-held.invariant
    ]
