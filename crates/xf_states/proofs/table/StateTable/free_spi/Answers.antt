use Rattle.std.proofs.Common.{◌≡◌, ap, ◌∙◌, subst, map, List}
use Rattle.std.specs.Prelude.{IfOk}
use Rattle.xf_types.specs.declared.state.Sa.{Sa}
use Rattle.xf_types.specs.StateRules.{free_spi}
use Rattle.xf_held.specs.View.{HeldView}
use Rattle.xf_states.specs.Table.{TableView}
use Rattle.xf_states.proofs.table.StateTable.free_spi.Goals as goal

pub returns : goal.returns
returns c =
    subst (λ (states : List Sa). IfOk c.find_free.result (λ spi. spi ≡ free_spi c.args.spec.now states))
    (ap (map (λ (h : HeldView). h.state)) c.deref.ensures.value ∙ ap (λ (t : TableView). t.states) c.self.view_is)
    c.find_free.ensures
