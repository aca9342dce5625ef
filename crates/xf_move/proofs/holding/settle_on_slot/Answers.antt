use Rattle.std.proofs.Common.{ℕ, ◌+◌, sym, ap, ◌∙◌, subst}
use Rattle.xf_views.specs.Views.{view_after_leave}
use Rattle.xf_values.specs.declared.state_value.StateValue.{StateValue}
use Rattle.xf_live.specs.Passes.{PassView}
use Rattle.xf_live.specs.Calls.{Returns}
use Rattle.xf_desk.specs.TurnLaws.{stands_for}
use Rattle.xf_move.proofs.OnSlot.{on_slot_honest, may_return}
use Rattle.xf_move.proofs.holding.settle_on_slot.Goals as goal

pub draw_still-requires-clause-honest : goal.draw_still-requires-clause-honest
draw_still-requires-clause-honest c = on_slot_honest c.args.slot c.args.pass c.args.entry c.requires.answered

pub give_turn-requires-clause-row : goal.give_turn-requires-clause-row
give_turn-requires-clause-row c =
    subst (λ (n : ℕ). Returns stands_for c.draw_still.new.pass (n + c.args.slot)) (sym c.requires.policies)
    (may_return c.args.slot c.draw_still.result c.args.pass c.draw_still.new.pass c.args.entry c.requires.answered c.draw_still.ensures.row c.requires.row)

pub returns-clause-settled : goal.returns-clause-settled
returns-clause-settled c = record {
  number = c.draw_still.result;
  drawn = c.draw_still.new.pass;
  kept = c.draw_still.ensures.table.1;
  row = c.draw_still.ensures.row;
  left =
      c.leave_turn.ensures.row
      ∙ ap (λ (z : PassView StateValue). record z { view = view_after_leave z.view }) c.give_turn.ensures.row;
}
