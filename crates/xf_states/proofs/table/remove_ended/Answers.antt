use Rattle.std.proofs.Common.{rules, not}
use Rattle.std.proofs.lemmas.Fn.{filter_same}
use Rattle.xf_types.specs.TickRules.{state_ends}
use Rattle.xf_held.specs.View.{HeldView}
use Rattle.xf_states.specs.Table.{pair_of}
use Rattle.xf_states.proofs.table.remove_ended.Goals as goal

pub returns : goal.returns
returns c = filter_same _ (λ (h : HeldView). not (state_ends c.args.now (pair_of h))) _ (λ x b f' k. search rules) _ _ c.retain.ensures.filtered
