use Rattle.std.proofs.Common.{rules, not}
use Rattle.std.proofs.lemmas.Fn.{filter_same}
use Rattle.xf_types.specs.StateList.{is_that}
use Rattle.xf_held.specs.View.{HeldView}
use Rattle.xf_states.proofs.table.remove_that.Goals as goal

pub returns-clause-rest : goal.returns-clause-rest
returns-clause-rest c =
    filter_same _ (λ (h : HeldView). not (is_that c.args.one.now h.state)) _ (λ x b f' k. search rules) _ _ c.retain.ensures.filtered
