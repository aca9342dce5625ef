use Rattle.std.proofs.Common.{sym, ◌∙◌}
use Rattle.xf_read.proofs.SelectorLaws.{selector_is_built, selector_is_refused}
use Rattle.xf_read.proofs.selector.selector_between.Goals as goal

pub returns-in-Ok : goal.returns-in-Ok
returns-in-Ok c = selector_is_built _

pub returns-in-Err : goal.returns-in-Err
returns-in-Err c = selector_is_refused _ _ _ _ _ _ (sym c.judge_family.ensures ∙ c.in-Err.is)
