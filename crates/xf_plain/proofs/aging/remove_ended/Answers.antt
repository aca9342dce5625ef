use Rattle.std.proofs.Common.{rules, not}
use Rattle.std.proofs.lemmas.Fn.{filter_same}
use Rattle.xf_types.specs.TickRules.{policy_ends}
use Rattle.xf_plain.proofs.aging.remove_ended.Goals as goal

pub returns : goal.returns
returns c = filter_same _ (λ p. not (policy_ends c.args.now p)) _ (λ x b f' k. search rules) _ _ c.retain.ensures.filtered
