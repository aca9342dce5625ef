use Rattle.std.proofs.Common.{rules, not}
use Rattle.std.proofs.lemmas.Fn.{filter_same}
use Rattle.xf_types.specs.PolicyList.{policy_meets}
use Rattle.xf_plain.proofs.removing.remove_admitted.Goals as goal

pub returns : goal.returns
returns c = filter_same _ (λ p. not (policy_meets c.args.filter.now p)) _ (λ x b f' k. search rules) _ _ c.retain.ensures.filtered
