use Rattle.std.proofs.Common.{rules, not}
use Rattle.std.proofs.lemmas.Fn.{filter_same}
use Rattle.xf_types.specs.PolicyList.{is_same}
use Rattle.xf_plain.proofs.removing.remove_same.Goals as goal

pub returns-clause-rest : goal.returns-clause-rest
returns-clause-rest c = filter_same _ (λ p. not (is_same p.spec c.args.spec.now)) _ (λ x b f' k. search rules) _ _ c.retain.ensures.filtered
