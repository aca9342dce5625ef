use Rattle.std.proofs.Common.{rules, not}
use Rattle.std.proofs.lemmas.Fn.{filter_same}
use Rattle.xf_types.specs.PolicyList.{has_key}
use Rattle.xf_plain.proofs.removing.remove_named.Goals as goal

pub returns : goal.returns
returns c = filter_same _ (λ p. not (has_key c.args.key.now p)) _ (λ x b f' k. search rules) _ _ c.retain.ensures.filtered
