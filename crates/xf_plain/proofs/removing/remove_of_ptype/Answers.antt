use Rattle.std.proofs.Common.{rules, not}
use Rattle.std.proofs.lemmas.Fn.{filter_same}
use Rattle.xf_types.specs.Same.{meets_one, same_ptype}
use Rattle.xf_plain.proofs.removing.remove_of_ptype.Goals as goal

pub returns : goal.returns
returns c =
    filter_same _ (λ p. not (meets_one same_ptype c.args.ptype p.spec.ptype)) _ (λ x b f' k. search rules) _ _
    c.retain.ensures.filtered
