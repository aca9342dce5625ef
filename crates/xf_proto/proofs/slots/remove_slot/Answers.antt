use Rattle.std.proofs.Common.{rules, not}
use Rattle.std.specs.Prelude.{◌==◌}
use Rattle.std.proofs.lemmas.Fn.{filter_same}
use Rattle.xf_proto.proofs.slots.remove_slot.Goals as goal

pub returns : goal.returns
returns c = filter_same _ (λ j. not (j == c.args.slot)) _ (λ x b f' k. search rules) _ _ c.retain.ensures.filtered
