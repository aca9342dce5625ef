use Rattle.std.proofs.Common.{◌∙◌, ap, codes, refl}
use Rattle.xf_words.specs.Commands.{gen_by, gen_options}
use Rattle.xf_words.proofs.Found.{value_found}
use Rattle.xf_words.proofs.reader.gen_from.Goals as goal

pub returns : goal.returns
returns c uses same = c.gen_by.ensures ∙ ap gen_by (value_found (codes "seed") gen_options uses _ _ c.text_of.ensures same refl)
