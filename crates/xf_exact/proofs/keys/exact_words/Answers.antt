use Rattle.std.proofs.Common.{rules}
use Rattle.xf_image.specs.ExactKeys.{exact_words}
use Rattle.xf_exact.proofs.keys.exact_words.Goals as goal

pub returns : goal.returns
unfolding exact_words
returns c = search rules
