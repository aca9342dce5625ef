use Rattle.std.proofs.Common.{refl}
use Rattle.xf_image.proofs.ExactLaws.{flow_key, under_key, key_below}
use Rattle.xf_image.proofs.exact_keys.exact_law.Goals as goal

pub returns : goal.returns
returns c = record { exact = λ s p. refl; flow = flow_key; under = under_key; below = key_below }
