use Rattle.xf_inexact.proofs.BinKeys.{key_one, key_small}
use Rattle.xf_inexact.proofs.laws.bins.Goals as goal

pub returns : goal.returns
returns c = record {
  small = λ p a d i h. key_small p a d i h;
  one = λ p q a b d e i j h k g. key_one p q a b d e i j h k g;
}
