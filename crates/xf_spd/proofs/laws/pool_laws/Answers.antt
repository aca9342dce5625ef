use Rattle.xf_spd.proofs.Fitting.{entry_back, named_back, new_fits}
use Rattle.xf_spd.proofs.laws.pool_laws.Goals as goal

pub returns : goal.returns
returns g c = record {
  entry = λ a image s es slot p stands fits is. entry_back a image s es _ _ _ _ slot p stands fits is;
  named = λ a image s es key stands fits. named_back a image s es _ _ _ _ key stands fits;
  begins = λ a n full. new_fits a n _ _ _ _ full;
}
