use Rattle.xf_sad.proofs.Begins.{listed_back, replaced_back, named_back, new_fits}
use Rattle.xf_sad.proofs.laws.pool_laws.Goals as goal

pub returns : goal.returns
returns g c = record {
  listed = λ a image s es slot stands fits is. listed_back a image s es _ _ _ _ slot stands fits is;
  replaced = λ a image s es spec stands fits. replaced_back a image s es _ _ _ _ spec stands fits;
  named = λ a image s es id stands fits. named_back a image s es _ _ _ _ id stands fits;
  begins = λ a n full. new_fits a n _ _ _ _ full;
}
