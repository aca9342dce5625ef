use Rattle.xf_index.proofs.Alls.{all_walk, all_apart, all_within, all_fit}
use Rattle.xf_index.proofs.laws.whole_chain.Goals as goal

pub returns : goal.returns
returns g c = record {
  walk = all_walk;
  apart = all_apart;
  within = all_within;
  fit = all_fit;
}
