use Rattle.xf_chain.proofs.Emptied.{chain_emptied}
use Rattle.xf_chain.proofs.laws.families.Goals as goal

pub returns : goal.returns
returns c = λ i n l k. chain_emptied _ i n l k
