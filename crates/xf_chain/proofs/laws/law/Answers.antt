use Rattle.xf_chain.proofs.Beside.{chain_stays}
use Rattle.xf_chain.proofs.Neighbours.{chain_first, chain_next, chain_before}
use Rattle.xf_chain.proofs.Walks.{chain_walk}
use Rattle.xf_chain.proofs.laws.law.Goals as goal

pub returns : goal.returns
returns c = record {
  walk = λ i xs h. chain_walk _ i xs h;
  first = λ i xs h. chain_first _ i xs h;
  next = λ i xs ys s h. chain_next _ i xs ys s h;
  before = λ i xs ys s h. chain_before _ i xs ys s h;
  stays = λ i j xs e f h. chain_stays _ i j xs e f h;
}
