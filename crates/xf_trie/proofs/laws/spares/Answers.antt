use Rattle.xf_trie.proofs.Empties.{spare_is}
use Rattle.xf_trie.proofs.laws.spares.Goals as goal

pub returns : goal.returns
returns c = λ image free pool. spare_is c.args.trie.now image free pool
