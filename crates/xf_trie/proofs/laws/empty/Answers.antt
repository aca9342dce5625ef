use Rattle.xf_trie.proofs.Empties.{empty_is, zeros_set}
use Rattle.xf_trie.proofs.laws.empty.Goals as goal

pub returns : goal.returns
returns c = record {
  set = λ size layout. zeros_set c.args.trie.now size layout;
  tree = λ image zeros. empty_is c.args.trie.now image zeros;
}
