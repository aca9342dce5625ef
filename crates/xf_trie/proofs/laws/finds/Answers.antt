use Rattle.xf_trie.proofs.Found.{puts_find, puts_there, takes_find, takes_gone}
use Rattle.xf_trie.proofs.Singles.{one_item}
use Rattle.xf_trie.proofs.laws.finds.Goals as goal

pub returns : goal.returns
returns c = record {
  one = λ k n t w. one_item k n t w;
  there = λ k n s o t w q. puts_there k n s o t w q;
  gone = λ k n m t w q. takes_gone k n m t w q;
  put = λ k n s o m p q e. puts_find k n s o m p q e;
  taken = λ k n o m p q e. takes_find k n o m p q e;
}
