use Rattle.xf_trie.proofs.AddressBits.{key_holds, key_same, node_holds}
use Rattle.xf_trie.proofs.laws.addresses.Goals as goal

pub returns : goal.returns
returns c = record {
  keys = λ a p e h. key_holds a p.addr p.len e h;
  node = λ a p n e h q. node_holds a p.addr p.len n e h q;
  same = λ a b n e p q g. key_same a b n e p q g;
}
