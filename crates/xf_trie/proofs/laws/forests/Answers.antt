use Rattle.xf_trie.proofs.RoomLaws.{forest_room}
use Rattle.xf_trie.proofs.WoodWords.{forest_empty, forest_set, forest_stays}
use Rattle.xf_trie.proofs.Woods.{forest_inserted, forest_removed}
use Rattle.xf_trie.proofs.laws.forests.Goals as goal

pub returns : goal.returns
returns c = record {
  set = λ i rs ts xs r g f m. forest_set c.args.trie.now i rs ts xs r g f m;
  empty = λ n rs. forest_empty c.args.trie.now n rs;
  stays = λ i j rs ts xs f h n g w. forest_stays c.args.trie.now i j rs ts xs f h n g w;
  room = λ i rs ts xs r f h. forest_room c.args.trie.now i rs ts xs r f h;
  put = λ i rs ts a b xs r k n l g hl hk f m. forest_inserted c.args.trie.now i rs ts a b xs r k n l g hl hk f m;
  taken = λ i rs ts xs r k n l g f m. forest_removed c.args.trie.now i rs ts xs r k n l g f m;
}
