use Rattle.xf_trie.specs.Removals.{removed}
use Rattle.xf_trie.proofs.trie.Trie.remove_whole.Goals as goal

pub returns-clause-words : goal.returns-clause-words
unfolding removed
returns-clause-words g c = c.remove_from.ensures.words
