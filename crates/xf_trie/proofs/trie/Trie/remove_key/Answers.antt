use Rattle.xf_trie.proofs.Calls.{removes_from, set_removed}
use Rattle.xf_trie.proofs.trie.Trie.remove_key.Goals as goal

pub returns-clause-law : goal.returns-clause-law
returns-clause-law g c =
    removes_from c.args.self.now (g.C.Cells.words c.args.c.now) (g.C.Cells.words c.remove_whole.new.c) (g.C.Load.size c.args.c.now) c.args.key c.args.len
    c.remove_whole.ensures.words (g.met.C.Cells.all c.args.c.now) c.requires.lies c.requires.there

pub returns-clause-prefixes : goal.returns-clause-prefixes
returns-clause-prefixes g c = λ set.
    set_removed c.args.self.now (g.C.Cells.words c.args.c.now) (g.C.Cells.words c.remove_whole.new.c) c.args.key c.args.len set (returns-clause-law g c)
