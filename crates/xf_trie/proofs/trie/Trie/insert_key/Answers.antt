use Rattle.std.proofs.Common.{◌<◌, ◌^◌, rules}
use Rattle.xf_trie.proofs.Calls.{can_insert, inserts_from, set_inserted}
use Rattle.xf_trie.proofs.trie.Trie.insert_key.Goals as goal

pub insert_free-requires-clause-can : goal.insert_free-requires-clause-can
insert_free-requires-clause-can g c =
    (can_insert c.args.self.now (g.C.Cells.words c.args.c.now) (g.C.Load.size c.args.c.now) (g.met.C.Cells.all c.args.c.now) c.requires.lies c.requires.prefixes c.requires.spare).0

pub insert_free-requires-clause-more : goal.insert_free-requires-clause-more
insert_free-requires-clause-more g c =
    (can_insert c.args.self.now (g.C.Cells.words c.args.c.now) (g.C.Load.size c.args.c.now) (g.met.C.Cells.all c.args.c.now) c.requires.lies c.requires.prefixes c.requires.spare).1

pub returns-clause-law : goal.returns-clause-law
returns-clause-law g c =
    let k : c.args.key < 2 ^ 128 = search rules in
    inserts_from c.args.self.now (g.C.Cells.words c.args.c.now) (g.C.Cells.words c.insert_free.new.c) (g.C.Load.size c.args.c.now) c.args.key c.args.len c.insert_free.result
    c.insert_free.ensures.words c.insert_free.ensures.slot (g.met.C.Cells.all c.args.c.now) c.requires.lies c.requires.len k

pub returns-clause-prefixes : goal.returns-clause-prefixes
returns-clause-prefixes g c =
    set_inserted c.args.self.now (g.C.Cells.words c.args.c.now) (g.C.Cells.words c.insert_free.new.c) c.args.key c.args.len c.insert_free.result
    c.requires.prefixes c.requires.spare (returns-clause-law g c)
