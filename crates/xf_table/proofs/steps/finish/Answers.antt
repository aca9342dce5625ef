use Rattle.std.proofs.Common.{arith}
use Rattle.xf_table.proofs.Turning.{finish_allowed}
use Rattle.xf_table.proofs.steps.finish.Goals as goal

pub fetch_add-requires : goal.fetch_add-requires
fetch_add-requires g c = (
  c.requires.table.table,
  (let h = c.args.table.now.words_are in omega arith),
  finish_allowed g.T.Meaning.bucket_of g.T.Meaning.good g.T.Meaning.lists g.T.Meaning.machine g.T.Stands.standing g.T.Meaning.listing _ _ _ _ c.requires.table.here c.requires.row,
)
