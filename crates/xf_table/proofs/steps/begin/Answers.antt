use Rattle.std.proofs.Common.{arith}
use Rattle.xf_table.proofs.Turning.{begin_allowed}
use Rattle.xf_table.proofs.steps.begin.Goals as goal

pub fetch_add-found-requires : goal.fetch_add-found-requires
fetch_add-found-requires g c = (
  c.requires.table.table,
  (let h = c.args.table.now.words_are in omega arith),
  begin_allowed g.T.Meaning.bucket_of g.T.Meaning.good g.T.Meaning.lists g.T.Meaning.machine g.T.Stands.standing g.T.Meaning.listing _ _ _ _ c.requires.table.here c.requires.row,
)
