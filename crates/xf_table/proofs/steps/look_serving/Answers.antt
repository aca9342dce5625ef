use Rattle.std.proofs.Common.{arith}
use Rattle.xf_table.proofs.Turning.{serving_allowed}
use Rattle.xf_table.proofs.steps.look_serving.Goals as goal

pub load-requires : goal.load-requires
load-requires g c = (
  c.requires.table.table,
  (let h = c.args.table.now.words_are in omega arith),
  serving_allowed g.T.Meaning.bucket_of g.T.Meaning.good g.T.Meaning.lists g.T.Meaning.machine g.T.Stands.standing g.T.Meaning.listing _ _ _ _ c.requires.table.here c.requires.row,
)
