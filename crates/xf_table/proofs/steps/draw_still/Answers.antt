use Rattle.std.proofs.Common.{arith}
use Rattle.xf_table.proofs.Drawing.{stay_allowed}
use Rattle.xf_table.proofs.steps.draw_still.Goals as goal

pub fetch_add-requires : goal.fetch_add-requires
fetch_add-requires g c = (
  c.requires.table.table,
  (let h = c.args.table.now.words_are in omega arith),
  stay_allowed g.T.Meaning.bucket_of g.T.Meaning.good g.T.Meaning.lists g.T.Meaning.machine g.T.Stands.standing g.T.Meaning.listing _ _ _ _ c.requires.table.here c.args.entry.now _ c.requires.said c.requires.row c.requires.honest,
)
