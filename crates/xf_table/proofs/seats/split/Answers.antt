use Rattle.std.proofs.Common.{arith}
use Rattle.xf_table.proofs.Seating.{split_allowed}
use Rattle.xf_table.proofs.seats.split.Goals as goal

pub split_seat-requires : goal.split_seat-requires
split_seat-requires g c = (
  c.requires.table.table,
  (let h = c.args.table.now.words_are in omega arith),
  split_allowed g.T.Meaning.bucket_of g.T.Meaning.good g.T.Meaning.lists g.T.Meaning.machine g.T.Stands.standing g.T.Meaning.listing _ _ _ c.requires.table.here c.requires.row,
)
