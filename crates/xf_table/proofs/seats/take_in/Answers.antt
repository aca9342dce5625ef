use Rattle.std.proofs.Common.{arith}
use Rattle.xf_table.proofs.Seating.{join_allowed}
use Rattle.xf_table.proofs.seats.take_in.Goals as goal

pub join_seat-requires : goal.join_seat-requires
join_seat-requires g c = (
  c.requires.table.0.table,
  c.requires.table.1.table,
  c.requires.empty,
  (let h = c.args.table.now.words_are in omega arith),
  join_allowed g.T.Meaning.bucket_of g.T.Meaning.good g.T.Meaning.lists g.T.Meaning.machine g.T.Stands.standing g.T.Meaning.listing _ _ _ _ _ c.requires.table.0.here c.requires.table.1.here c.requires.row,
)
