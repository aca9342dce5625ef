use Rattle.std.proofs.Common.{◌+◌, ap, sym, arith}
use Rattle.xf_table.specs.Tables.{first_of}
use Rattle.xf_table.proofs.Endings.{ended_there, ended_ends}
use Rattle.xf_table.proofs.closing.close.Goals as goal

pub taken-values-requires-clause-there : goal.taken-values-requires-clause-there
taken-values-requires-clause-there g c =
    ended_there g.T.Meaning.bucket_of g.T.Meaning.good g.T.Meaning.lists g.T.Meaning.machine g.T.Stands.standing g.T.Meaning.listing (first_of g.T.Stands.standing c.args.table) c.args.place.id c.args.place.me.0
    c.requires.table.here c.requires.row _ _ c.close_with-closed.ensures.values.2 c.args.table.slots (sym c.args.table.slots_are)

pub returns : goal.returns
returns g c =
    let t = c.args.table in
    let count = c.taken-values.ensures.values.0 in
    let ok = c.taken-values.result.ok in
    ended_ends g.T.Meaning.bucket_of g.T.Meaning.good g.T.Meaning.lists g.T.Meaning.machine g.T.Stands.standing g.T.Meaning.listing (first_of g.T.Stands.standing t) c.args.place.id c.args.place.me.0
    c.requires.table.here c.requires.row _ _ c.close_with-closed.ensures.values.2 (t.seats + 4) t.count t.slots (ap (λ n. n + 4) (sym t.seats_are)) (sym t.count_is) (sym t.slots_are)
    c.copied-words.result.items c.taken-values.result.items c.copied-words.ensures (omega arith) c.taken-values.ensures.values.1
