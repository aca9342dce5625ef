use Rattle.std.proofs.Common.{rules}
use Rattle.xf_doubling.specs.Splits.{goes_at}
use Rattle.xf_doubling.proofs.Turns.{split_next}
use Rattle.xf_doubling.proofs.turn.Turn.step.Goals as goal

pub returns-clause-more : goal.returns-clause-more
returns-clause-more g c = λ _.
    split_next c.args.low.now c.args.high.now (goes_at c.args.d.half c.args.d.moved (g.K.Keys.key c.args.keys.now)) c.in-Some.slot
    c.place.new.self.left c.args.self.now.left c.args.self.now.at c.place.new.self.at c.args.self.now.last c.place.new.self.last
    c.args.self.now.other c.place.new.self.other (g.C.Cells.words c.args.c.now) (g.C.Cells.words c.place.new.c) c.goes-moves.result
    (search rules) (search rules) (search rules) (search rules) (search rules) (search rules) (search rules)
