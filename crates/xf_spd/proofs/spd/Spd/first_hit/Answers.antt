use Rattle.std.proofs.Common.{arith}
use Rattle.xf_exact.proofs.PartLaws.{stand_tell}
use Rattle.xf_spd.proofs.spd.Spd.first_hit.Goals as goal

pub returns-clause-few : goal.returns-clause-few
returns-clause-few g c = λ image s es h agrees.
    let one = c.first-one.ensures.loads image s.hthresh4 s.hthresh6 es (c.tree_hit-other.ensures.among.among image agrees) (stand_tell c.args.self.now.area image s h.list.counters) h.list.links.exact in
    let two = c.tree_hit-other.ensures.few image s es h agrees in
    omega (arith, one, two)
