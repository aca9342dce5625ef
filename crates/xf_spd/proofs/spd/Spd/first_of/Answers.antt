use Rattle.std.proofs.Common.{arith}
use Rattle.xf_spd.proofs.spd.Spd.first_of.Goals as goal

pub returns-clause-few : goal.returns-clause-few
returns-clause-few g c = λ image s es h agrees.
    let one = c.first_hit-hit.ensures.few image s es h (c.hit_policy.ensures.among.among image agrees) in
    let two = c.hit_policy.ensures.loads in
    omega (arith, one, two)
