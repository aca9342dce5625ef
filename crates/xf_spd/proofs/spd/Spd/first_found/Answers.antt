use Rattle.std.proofs.Common.{arith}
use Rattle.xf_spd.proofs.spd.Spd.first_found.Goals as goal

pub returns-in-Some-clause-few : goal.returns-in-Some-clause-few
returns-in-Some-clause-few g c = λ image s es h agrees. let one = c.first_of.ensures.few image s es h agrees in omega (arith, one)

pub returns-in-None-clause-few : goal.returns-in-None-clause-few
returns-in-None-clause-few g c = λ image s es h agrees.
    let one = c.first_of.ensures.few image s es h (c.first_of-in-None.ensures.among.among image agrees) in
    let two = c.first_of-in-None.ensures.few image s es h agrees in
    omega (arith, one, two)
