use Rattle.std.proofs.Common.{arith}
use Rattle.xf_held.proofs.Tops.{top-accepted_with}
use Rattle.xf_held.proofs.foresight.top_with.Goals as goal

pub returns : goal.returns
returns c =
    let greatest = top-accepted_with c.args.window.now.size c.args.window.now.accepted c.args.n in
    omega (arith, greatest, c.top.ensures.greatest, c.max.ensures)
