use Rattle.std.proofs.Common.{refl, arith}
use Rattle.xf_desk.proofs.Besides.{below}
use Rattle.xf_desk.proofs.desk.Desk.place.Goals as goal

-- src/desk.rt:100:9
pub overflow_add-result : goal.overflow_add-result
overflow_add-result g c =
    let b = below g.B.From.live.start c.args.self.now.pass.values g.B.From.live c.args.self.now.policies c.args.self.now.states c.args.slot c.args.self.now.slots refl c.requires.slot in
    omega (arith, b.2)
