use Rattle.std.proofs.Common.{◌≡◌, ◌==◌, true, false, arith}
use Rattle.std.proofs.lemmas.Bool.Decides.{nat_tests}
use Rattle.xf_live.proofs.Entering.{waits_on, comes}
use Rattle.xf_live.proofs.live.Live.enter_turn.Goals as goal

pub loop-preserved : goal.loop-preserved
loop-preserved g c =
    let looked = c.look_serving.ensures in
    let f = c.if-look_serving-ticket.false in
    let other : (c.look_serving.result == c.draw_ticket-ticket.result) ≡ false = grind (arith, nat_tests, f) in (
      looked.table.0,
      waits_on g.T.Meaning.good g.T.Meaning.lists c.args.pass.now c.loop.pass c.look_serving.new.pass c.draw_ticket-ticket.result c.look_serving.result c.loop.invariant.1 other looked.table.1 looked.row,
    )

pub returns-then-look_serving-ticket-clause-row : goal.returns-then-look_serving-ticket-clause-row
returns-then-look_serving-ticket-clause-row g c =
    let looked = c.look_serving.ensures in
    let t = c.if-look_serving-ticket.true in
    let mine : (c.look_serving.result == c.draw_ticket-ticket.result) ≡ true = grind (arith, nat_tests, t) in
    comes g.T.Meaning.good g.T.Meaning.lists c.args.pass.now c.loop.pass c.look_serving.new.pass c.draw_ticket-ticket.result c.look_serving.result c.loop.invariant.1 mine looked.table.1 looked.row
