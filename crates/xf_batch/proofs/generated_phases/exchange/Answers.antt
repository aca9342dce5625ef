-- The packets come behind the sends, with the values after theirs.
use Rattle.std.proofs.Common.{ℕ, ◌++◌, subst, arith}
use Rattle.std.proofs.lemmas.Result.{on_ok_weaker}
use Rattle.xf_batch.specs.Generated.{sends, packets}
use Rattle.xf_batch.specs.Making.{Asks}
use Rattle.xf_batch.proofs.MakingLines.{Asks-join, each-line}
use Rattle.xf_batch.proofs.generated_phases.exchange.Goals as goal

pub bring_all-requires-clause-room : goal.bring_all-requires-clause-room
bring_all-requires-clause-room c = omega (arith, each-line _ _ _ _ _ c.in_ok-send_all.ensures)

pub returns : goal.returns
returns c =
    let a = c.args.made.now in
    let w = c.args.worker in
    let sent : Asks a c.send_all.new.made (sends w a.x) 1000 = c.in_ok-send_all.ensures in
    let P : ℕ → Type 0 = λ x. Asks a c.bring_all.new.made (sends w a.x ++ packets w x) 1500 in
    on_ok_weaker _ (λ brought. subst P sent.x (Asks-join a c.send_all.new.made c.bring_all.new.made (sends w a.x) _ 1000 500 sent brought))
    c.bring_all.ensures
