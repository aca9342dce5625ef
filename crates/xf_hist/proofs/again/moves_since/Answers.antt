use Rattle.std.proofs.Common.{rules, arith, ◌≡◌, ◌+◌, cond, ap, sym, ◌∙◌}
use Rattle.xf_hist.proofs.Since.{own-more, other-more}
use Rattle.xf_hist.proofs.again.moves_since.Goals as goal
use Rattle.xf_hist.proofs.again.moves_since.Goals.{then-receipt-worker, else-receipt-worker+then-is_moving, else-receipt-worker+else-is_moving}

pub loop-receipt-preserved : goal.loop-receipt-preserved
loop-receipt-preserved c =
    let rs = c.args.past.now in
    let i = c.loop-receipt.receipt-index in
    let r = c.receipt-item.result in
    let moves = c.loop-receipt.moves in
    let new = c.if-receipt-worker.moves in
    elim c.if-receipt-worker.branch [
      | then-receipt-worker w ↦ record {
        moves = own-more c.args.worker rs i r new c.loop-receipt-test.true c.receipt-item.is (search rules) w.moves-is;
        few = search rules;
      }
      | else-receipt-worker+then-is_moving w ↦ record {
        moves = other-more c.args.worker rs i r moves new c.loop-receipt-test.true c.receipt-item.is (search rules) c.loop-receipt.invariant.moves
            (w.moves-is ∙ (let e : moves + 1 ≡ 1 + moves = omega arith in e) ∙ ap (λ b. cond b (1 + moves) moves) (sym (sym w.is_moving.ensures ∙ w.if-is_moving.true)));
        few = search rules;
      }
      | else-receipt-worker+else-is_moving w ↦ record {
        moves = other-more c.args.worker rs i r moves new c.loop-receipt-test.true c.receipt-item.is (search rules) c.loop-receipt.invariant.moves
            (w.moves-is ∙ ap (λ b. cond b (1 + moves) moves) (sym (sym w.is_moving.ensures ∙ w.if-is_moving.false)));
        few = search rules;
      }
    ]
