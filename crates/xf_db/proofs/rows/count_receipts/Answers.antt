use Rattle.std.proofs.Common.{◌≡◌, ◌+◌, length, take, arith, ap}
use Rattle.xf_db.specs.Closing.{total}
use Rattle.xf_db.proofs.Endings.{total_more}
use Rattle.xf_db.proofs.rows.count_receipts.Goals as goal

pub loop-pass-preserved : goal.loop-pass-preserved
loop-pass-preserved c =
    let more : c.in_ok-count.count ≡ c.loop-pass.count + length c.receipts-more.result.now = c.in_ok-count.ensures.1 in
    let size : length c.receipts-more.result.now ≡ length c.pass-item.result.receipts = ap (λ rs. length rs) c.receipts-more.ensures in
    let was : c.loop-pass.count ≡ total (take c.loop-pass.pass-index c.args.passes.now) = c.loop-pass.invariant in
    let next = total_more c.args.passes.now c.loop-pass.pass-index c.pass-item.result c.loop-pass-test.true c.pass-item.is in
    omega (arith, more, size, was, next)
