use Rattle.std.proofs.Common.{arith, ◌≡◌, ◌+◌, ◌++◌, length, sym, ap, ◌∙◌}
use Rattle.std.proofs.lemmas.List.{length-append, map-id}
use Rattle.std.proofs.lemmas.Iterator.Adapters.{YieldsList-from_vec}
use Rattle.std.proofs.lemmas.Iterator.Consumers.{YieldsList-turn, YieldsList-end}
use Rattle.xf_hist.proofs.merging.put_all.Goals as goal

pub unreachable-requires : goal.unreachable-requires
unreachable-requires c =
    let given = c.into_iter-receipt-iterator.ensures.into_iter_gives in
    let turn = YieldsList-turn (YieldsList-from_vec {s = c.into_iter-receipt-iterator.result} c.args.list.items given.0 (given.1 ∙ c.args.list.ok.0)) c.loop-receipt.yielded _ c.loop-receipt.yielded_by c.next.result c.next.new.self c.in-Some.receipt c.in-Some.is c.next.ensures.steps in
    let count : length c.loop-receipt.room.items ≡ length c.args.room.now.items + length c.loop-receipt.yielded =
    ap length c.loop-receipt.invariant.items ∙ length-append c.args.room.now.items c.loop-receipt.yielded in
    omega (arith, turn.0, count, c.requires.fits, c.loop-receipt.invariant.capacity, c.in-Err.ensures.full, c.loop-receipt.room.ok.0)

pub returns : goal.returns
returns c =
    let given = c.into_iter-receipt-iterator.ensures.into_iter_gives in
    let all = YieldsList-end (YieldsList-from_vec {s = c.into_iter-receipt-iterator.result} c.args.list.items given.0 (given.1 ∙ c.args.list.ok.0)) c.loop-receipt.yielded _ c.loop-receipt.yielded_by c.next.result c.next.new.self c.in-None.is c.next.ensures.steps in
    record {
      all = c.loop-receipt.invariant.items ∙ ap (λ rs. c.args.room.now.items ++ rs) (sym (map-id c.loop-receipt.yielded) ∙ all.0);
      capacity = c.loop-receipt.invariant.capacity;
    }
