use Rattle.std.proofs.Common.{arith, ◌≡◌, ◌+◌, ◌++◌, length, sym, ap, ◌∙◌}
use Rattle.std.proofs.lemmas.List.{append_assoc, append-nil, length-append, map-id}
use Rattle.std.proofs.lemmas.Iterator.Adapters.{YieldsList-from_vec}
use Rattle.std.proofs.lemmas.Iterator.Consumers.{YieldsList-end}
use Rattle.xf_hist.specs.Merged.{all_of}
use Rattle.xf_hist.proofs.MergedLists.{all_of-more, room-left, one-fewer}
use Rattle.xf_hist.proofs.merging.gather.Goals as goal

pub put_all-requires : goal.put_all-requires
put_all-requires c =
    let left = room-left c.args.lists.items c.loop-list.yielded c.loop-list.list-iterator.rest.items c.next.new.self.rest.items c.in-Some.list c.loop-list.invariant.left c.in-Some.ensures.steps.0 in
    let count : length c.loop-list.room.items ≡ length c.args.room.now.items + length (all_of c.loop-list.yielded) =
    ap length c.loop-list.invariant.items ∙ length-append c.args.room.now.items (all_of c.loop-list.yielded) in
    record { fits = omega (arith, left, count, c.requires.fits, c.loop-list.invariant.capacity) }

pub loop-list-init : goal.loop-list-init
loop-list-init c = record {
  items = sym (append-nil c.args.room.now.items);
  left = c.into_iter-list-iterator.ensures.into_iter_gives.0;
  capacity = omega arith;
}

pub loop-list-preserved : goal.loop-list-preserved
loop-list-preserved c = record {
  items =
      c.put_all.ensures.all ∙ ap (λ rs. rs ++ c.in-Some.list.items) c.loop-list.invariant.items
      ∙ append_assoc c.args.room.now.items (all_of c.loop-list.yielded) c.in-Some.list.items
      ∙ ap (λ rs. c.args.room.now.items ++ rs) (sym (all_of-more c.loop-list.yielded c.in-Some.list));
  left = one-fewer c.args.lists.items c.loop-list.yielded c.loop-list.list-iterator.rest.items c.next.new.self.rest.items c.in-Some.list c.loop-list.invariant.left c.in-Some.ensures.steps.0;
  capacity = omega (arith, c.put_all.ensures.capacity, c.loop-list.invariant.capacity);
}

pub returns : goal.returns
returns c =
    let given = c.into_iter-list-iterator.ensures.into_iter_gives in
    let all = YieldsList-end (YieldsList-from_vec {s = c.into_iter-list-iterator.result} c.args.lists.items given.0 (given.1 ∙ c.args.lists.ok.0)) c.loop-list.yielded _ c.loop-list.yielded_by c.next.result c.next.new.self c.in-None.is c.next.ensures.steps in
    record { all = c.loop-list.invariant.items ∙ ap (λ vs. c.args.room.now.items ++ all_of vs) (sym (map-id c.loop-list.yielded) ∙ all.0) }
