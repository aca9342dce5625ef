use Rattle.std.proofs.Common.{◌≡◌, ◌<◌, ◌++◌, List, [], ◌∷◌, length, sym, ap, ◌∙◌, subst, arith, Vec, Global}
use Rattle.std.proofs.lemmas.Bool.Decides.{nat_tests}
use Rattle.xf_types.specs.declared.call.Receipt.{Receipt}
use Rattle.xf_live.specs.Ends.{lists_in, receipts_of_all}
use Rattle.xf_live.proofs.Gathering.{IsGathering, taken_out, lists_more, first_in, joins_at, may_join, joins_empty, one_more_in}
use Rattle.xf_live.proofs.closing.take_all_in.Goals as goal

pub others-init : goal.others-init
others-init g c =
    let q = c.remove.result in
    let some : 0 < length c.args.passes.items = let n = c.requires.done.count in let s = c.requires.seats in let k = c.args.table.now.seats_are in omega arith in
    let parted = taken_out c.args.passes.items q c.remove.new.self.items some c.remove.ensures.value c.remove.ensures.items in
    let lists = lists_more _ _ _ q.view.knows.mine c.push_reserved.ensures.items c.into_parts-place.ensures.receipts ∙ ap (λ (l : List (Vec Receipt Global)). lists_in l ++ q.view.knows.mine ∷ []) c.requires.room.0 in
    record {
      gathering =
          subst (λ (l : List (List Receipt)). IsGathering g.T.Stands.standing c.args.table.now c.into_parts-place.result.0 l c.remove.new.self.items (receipts_of_all c.args.passes.items)) (sym lists)
          (first_in g.T.Stands.standing c.args.table.now c.args.passes.items q c.remove.new.self.items c.into_parts-place.result.0 c.requires.done parted c.into_parts-place.ensures.seat);
      room =
          let n = c.requires.done.count in
          let s = c.args.table.now.seats_are in
          let k = c.args.passes.ok.0 in
          let p = c.push_reserved.ensures.len in
          let q = c.push_reserved.ensures.capacity in
          let r = c.remove.ensures.len in
          let t = c.requires.room.1 in
          let u : length c.args.lists.now.items ≡ 0 = ap (λ (l : List (Vec Receipt Global)). length l) c.requires.room.0 in
          let v = c.args.lists.now.ok.0 in
          omega arith;
    }

pub take_in-requires-clause-table : goal.take_in-requires-clause-table
take_in-requires-clause-table g c =
    let l = c.others.invariant.gathering in
    let some : 0 < length c.others.passes.items = let t = c.others-test.true in let e = c.is_empty.ensures in let k = c.others.passes.ok.0 in grind (arith, nat_tests, t, e, k) in
    let parted = taken_out c.others.passes.items c.remove-in-others.result c.remove-in-others.new.self.items some c.remove-in-others.ensures.value c.remove-in-others.ensures.items in
    (l.at, joins_at _ _ _ _ _ _ l _ _ c.into_parts-seat.result.0 parted c.into_parts-seat.ensures.seat)

pub take_in-requires-clause-row : goal.take_in-requires-clause-row
take_in-requires-clause-row g c =
    let l = c.others.invariant.gathering in
    let some : 0 < length c.others.passes.items = let t = c.others-test.true in let e = c.is_empty.ensures in let k = c.others.passes.ok.0 in grind (arith, nat_tests, t, e, k) in
    let parted = taken_out c.others.passes.items c.remove-in-others.result c.remove-in-others.new.self.items some c.remove-in-others.ensures.value c.remove-in-others.ensures.items in
    may_join _ _ _ _ _ _ l _ _ c.into_parts-seat.result.0 parted c.into_parts-seat.ensures.seat

pub take_in-requires-clause-empty : goal.take_in-requires-clause-empty
take_in-requires-clause-empty g c =
    let l = c.others.invariant.gathering in
    let some : 0 < length c.others.passes.items = let t = c.others-test.true in let e = c.is_empty.ensures in let k = c.others.passes.ok.0 in grind (arith, nat_tests, t, e, k) in
    let parted = taken_out c.others.passes.items c.remove-in-others.result c.remove-in-others.new.self.items some c.remove-in-others.ensures.value c.remove-in-others.ensures.items in
    joins_empty _ _ _ _ _ _ l _ _ c.into_parts-seat.result.0 parted c.into_parts-seat.ensures.seat

pub others-preserved : goal.others-preserved
others-preserved g c =
    let l = c.others.invariant.gathering in
    let some : 0 < length c.others.passes.items = let t = c.others-test.true in let e = c.is_empty.ensures in let k = c.others.passes.ok.0 in grind (arith, nat_tests, t, e, k) in
    let parted = taken_out c.others.passes.items c.remove-in-others.result c.remove-in-others.new.self.items some c.remove-in-others.ensures.value c.remove-in-others.ensures.items in
    let lists = lists_more _ _ _ c.remove-in-others.result.view.knows.mine c.push_reserved-in-others.ensures.items c.into_parts-seat.ensures.receipts in
    record {
      gathering =
          subst (λ (r : List (List Receipt)). IsGathering g.T.Stands.standing c.args.table.now c.take_in.new.place r c.remove-in-others.new.self.items (receipts_of_all c.args.passes.items)) (sym lists)
          (one_more_in _ _ _ _ _ _ l _ _ c.into_parts-seat.result.0 parted c.into_parts-seat.ensures.seat c.take_in.new.place c.take_in.ensures.table c.take_in.ensures.row);
      room =
          let n = c.others.invariant.room in
          let p = c.push_reserved-in-others.ensures.len in
          let q = c.push_reserved-in-others.ensures.capacity in
          let r = c.remove-in-others.ensures.len in
          omega arith;
    }
