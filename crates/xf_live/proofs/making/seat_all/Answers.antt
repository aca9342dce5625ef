use Rattle.std.proofs.Common.{◌≡◌, ℕ, ◌+◌, ◌≤◌, List, [], ◌∷◌, length, Option, vec_capacity, sym, ap, ◌∙◌, subst, arith, length-append, Vec, Global}
use Rattle.atomic_table.specs.Table.{Me}
use Rattle.xf_views.specs.declared.view.View.{View}
use Rattle.xf_seats.specs.Opened.{slots_of}
use Rattle.xf_seats.specs.Seats.{maker, split_off}
use Rattle.xf_table.specs.Tables.{first_of}
use Rattle.xf_live.specs.Ends.{live_of}
use Rattle.xf_live.proofs.Seating.{room_taken, not_first, is_new, others_more}
use Rattle.xf_live.proofs.making.seat_all.Goals as goal

pub fresh-requires-2-clause-room : goal.fresh-requires-2-clause-room
fresh-requires-2-clause-room g c =
    let taken = room_taken c.args.table.now.slots _ _ _ c.take_room-room-2.ensures c.others.invariant.rooms in
    let slots = ap (λ (m : Me (Option g.row.T.Denot) View). slots_of m.0.life.start) c.others.invariant.me ∙ c.args.table.now.slots_are in
    (taken.1.0, subst (λ (n : ℕ). n ≤ vec_capacity c.take_room-room-2.result) (sym slots) taken.1.1)

pub others-preserved : goal.others-preserved
others-preserved g c =
    let i = c.others.invariant in
    let n = c.others.number in
    let start = first_of g.T.Stands.standing c.args.table.now in
    let taken = room_taken c.args.table.now.slots _ _ _ c.take_room-room.ensures i.rooms in
    let seat = c.split-seat.ensures.new ∙ ap (λ (m : Me (Option g.row.T.Denot) View). (split_off m.0, [])) i.me in
    let new = is_new (live_of g.T.Stands.standing c.args.table.now) n 0 c.fresh.result c.split-seat.result c.split-seat.ensures.table.1.table seat (not_first n start.seats (let k = i.size.0 in omega arith)) c.fresh.ensures.seat c.fresh.ensures.loads in
    let len = c.push_reserved.ensures.len in
    let capacity = c.push_reserved.ensures.capacity in
    record {
      at = c.split-seat.ensures.table.0;
      me = c.split-seat.ensures.first ∙ ap (λ (m : Me (Option g.row.T.Denot) View). (maker m.0, m.1)) i.me;
      rooms = taken.0;
      others = others_more (live_of g.T.Stands.standing c.args.table.now) _ _ c.fresh.result n i.others (omega arith) new c.push_reserved.ensures.items;
      held_size =
          let old : length c.others.held.items ≡ length c.take_room-room.new.held.items + 1 =
          ap (λ (l : List (Vec ℕ Global)). length l) c.take_room-room.ensures ∙ length-append c.take_room-room.new.held.items (c.take_room-room.result ∷ []) in
          let k = i.held_size in
          let x = c.others.held.ok.0 in
          let y = c.take_room-room.new.held.ok.0 in
          omega arith;
      size = (omega arith, omega arith, omega arith);
    }
