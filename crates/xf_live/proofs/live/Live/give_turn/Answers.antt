use Rattle.std.proofs.Common.{◌≡◌, ℕ, ◌+◌, ◌<◌, ◌≤◌, List, length, Option, Some, sym, ap, ◌∙◌, subst, arith}
use Rattle.std.specs.Prelude.{vec_capacity}
use Rattle.atomic_table.specs.Table.{Me}
use Rattle.xf_views.specs.Views.{view_after_give}
use Rattle.xf_views.specs.declared.view.View.{View}
use Rattle.xf_views.specs.declared.view.LifeView.{LifeView}
use Rattle.xf_seats.specs.Opened.{slots_of}
use Rattle.xf_live.specs.Passes.{LiveView, PassView}
use Rattle.xf_live.specs.Values.{AreHeld, home_at, without}
use Rattle.xf_live.proofs.Passes.{remade}
use Rattle.xf_live.proofs.Exchanges.{is_held, first_home, room_without, gave_me, gave_held, may_give, slot_below}
use Rattle.xf_live.proofs.live.Live.give_turn.Goals as goal

pub place_of-place-requires : goal.place_of-place-requires
place_of-place-requires g c =
    let values = ap (λ (p : PassView g.row.T.Denot). p.values) c.pass.view_is in
    is_held _ _ _ _ _ c.pass.inside.holdings c.args.slot c.as_slice.result.now c.as_slice.ensures.value (Some c.requires.row.value)
    (ap (λ (l : List (ℕ × Option g.row.T.Denot)). home_at l c.args.slot) values ∙ c.requires.row.home)

pub give_turn-requires-clause-slot : goal.give_turn-requires-clause-slot
give_turn-requires-clause-slot g c =
    let values = ap (λ (p : PassView g.row.T.Denot). p.values) c.pass.view_is in
    let below =
    slot_below _ _ _ _ _ c.pass.inside.holdings c.args.slot (Some c.requires.row.value)
    (ap (λ (l : List (ℕ × Option g.row.T.Denot)). home_at l c.args.slot) values ∙ c.requires.row.home) in
    let start =
    ap (λ (p : PassView g.row.T.Denot). slots_of p.view.life.start) c.pass.view_is
    ∙ (ap (λ (l : LifeView). slots_of l.start) c.requires.table.life ∙ (ap (λ (l : LiveView). slots_of l.start) (sym c.self.view_is) ∙ c.self.inside.table.slots_are)) in
    subst (λ (n : ℕ). c.args.slot < n) start below

pub give_turn-requires-clause-row : goal.give_turn-requires-clause-row
give_turn-requires-clause-row g c =
    let values = ap (λ (p : PassView g.row.T.Denot). p.values) c.pass.view_is in
    let first =
    first_home _ _ _ _ _ c.pass.inside.holdings c.args.slot c.place_of-place.result c.as_slice.result.now c.as_slice.ensures.value c.place_of-place.ensures c.turn_round.new.seat.me _
    (Some c.requires.row.value) c.turn_round.ensures.me (ap (λ (l : List (ℕ × Option g.row.T.Denot)). home_at l c.args.slot) values ∙ c.requires.row.home) in
    may_give _ c.args.pass.now c.args.slot c.turn_round.new.seat.me first.0 c.requires.row
    (ap (λ (p : PassView g.row.T.Denot). p.view) (sym c.pass.view_is) ∙ ap (λ (m : Me (Option g.row.T.Denot) View). m.0) (sym c.turn_round.ensures.me)) first.1

pub turn_round-requires-2 : goal.turn_round-requires-2
turn_round-requires-2 g c =
    let count : c.len.result + 1 ≡ length c.pass.inside.held.items = omega (arith, c.len.ensures, c.remove.ensures.len, c.pass.inside.held.ok.0) in
    room_without _ _ _ _ _ c.pass.inside.holdings c.args.slot c.place_of-place.result c.as_slice.result.now c.as_slice.ensures.value c.place_of-place.ensures
    c.turn_round.new.seat.me c.give_turn.new.place.me _ c.len.result c.turn_round.ensures.me c.give_turn.ensures.turn count

pub invariant_of-pass-inside : goal.invariant_of-pass-inside
invariant_of-pass-inside g c =
    let q = c.pass.inside in
    let count : c.len.result + 1 ≡ length c.pass.inside.held.items = omega (arith, c.len.ensures, c.remove.ensures.len, c.pass.inside.held.ok.0) in
    let same =
    gave_me _ _ _ _ _ c.pass.inside.holdings c.args.slot c.place_of-place.result c.as_slice.result.now c.as_slice.ensures.value c.place_of-place.ensures
    c.turn_round.new.seat.me c.give_turn.new.place.me q.seat.me.0 c.len.result c.turn_round.ensures.me c.give_turn.ensures.turn count c.turn_round-2.new.seat.me c.turn_round-2.ensures.me in
    let left =
    gave_held _ _ _ _ _ c.pass.inside.holdings c.args.slot c.place_of-place.result c.as_slice.result.now c.as_slice.ensures.value c.place_of-place.ensures in
    let holdings =
    subst (λ (l : List ℕ). AreHeld (slots_of q.seat.me.0.life.start) (view_after_give q.seat.me.0 c.args.slot).hand.slots (view_after_give q.seat.me.0 c.args.slot).own.turns (without q.seat.me.1 c.args.slot) l)
    (sym c.remove.ensures.items) left in
    let space : slots_of q.seat.me.0.life.start ≤ vec_capacity c.remove.new.self = subst (λ (n : ℕ). slots_of q.seat.me.0.life.start ≤ n) (sym c.remove.ensures.capacity) q.space in (
      ap (λ (m : Me (Option g.row.T.Denot) View). m.0.here) same ∙ q.here,
      (
        ap (λ (m : Me (Option g.row.T.Denot) View). m.0.worker) same ∙ q.worker,
        (
          ap (λ (m : Me (Option g.row.T.Denot) View). m.0.knows.count) same ∙ q.count,
          (
            ap (λ (m : Me (Option g.row.T.Denot) View). m.0.knows.mine) same ∙ q.mine,
            (
              subst (λ (m : Me (Option g.row.T.Denot) View). AreHeld (slots_of m.0.life.start) m.0.hand.slots m.0.own.turns m.1 c.remove.new.self.items) (sym same) holdings,
              (subst (λ (m : Me (Option g.row.T.Denot) View). slots_of m.0.life.start ≤ vec_capacity c.remove.new.self) (sym same) space, tt),
            ),
          ),
        ),
      ),
    )

pub returns-clause-row : goal.returns-clause-row
returns-clause-row g c =
    let q = c.pass.inside in
    let count : c.len.result + 1 ≡ length c.pass.inside.held.items = omega (arith, c.len.ensures, c.remove.ensures.len, c.pass.inside.held.ok.0) in
    let same =
    gave_me _ _ _ _ _ c.pass.inside.holdings c.args.slot c.place_of-place.result c.as_slice.result.now c.as_slice.ensures.value c.place_of-place.ensures
    c.turn_round.new.seat.me c.give_turn.new.place.me q.seat.me.0 c.len.result c.turn_round.ensures.me c.give_turn.ensures.turn count c.turn_round-2.new.seat.me c.turn_round-2.ensures.me in
    let table = c.turn_round-2.ensures.seat.0 ∙ (c.give_turn.ensures.table.table ∙ (ap (λ (l : LiveView). l.table) c.self.view_is ∙ sym c.requires.table.table)) in
    remade c.args.pass.now _ (view_after_give c.args.pass.now.view c.args.slot, without c.args.pass.now.values c.args.slot)
    (record { table = table; room = ap (λ (p : PassView g.row.T.Denot). p.room) c.pass.view_is; loads = ap (λ (p : PassView g.row.T.Denot). p.loads) c.pass.view_is })
    (same ∙ ap (λ (p : PassView g.row.T.Denot). (view_after_give p.view c.args.slot, without p.values c.args.slot)) c.pass.view_is)
