use Rattle.std.proofs.Common.{◌≡◌, ℕ, ◌≤◌, List, length, Option, Some, None, sym, ap, ◌∙◌, subst, arith}
use Rattle.std.specs.Prelude.{vec_capacity}
use Rattle.atomic_table.specs.Table.{Me}
use Rattle.xf_views.specs.declared.view.View.{View}
use Rattle.xf_seats.specs.Opened.{slots_of}
use Rattle.xf_live.specs.Passes.{LiveView, PassView}
use Rattle.xf_live.specs.Values.{AreHeld, home_at, with_home}
use Rattle.xf_live.proofs.Passes.{remade}
use Rattle.xf_live.proofs.Exchanges.{is_held, first_home, room_back, exchanged_me, exchanged_held}
use Rattle.xf_live.proofs.live.Live.value_in.Goals as goal

pub place_of-place-requires : goal.place_of-place-requires
place_of-place-requires g c =
    let values = ap (λ (p : PassView g.row.T.Denot). p.values) c.pass.view_is in
    let home = c.requires.out in
    is_held _ _ _ _ _ c.pass.inside.holdings c.args.slot c.as_slice.result.now c.as_slice.ensures.value None
    (ap (λ (l : List (ℕ × Option g.row.T.Denot)). home_at l c.args.slot) values ∙ home)

pub value_in-requires-clause-out : goal.value_in-requires-clause-out
value_in-requires-clause-out g c =
    let values = ap (λ (p : PassView g.row.T.Denot). p.values) c.pass.view_is in
    let home = c.requires.out in
    let first =
    first_home _ _ _ _ _ c.pass.inside.holdings c.args.slot c.place_of-place.result c.as_slice.result.now c.as_slice.ensures.value c.place_of-place.ensures c.turn_round.new.seat.me _ None
    c.turn_round.ensures.me (ap (λ (l : List (ℕ × Option g.row.T.Denot)). home_at l c.args.slot) values ∙ home) in
    first

pub turn_round-requires-2 : goal.turn_round-requires-2
turn_round-requires-2 g c =
    let e = c.value_in.ensures.value in
    let count : c.len.result ≡ length c.pass.inside.held.items = omega (arith, c.len.ensures, c.pass.inside.held.ok.0) in
    room_back _ _ _ _ _ c.pass.inside.holdings c.args.slot c.place_of-place.result c.as_slice.result.now c.as_slice.ensures.value c.place_of-place.ensures
    c.turn_round.new.seat.me c.value_in.new.place.me _ c.len.result None (Some c.args.value) e.0 c.turn_round.ensures.me e.1 e.2 count

pub invariant_of-pass-inside : goal.invariant_of-pass-inside
invariant_of-pass-inside g c =
    let q = c.pass.inside in
    let e = c.value_in.ensures.value in
    let count : c.len.result ≡ length c.pass.inside.held.items = omega (arith, c.len.ensures, c.pass.inside.held.ok.0) in
    let same =
    exchanged_me _ _ _ _ _ c.pass.inside.holdings c.args.slot c.place_of-place.result c.as_slice.result.now c.as_slice.ensures.value c.place_of-place.ensures
    c.turn_round.new.seat.me c.value_in.new.place.me q.seat.me.0 c.len.result None (Some c.args.value) e.0 c.turn_round.ensures.me e.1 e.2 count
    c.turn_round-2.new.seat.me c.turn_round-2.ensures.me in
    let holdings =
    exchanged_held _ _ _ _ _ c.pass.inside.holdings c.args.slot c.place_of-place.result c.as_slice.result.now c.as_slice.ensures.value c.place_of-place.ensures
    c.turn_round.new.seat.me c.value_in.new.place.me q.seat.me.0 c.len.result None (Some c.args.value) e.0 c.turn_round.ensures.me e.1 e.2 count in (
      ap (λ (m : Me (Option g.row.T.Denot) View). m.0.here) same ∙ q.here,
      (
        ap (λ (m : Me (Option g.row.T.Denot) View). m.0.worker) same ∙ q.worker,
        (
          ap (λ (m : Me (Option g.row.T.Denot) View). m.0.knows.count) same ∙ q.count,
          (
            ap (λ (m : Me (Option g.row.T.Denot) View). m.0.knows.mine) same ∙ q.mine,
            (
              subst (λ (m : Me (Option g.row.T.Denot) View). AreHeld (slots_of m.0.life.start) m.0.hand.slots m.0.own.turns m.1 q.held.items) (sym same) holdings,
              (subst (λ (m : Me (Option g.row.T.Denot) View). slots_of m.0.life.start ≤ vec_capacity q.held) (sym same) q.space, tt),
            ),
          ),
        ),
      ),
    )

pub returns-clause-row : goal.returns-clause-row
returns-clause-row g c =
    let q = c.pass.inside in
    let e = c.value_in.ensures.value in
    let count : c.len.result ≡ length c.pass.inside.held.items = omega (arith, c.len.ensures, c.pass.inside.held.ok.0) in
    let same =
    exchanged_me _ _ _ _ _ c.pass.inside.holdings c.args.slot c.place_of-place.result c.as_slice.result.now c.as_slice.ensures.value c.place_of-place.ensures
    c.turn_round.new.seat.me c.value_in.new.place.me q.seat.me.0 c.len.result None (Some c.args.value) e.0 c.turn_round.ensures.me e.1 e.2 count
    c.turn_round-2.new.seat.me c.turn_round-2.ensures.me in
    let table = c.turn_round-2.ensures.seat.0 ∙ (c.value_in.ensures.table.table ∙ (ap (λ (l : LiveView). l.table) c.self.view_is ∙ sym c.requires.table.table)) in
    remade c.args.pass.now _ (c.args.pass.now.view, with_home c.args.pass.now.values c.args.slot (Some c.args.value))
    (record { table = table; room = ap (λ (p : PassView g.row.T.Denot). p.room) c.pass.view_is; loads = ap (λ (p : PassView g.row.T.Denot). p.loads) c.pass.view_is })
    (same ∙ ap (λ (p : PassView g.row.T.Denot). (p.view, with_home p.values c.args.slot (Some c.args.value))) c.pass.view_is)
