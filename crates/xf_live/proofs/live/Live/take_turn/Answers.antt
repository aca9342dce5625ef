use Rattle.std.proofs.Common.{ℕ, ◌≡◌, ◌<◌, false, List, Option, subst, sym, ap, ◌∙◌, arith}
use Rattle.xf_views.specs.declared.view.LifeView.{LifeView}
use Rattle.xf_seats.specs.Opened.{slots_of}
use Rattle.xf_live.specs.Passes.{PassView}
use Rattle.xf_live.specs.Values.{holds}
use Rattle.xf_live.proofs.Held.{room_for}
use Rattle.xf_live.proofs.live.Live.take_turn.Goals as goal

pub put_first-requires : goal.put_first-requires
put_first-requires g c =
    let q = c.pass.inside in
    let values = ap (λ (p : PassView g.row.T.Denot). p.values) (sym c.pass.view_is) in
    let start = ap (λ (v : PassView g.row.T.Denot). v.view.life.start) c.pass.view_is ∙ ap (λ (l : LifeView). l.start) c.requires.table.life in
    let inside : c.args.slot < slots_of q.seat.me.0.life.start = subst (λ s. c.args.slot < slots_of s) (sym start) c.requires.row.inside in
    let free = subst (λ (l : List (ℕ × Option g.row.T.Denot)). holds l c.args.slot ≡ false) values c.requires.row.free in
    let room = room_for _ _ _ _ _ q.holdings c.args.slot inside free in
    let space = q.space in
    omega arith
