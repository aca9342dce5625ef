use Rattle.std.proofs.Common.{rules, refl, false, ◌≤◌, Option, subst, sym, ap}
use Rattle.std.specs.Prelude.{vec_capacity}
use Rattle.atomic_table.specs.Table.{Me}
use Rattle.xf_views.specs.declared.view.View.{View}
use Rattle.xf_seats.specs.Opened.{slots_of}
use Rattle.xf_table.specs.Rows.{IsHonestStay}
use Rattle.xf_live.specs.Passes.{PassView}
use Rattle.xf_live.proofs.Held.{drawn_held}
use Rattle.xf_live.proofs.live.Live.draw_still.Goals as goal

pub draw_still-number-requires-clause-honest : goal.draw_still-number-requires-clause-honest
draw_still-number-requires-clause-honest g c =
    subst (λ (v : View). IsHonestStay g.T.Meaning.bucket_of g.T.Meaning.good g.T.Meaning.lists v c.args.entry)
    (ap (λ (p : PassView g.row.T.Denot). p.view) (sym c.pass.view_is)) c.requires.honest

pub invariant_of-pass-inside : goal.invariant_of-pass-inside
invariant_of-pass-inside g c =
    let e = c.draw_still-number.ensures.row in
    let q = c.pass.inside in
    let holdings = drawn_held c.draw_still-number.new.place.me q.seat.me.0 q.seat.me.1 q.held.items false _ _ _ (λ t. refl) e.3.1 q.holdings in
    let space = subst (λ (m : Me (Option g.row.T.Denot) View). slots_of m.0.life.start ≤ vec_capacity q.held) (sym e.3.1) q.space in
    (search rules, (search rules, (search rules, (search rules, (holdings, (space, tt))))))
