use Rattle.std.proofs.Common.{◌≡◌, not, ap, sym, subst, ◌∙◌, ◌<◌, filter, ◌++◌, ◌∷◌, [], All}
use Rattle.xf_types.specs.declared.state.Sa.{Sa}
use Rattle.xf_types.specs.StateList.{is_that}
use Rattle.xf_held.specs.View.{HeldView}
use Rattle.xf_states.specs.Table.{TableView, table_of, table_with, table_without}
use Rattle.xf_states.proofs.Fates.{AreApart-replaced}
use Rattle.xf_states.proofs.Tables.{AreApart, table_of-left, table_of-more}
use Rattle.xf_states.proofs.table.StateTable.replace.Goals as goal

pub invariant_of-self-2 : goal.invariant_of-self-2
invariant_of-self-2 c =
    let items : c.push.new.self.items ≡ filter (λ (h : HeldView). not (is_that c.args.one.now h.state)) c.self.inside.held.items ++ c.args.new ∷ [] =
    c.in-Ok.ensures.items ∙ ap (λ hs. hs ++ c.args.new ∷ []) (c.remove_that.ensures.rest ∙ ap (filter (λ (h : HeldView). not (is_that c.args.one.now h.state))) c.reserve.ensures.items)
    in
    subst AreApart (sym items)
    (AreApart-replaced (is_that c.args.one.now) c.self.inside.held.items c.args.new c.self.invariant
    (subst (λ (t : TableView). All (λ (s : Sa). s.sid < c.args.new.state.sid) t.states) (sym c.self.view_is) c.requires))

pub returns-clause-ok : goal.returns-clause-ok
returns-clause-ok c =
    let items : c.push.new.self.items ≡ filter (λ (h : HeldView). not (is_that c.args.one.now h.state)) c.self.inside.held.items ++ c.args.new ∷ [] =
    c.in-Ok.ensures.items ∙ ap (λ hs. hs ++ c.args.new ∷ []) (c.remove_that.ensures.rest ∙ ap (filter (λ (h : HeldView). not (is_that c.args.one.now h.state))) c.reserve.ensures.items)
    in
    ap table_of items ∙ table_of-more (filter (λ (h : HeldView). not (is_that c.args.one.now h.state)) c.self.inside.held.items) c.args.new
    ∙ ap (table_with c.args.new) (table_of-left (is_that c.args.one.now) c.self.inside.held.items ∙ ap (table_without (is_that c.args.one.now)) c.self.view_is)
