use Rattle.std.proofs.Common.{◌≡◌, ◌<◌, ◌∙◌, ap, sym, subst, length}
use Rattle.std.specs.Prelude.{IfSome, find, position}
use Rattle.xf_types.specs.StateList.{has_sid}
use Rattle.xf_held.specs.View.{HeldView}
use Rattle.xf_states.specs.Table.{TableView, state_at}
use Rattle.xf_states.proofs.Founds.{first-found, first-within}
use Rattle.xf_states.proofs.table.StateTable.place_of_sid.Goals as goal

pub returns : goal.returns
returns c =
    let at = c.position_of.ensures ∙ ap (position (λ (h : HeldView). has_sid c.args.sid h.state)) c.deref.ensures.value in
    record {
      state =
          ap (state_at c.args.self.now.states) at
          ∙ subst (λ (t : TableView). state_at t.states (position (λ (h : HeldView). has_sid c.args.sid h.state) c.self.inside.held.items) ≡ find (has_sid c.args.sid) t.states)
          c.self.view_is (first-found (has_sid c.args.sid) c.self.inside.held.items);
      within =
          subst (λ o. IfSome o (λ place. place < length c.args.self.now.states)) (sym at)
          (first-within (λ (h : HeldView). has_sid c.args.sid h.state) c.self.inside.held.items c.args.self.now c.self.view_is);
    }
