use Rattle.std.proofs.Common.{◌<◌, ap, sym, subst, length}
use Rattle.xf_types.specs.Machine.{Machine}
use Rattle.xf_types.specs.StateList.{is_that}
use Rattle.xf_held.specs.View.{HeldView}
use Rattle.xf_states.specs.Table.{TableView}
use Rattle.xf_plain.proofs.KeptStates.{kept-replaced}
use Rattle.xf_plain.proofs.plain.Plain.put_state.Goals as goal

pub invariant_of-self-2 : goal.invariant_of-self-2
invariant_of-self-2 c = record {
  policies = c.self.invariant.policies;
  seq = c.self.invariant.seq;
  states =
      kept-replaced (is_that c.args.one.now) c.self.inside.states.states c.replace.new.self.states c.in_ok-held.held.state _ _
      c.self.invariant.states
      (subst (λ (m : Machine). length m.shown.states < m.shown.max_states) (sym c.self.view_is) c.requires.room)
      (ap (λ (h : HeldView). h.state.sid) c.in_ok-held.ensures)
      (ap (λ (t : TableView). t.states) c.in_ok-replace.ensures.ok);
}
