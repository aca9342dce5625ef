use Rattle.std.proofs.Common.{ap, sym, ◌∙◌}
use Rattle.std.specs.Prelude.{None, Some, option_copied}
use Rattle.xf_types.specs.declared.state.Sa.{Sa}
use Rattle.xf_types.specs.StateList.{is_larval_of, last_of}
use Rattle.xf_held.specs.View.{HeldView}
use Rattle.xf_states.proofs.Founds.{larval-found}
use Rattle.xf_states.proofs.table.StateTable.larval_replaced.Goals as goal

pub returns-in-None : goal.returns-in-None
returns-in-None c =
    larval-found c.args.spec.now c.self.inside.held.items c.args.self.now None c.self.view_is c.if-spec-eq0.false
    (sym (ap option_copied c.in-None.is) ∙ c.find_larval_of.ensures
    ∙ ap (last_of (λ (h : HeldView). is_larval_of c.args.spec.now h.state)) c.deref.ensures.value)

pub returns-in-Some : goal.returns-in-Some
returns-in-Some c =
    ap (λ (s : Sa). Some s) c.state.ensures
    ∙ larval-found c.args.spec.now c.self.inside.held.items c.args.self.now (Some c.in-Some.found.now) c.self.view_is
    c.if-spec-eq0.false
    (sym (ap option_copied c.in-Some.is) ∙ c.find_larval_of.ensures
    ∙ ap (last_of (λ (h : HeldView). is_larval_of c.args.spec.now h.state)) c.deref.ensures.value)
