use Rattle.std.proofs.Common.{ap, sym, ◌∙◌, refl, set}
use Rattle.std.proofs.lemmas.Bool.{true≢false}
use Rattle.xf_types.specs.TrafficRules.{packet_at}
use Rattle.xf_types.specs.declared.state.Sa.{Sa}
use Rattle.xf_types.specs.StateList.{has_sid}
use Rattle.xf_held.specs.View.{HeldView}
use Rattle.xf_states.specs.Table.{table_of, table_without}
use Rattle.xf_states.proofs.Fates.{AreApart-set, puts-at, sid-fated}
use Rattle.xf_states.proofs.Founds.{states-within}
use Rattle.xf_states.proofs.table.StateTable.receive.Goals as goal

pub invariant_of-self : goal.invariant_of-self
invariant_of-self c =
    AreApart-set c.self.inside.held.items c.args.place c.index_mut-held.result.now c.receive-did.new.self c.self.invariant
    (states-within c.self.inside.held.items c.args.self.now c.args.place c.self.view_is c.requires)
    c.index_mut-held.ensures.value
    (ap (λ (h : HeldView). h.state.sid) c.receive-did.ensures.state ∙ sid-fated c.index_mut-held.result.now _)

pub invariant_of-self-else-did : goal.invariant_of-self-else-did
invariant_of-self-else-did c =
    AreApart-set c.self.inside.held.items c.args.place c.index_mut-held.result.now c.receive-did.new.self c.self.invariant
    (states-within c.self.inside.held.items c.args.self.now c.args.place c.self.view_is c.requires)
    c.index_mut-held.ensures.value
    (ap (λ (h : HeldView). h.state.sid) c.receive-did.ensures.state ∙ sid-fated c.index_mut-held.result.now _)

pub returns-then-did : goal.returns-then-did
returns-then-did c =
    puts-at c.self.inside.held.items c.args.self.now c.args.place c.index_mut-held.result.now c.receive-did.new.self
    (packet_at c.args.packet.now c.args.now) c.receive-did.result c.remove.new.self c.self.view_is c.self.invariant
    (states-within c.self.inside.held.items c.args.self.now c.args.place c.self.view_is c.requires)
    c.index_mut-held.ensures.value c.receive-did.ensures
    (λ e. c.remove.ensures ∙ ap (λ (s : Sa). table_without (has_sid s.sid) (table_of (set c.self.inside.held.items c.args.place c.receive-did.new.self))) c.state.ensures)
    (λ e. absurd (true≢false (sym c.if-did.true ∙ e)))

pub returns-else-did : goal.returns-else-did
returns-else-did c =
    puts-at c.self.inside.held.items c.args.self.now c.args.place c.index_mut-held.result.now c.receive-did.new.self
    (packet_at c.args.packet.now c.args.now) c.receive-did.result _ c.self.view_is c.self.invariant
    (states-within c.self.inside.held.items c.args.self.now c.args.place c.self.view_is c.requires)
    c.index_mut-held.ensures.value c.receive-did.ensures
    (λ e. absurd (true≢false (sym e ∙ c.if-did.false))) (λ e. refl)
