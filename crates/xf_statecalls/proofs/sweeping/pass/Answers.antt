use Rattle.std.proofs.Common.{◌≡◌, ℕ, Bool, true, List, length, ap, sym, ◌∙◌, subst, cond}
use Rattle.xf_types.specs.declared.state.Sa.{Sa}
use Rattle.xf_types.specs.Machine.{Machine}
use Rattle.xf_sad.specs.Slots.{listed_in}
use Rattle.xf_rows.specs.Values.{Beside}
use Rattle.xf_statecalls.specs.Choices.{chosen}
use Rattle.xf_statecalls.specs.Left.{RowAt, StandsFor}
use Rattle.xf_statecalls.specs.Sweeps.{passed}
use Rattle.xf_statecalls.proofs.Others.{others_none}
use Rattle.xf_statecalls.proofs.Standing.{row_state, row_none}
use Rattle.xf_statecalls.proofs.Swept.{few_of, started_not}
use Rattle.xf_statecalls.proofs.sweeping.pass.Given as given
use Rattle.xf_statecalls.proofs.sweeping.pass.Goals as goal

pub returns-in-None-clause-others : goal.returns-in-None-clause-others
returns-in-None-clause-others g c =
    others_none c.args.layout.now (g.D.Parts.hidden c.args.parts.now) (g.D.Cells.words c.args.parts.now) _ (g.D.Parts.beside c.args.parts.now) _ c.in-None.ensures.words c.in-None.ensures.beside

pub returns-in-None-clause-started : goal.returns-in-None-clause-started
returns-in-None-clause-started g c = started_not _ _ _ _ _ _ c.in-None.ensures.words c.in-None.ensures.beside c.in-None.ensures.begun

pub returns-in-None-clause-count : goal.returns-in-None-clause-count
returns-in-None-clause-count g c = λ m t.
    absurd (row_none c.args.layout.now (g.D.Cells.words c.args.parts.now) (g.D.Parts.beside c.args.parts.now) m c.args.slot t c.in-None.ensures.answer)

pub returns-in-None-clause-stands : goal.returns-in-None-clause-stands
returns-in-None-clause-stands g c = λ m t.
    absurd (row_none c.args.layout.now (g.D.Cells.words c.args.parts.now) (g.D.Parts.beside c.args.parts.now) m c.args.slot t c.in-None.ensures.answer)

chosen_is : (g : given.Over) (c : goal.After-leave_if g) (m : Machine) (t : RowAt c.args.layout.now (g.D.Cells.words c.args.parts.now) (g.D.Parts.beside c.args.parts.now) m c.args.slot)
    → c.takes-leaves.result ≡ chosen c.args.choice.now t.row.1.0
chosen_is g c m t =
    c.takes-leaves.ensures
    ∙ ap (λ (s : Sa). chosen c.args.choice.now s)
    (row_state c.args.layout.now (g.D.Cells.words c.args.parts.now) (g.D.Parts.beside c.args.parts.now) m c.args.slot c.in-Some.state t c.in-Some.ensures.answer)

leaves : (g : given.Over) (c : goal.After-leave_if g) (m : Machine) (t : RowAt c.args.layout.now (g.D.Cells.words c.args.parts.now) (g.D.Parts.beside c.args.parts.now) m c.args.slot)
    → StandsFor c.args.layout.now (g.D.Cells.words c.leave_if.new.parts) (g.D.Parts.beside c.leave_if.new.parts) m.shown (passed c.takes-leaves.result t.place.front t.row t.place.back)
leaves g c =
    subst (λ (b : Beside). (m : Machine) (t : RowAt c.args.layout.now (g.D.Cells.words c.args.parts.now) b m c.args.slot)
    → StandsFor c.args.layout.now (g.D.Cells.words c.leave_if.new.parts) (g.D.Parts.beside c.leave_if.new.parts) m.shown (passed c.takes-leaves.result t.place.front t.row t.place.back)) c.in-Some.ensures.beside
    (subst (λ (i : List ℕ). (m : Machine) (t : RowAt c.args.layout.now i (g.D.Parts.beside c.state_here.new.parts) m c.args.slot)
    → StandsFor c.args.layout.now (g.D.Cells.words c.leave_if.new.parts) (g.D.Parts.beside c.leave_if.new.parts) m.shown (passed c.takes-leaves.result t.place.front t.row t.place.back)) c.in-Some.ensures.words
    c.leave_if.ensures.stands)

pub returns-in-Some-clause-few : goal.returns-in-Some-clause-few
returns-in-Some-clause-few g c = few_of c.takes-leaves.result c.leave_if.result c.leave_if.ensures.count

pub returns-in-Some-clause-count : goal.returns-in-Some-clause-count
returns-in-Some-clause-count g c = λ m t. c.leave_if.ensures.count ∙ ap (λ (x : Bool). cond {A = ℕ} x 1 0) (chosen_is g c m t)

pub returns-in-Some-clause-stands : goal.returns-in-Some-clause-stands
returns-in-Some-clause-stands g c = λ m t.
    subst (λ (x : Bool). StandsFor c.args.layout.now (g.D.Cells.words c.leave_if.new.parts) (g.D.Parts.beside c.leave_if.new.parts) m.shown (passed x t.place.front t.row t.place.back)) (chosen_is g c m t)
    (leaves g c m t)

pub returns-in-None-clause-out : goal.returns-in-None-clause-out
returns-in-None-clause-out g c = λ out. out ∙ ap (λ (w : List ℕ). length (listed_in c.args.layout.now.states w)) (sym c.in-None.ensures.words)

pub returns-in-Some-clause-out : goal.returns-in-Some-clause-out
returns-in-Some-clause-out g c = λ out.
    c.leave_if.ensures.out (out ∙ ap (λ (w : List ℕ). length (listed_in c.args.layout.now.states w)) (sym c.in-Some.ensures.words))

pub leave_if-requires-clause-held : goal.leave_if-requires-clause-held
leave_if-requires-clause-held g c = λ leaves.
    ap (λ (b : Beside). b.held c.args.slot) c.in-Some.ensures.beside
    ∙ c.requires.held c.in-Some.state (sym c.in-Some.ensures.answer) (sym c.takes-leaves.ensures ∙ leaves)
