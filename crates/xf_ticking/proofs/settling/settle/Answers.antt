use Rattle.std.proofs.Common.{ℕ, List, length, ◌∷◌, ◌++◌, refl, ap, sym, ◌∙◌, subst}
use Rattle.xf_types.specs.declared.state.Sa.{Sa}
use Rattle.xf_index.specs.Indexes.{records_in}
use Rattle.xf_sadidx.specs.Layout.{end_of}
use Rattle.xf_sadimage.specs.States.{StatesStand}
use Rattle.xf_sadlist.specs.Listed.{with_states}
use Rattle.xf_sad.specs.Slots.{PoolFits}
use Rattle.xf_policies.proofs.Others.{others_none}
use Rattle.xf_ticking.specs.declared.due.Due.{Due}
use Rattle.xf_ticking.specs.Dues.{entry_by}
use Rattle.xf_ticking.proofs.settling.settle.Goals as goal

pub returns-in-Nothing-clause-others : goal.returns-in-Nothing-clause-others
returns-in-Nothing-clause-others g c =
    let a = c.args.layout.now.states in
    others_none (g.D.Parts.hidden c.args.parts.now) a.base (end_of a) (g.D.Cells.words c.args.parts.now) _ refl

pub returns-in-Nothing-clause-stands : goal.returns-in-Nothing-clause-stands
returns-in-Nothing-clause-stands g c = λ s front back r st.
    let a = c.args.layout.now.states in
    let w : List ℕ = g.D.Cells.words c.args.parts.now in
    subst (λ (d : Due). StatesStand a w (with_states s (records_in (front ++ (entry_by d (c.args.slot, r) ++ back)))) (front ++ (entry_by d (c.args.slot, r) ++ back)))
    (sym c.in-Nothing.is) (subst (λ (ss : List Sa). StatesStand a w (with_states s ss) (front ++ ((c.args.slot, r) ∷ back))) (sym st.listed) st)

pub returns-in-Mark-clause-stands : goal.returns-in-Mark-clause-stands
returns-in-Mark-clause-stands g c = λ s front back r st.
    subst (λ (d : Due). StatesStand c.args.layout.now.states (g.D.Cells.words c.mark.new.parts) (with_states s (records_in (front ++ (entry_by d (c.args.slot, r) ++ back)))) (front ++ (entry_by d (c.args.slot, r) ++ back)))
    (sym c.in-Mark.is) (c.mark.ensures.stands s front back r st)

pub returns-in-Mark-clause-out : goal.returns-in-Mark-clause-out
returns-in-Mark-clause-out g c = λ was. was ∙ ap (λ (slots : List ℕ). length slots) (sym c.mark.ensures.listed)

pub returns-in-Mark-clause-pool : goal.returns-in-Mark-clause-pool
returns-in-Mark-clause-pool g c = λ lasts fits.
    subst (λ (slots : List ℕ). PoolFits (g.P.Pool.capacity c.args.pool.now) (g.P.Pool.taken c.args.pool.now) (g.P.Pool.gives c.args.pool.now) (g.P.Pool.takes c.args.pool.now) c.args.layout.now.states.slots slots)
    (sym c.mark.ensures.listed) fits

pub returns-in-Leave-clause-stands : goal.returns-in-Leave-clause-stands
returns-in-Leave-clause-stands g c = λ s front back r st.
    subst (λ (d : Due). StatesStand c.args.layout.now.states (g.D.Cells.words c.remove.new.parts) (with_states s (records_in (front ++ (entry_by d (c.args.slot, r) ++ back)))) (front ++ (entry_by d (c.args.slot, r) ++ back)))
    (sym c.in-Leave.is) (c.remove.ensures.stands s front back r st)
