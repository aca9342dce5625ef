use Rattle.std.proofs.Common.{◌≡◌, ℕ, List, ◌∷◌, ◌++◌, true, false, Some, None, ap, sym, ◌∙◌, subst}
use Rattle.xf_types.specs.declared.policy.Policy.{Policy}
use Rattle.xf_index.specs.Indexes.{records_in}
use Rattle.xf_image.specs.Entries.{with_policies}
use Rattle.xf_inexact.specs.Whole.{SpdStands}
use Rattle.xf_image.specs.Readings.{listed_in}
use Rattle.xf_spd.specs.Slots.{PoolFits}
use Rattle.xf_beside.specs.Leaving.{leaves}
use Rattle.xf_beside.specs.Passing.{StandsWith}
use Rattle.xf_beside.proofs.Passed.{left_passed, stayed_passed, between_parts}
use Rattle.xf_beside.proofs.looping.remove_if.Goals as goal

same_policy : (p q : Policy) → Some p ≡ Some q → p ≡ q
same_policy p q e = cc

pub returns-then-takes-clause-passes : goal.returns-then-takes-clause-passes
returns-then-takes-clause-passes g c = λ s front back p st.
    let a = c.args.spd.now.area in
    let shown = with_policies s (records_in (front ++ ((c.args.slot, p) ∷ back))) in
    let same : c.in-Some.policy ≡ p = same_policy c.in-Some.policy p (c.in-Some.ensures.answer shown front back p st) in
    let gone : leaves c.args.leaving.now p ≡ true = ap (λ (q : Policy). leaves c.args.leaving.now q) (sym same) ∙ (sym c.takes.ensures ∙ c.if-takes.true) in
    left_passed a (g.C.Cells.words c.args.c.now) (g.C.Cells.words c.remove.new.c) s front back c.args.slot p (leaves c.args.leaving.now p) st
    (c.remove.ensures.stands shown (front ++ ((c.args.slot, p) ∷ back)) p (between_parts front back c.args.slot p)
    (subst (λ (i : List ℕ). StandsWith a i s (front ++ ((c.args.slot, p) ∷ back))) (sym c.policy.ensures.words) st))
    gone

pub returns-then-takes-clause-pool : goal.returns-then-takes-clause-pool
returns-then-takes-clause-pool g c = λ s es p lasts is st fits.
    let a = c.args.spd.now.area in
    c.remove.ensures.pool s es p lasts is (subst (λ (i : List ℕ). SpdStands a i s es) (sym c.policy.ensures.words) st)
    (subst (λ (i : List ℕ). PoolFits (g.P.Pool.capacity c.args.pool.now) (g.P.Pool.taken c.args.pool.now) (g.P.Pool.gives c.args.pool.now) (g.P.Pool.takes c.args.pool.now) a.slots (listed_in a i)) (sym c.policy.ensures.words) fits)

pub returns-else-takes-clause-passes : goal.returns-else-takes-clause-passes
returns-else-takes-clause-passes g c = λ s front back p st.
    let a = c.args.spd.now.area in
    let shown = with_policies s (records_in (front ++ ((c.args.slot, p) ∷ back))) in
    let same : c.in-Some.policy ≡ p = same_policy c.in-Some.policy p (c.in-Some.ensures.answer shown front back p st) in
    let gone : leaves c.args.leaving.now p ≡ false = ap (λ (q : Policy). leaves c.args.leaving.now q) (sym same) ∙ (sym c.takes.ensures ∙ c.if-takes.false) in
    stayed_passed a (g.C.Cells.words c.policy.new.c) s front back c.args.slot p (leaves c.args.leaving.now p)
    (subst (λ (i : List ℕ). StandsWith a i s (front ++ ((c.args.slot, p) ∷ back))) (sym c.policy.ensures.words) st) gone

absurd_none : (p : Policy) → None ≡ Some p → ⊥
absurd_none p e = cc

pub returns-in-None-clause-passes : goal.returns-in-None-clause-passes
returns-in-None-clause-passes g c = λ s front back p st.
    absurd (absurd_none p (c.in-None.ensures.answer (with_policies s (records_in (front ++ ((c.args.slot, p) ∷ back)))) front back p st))
