use Rattle.std.proofs.Common.{◌≡◌, ℕ, ◌≤◌, List, ◌∷◌, ◌++◌, Some, None, length, ap, sym, ◌∙◌, subst}
use Rattle.xf_types.specs.declared.policy.Policy.{Policy}
use Rattle.xf_types.specs.Machine.{Shown}
use Rattle.xf_index.specs.Indexes.{records_in}
use Rattle.xf_image.specs.Entries.{with_policies}
use Rattle.xf_image.specs.Readings.{listed_in}
use Rattle.xf_inexact.specs.Whole.{whole_end}
use Rattle.xf_spd.specs.Slots.{PoolFits}
use Rattle.xf_policies.specs.Standing.{StandsWith, Passes}
use Rattle.xf_policies.proofs.Others.{others_none, others_as}
use Rattle.xf_policies.proofs.Swept.{moves_as}
use Rattle.xf_policies.proofs.sweeping.pass.Given as given
use Rattle.xf_policies.proofs.sweeping.pass.Goals as goal

same_policy : (p q : Policy) → Some p ≡ Some q → p ≡ q
same_policy p q e = cc

not_none : (p : Policy) → None ≡ Some p → ⊥
not_none p e = cc

pub settle-requires-clause-hidden : goal.settle-requires-clause-hidden
settle-requires-clause-hidden g c =
    subst (λ (n : ℕ). n ≤ c.args.spd.now.area.base) (sym (g.met.C.PolicySlots.kept c.policy_in.new.c c.args.c.now c.policy_in.ensures.rest)) c.requires.hidden

pub returns-in-Some-clause-others : goal.returns-in-Some-clause-others
returns-in-Some-clause-others g c =
    let a = c.args.spd.now.area in
    others_as (g.C.PolicySlots.hidden c.args.c.now) (g.C.PolicySlots.hidden c.policy_in.new.c) a.base (whole_end a) (g.C.Cells.words c.args.c.now) (g.C.Cells.words c.policy_in.new.c) (g.C.Cells.words c.settle.new.c)
    (g.met.C.PolicySlots.kept c.policy_in.new.c c.args.c.now c.policy_in.ensures.rest) c.policy_in.ensures.words c.settle.ensures.others

pub returns-in-Some-clause-moves : goal.returns-in-Some-clause-moves
returns-in-Some-clause-moves g c =
    moves_as c.fate-fate.result (g.C.Cells.words c.args.c.now) (g.C.Cells.words c.policy_in.new.c) (g.C.Cells.words c.settle.new.c) _ _ _ c.policy_in.ensures.words c.policy_in.ensures.begun c.settle.ensures.moves

-- the policy that was read is the one that stands there
same : (g : given.Over) (c : goal.After-settle g) (s : Shown) (front back : List (ℕ × Policy)) (p : Policy)
    → StandsWith c.args.spd.now.area (g.C.Cells.words c.args.c.now) s (front ++ ((c.args.slot, p) ∷ back)) → c.in-Some.policy ≡ p
same g c s front back p st = same_policy c.in-Some.policy p (c.in-Some.ensures.answer (with_policies s (records_in (front ++ ((c.args.slot, p) ∷ back)))) front back p st)

still : (g : given.Over) (c : goal.After-settle g) (s : Shown) (front back : List (ℕ × Policy)) (p : Policy)
    → StandsWith c.args.spd.now.area (g.C.Cells.words c.args.c.now) s (front ++ ((c.args.slot, p) ∷ back))
    → StandsWith c.args.spd.now.area (g.C.Cells.words c.policy_in.new.c) s (front ++ ((c.args.slot, c.in-Some.policy) ∷ back))
still g c s front back p st =
    subst (λ (q : Policy). StandsWith c.args.spd.now.area (g.C.Cells.words c.policy_in.new.c) s (front ++ ((c.args.slot, q) ∷ back))) (sym (same g c s front back p st))
    (subst (λ (i : List ℕ). StandsWith c.args.spd.now.area i s (front ++ ((c.args.slot, p) ∷ back))) (sym c.policy_in.ensures.words) st)

pub returns-in-Some-clause-passes : goal.returns-in-Some-clause-passes
returns-in-Some-clause-passes g c = λ s front back p st.
    subst (λ (q : Policy). Passes c.args.spd.now.area (g.C.Cells.words c.settle.new.c) s front c.args.slot q back c.args.what.now c.fate-fate.result) (same g c s front back p st)
    (record { fate_is = c.fate-fate.ensures; stands = c.settle.ensures.stands s front back (still g c s front back p st) })

pub returns-in-Some-clause-pool : goal.returns-in-Some-clause-pool
returns-in-Some-clause-pool g c = λ s front back p lasts st fits.
    let a = c.args.spd.now.area in
    c.settle.ensures.pool s front back lasts (still g c s front back p st)
    (subst (λ (i : List ℕ). PoolFits (g.P.Pool.capacity c.args.pool.now) (g.P.Pool.taken c.args.pool.now) (g.P.Pool.gives c.args.pool.now) (g.P.Pool.takes c.args.pool.now) a.slots (listed_in a i)) (sym c.policy_in.ensures.words) fits)

pub returns-in-Some-clause-out : goal.returns-in-Some-clause-out
returns-in-Some-clause-out g c = λ s front back p st was.
    c.settle.ensures.out s front back (still g c s front back p st) (was ∙ ap (λ (i : List ℕ). length (listed_in c.args.spd.now.area i)) (sym c.policy_in.ensures.words))

pub returns-in-None-clause-out : goal.returns-in-None-clause-out
returns-in-None-clause-out g c = λ s front back p st was. was ∙ ap (λ (i : List ℕ). length (listed_in c.args.spd.now.area i)) (sym c.policy_in.ensures.words)

pub returns-in-None-clause-others : goal.returns-in-None-clause-others
returns-in-None-clause-others g c =
    others_none (g.C.PolicySlots.hidden c.args.c.now) c.args.spd.now.area.base (whole_end c.args.spd.now.area) (g.C.Cells.words c.args.c.now) (g.C.Cells.words c.policy_in.new.c) c.policy_in.ensures.words

pub returns-in-None-clause-passes : goal.returns-in-None-clause-passes
returns-in-None-clause-passes g c = λ s front back p st.
    absurd (not_none p (c.in-None.ensures.answer (with_policies s (records_in (front ++ ((c.args.slot, p) ∷ back)))) front back p st))

pub returns-in-None-clause-pool : goal.returns-in-None-clause-pool
returns-in-None-clause-pool g c = λ s front back p lasts st fits.
    let a = c.args.spd.now.area in
    subst (λ (i : List ℕ). PoolFits (g.P.Pool.capacity c.args.pool.now) (g.P.Pool.taken c.args.pool.now) (g.P.Pool.gives c.args.pool.now) (g.P.Pool.takes c.args.pool.now) a.slots (listed_in a i)) (sym c.policy_in.ensures.words) fits
