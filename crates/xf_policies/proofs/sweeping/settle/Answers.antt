use Rattle.std.proofs.Common.{ℕ, List, ◌++◌, length, refl, ap, sym, ◌∙◌, subst}
use Rattle.xf_inexact.specs.Whole.{whole_end}
use Rattle.xf_spd.specs.Slots.{PoolFits}
use Rattle.xf_policies.specs.declared.sweep.Fate.{Fate}
use Rattle.xf_policies.specs.Sweeps.{left_of}
use Rattle.xf_policies.specs.Standing.{StandsWith, Moves}
use Rattle.xf_policies.proofs.Others.{others_none, others_of}
use Rattle.xf_policies.proofs.sweeping.settle.Goals as goal

pub returns-in-Stays-clause-others : goal.returns-in-Stays-clause-others
returns-in-Stays-clause-others g c = others_none (g.C.PolicySlots.hidden c.args.c.now) c.args.spd.now.area.base (whole_end c.args.spd.now.area) (g.C.Cells.words c.args.c.now) _ refl

pub returns-in-Stays-clause-moves : goal.returns-in-Stays-clause-moves
returns-in-Stays-clause-moves g c =
    subst (λ (f : Fate). Moves f (g.C.Cells.words c.args.c.now) (g.C.Cells.words c.args.c.now) (g.C.Load.begun c.args.c.now) (g.C.Load.begun c.args.c.now)) (sym c.in-Stays.is) (refl, refl)

pub returns-in-Stays-clause-stands : goal.returns-in-Stays-clause-stands
returns-in-Stays-clause-stands g c = λ s front back st.
    subst (λ (f : Fate). StandsWith c.args.spd.now.area (g.C.Cells.words c.args.c.now) s (front ++ (left_of f c.args.entry.now.slot c.args.entry.now.policy ++ back))) (sym c.in-Stays.is) st

pub returns-in-Warned-clause-others : goal.returns-in-Warned-clause-others
returns-in-Warned-clause-others g c =
    others_of (g.C.PolicySlots.hidden c.args.c.now) c.args.spd.now.area.base (whole_end c.args.spd.now.area) (g.C.Cells.words c.args.c.now) (g.C.Cells.words c.warn.new.c) c.warn.ensures.frame

pub returns-in-Warned-clause-moves : goal.returns-in-Warned-clause-moves
returns-in-Warned-clause-moves g c =
    subst (λ (f : Fate). Moves f (g.C.Cells.words c.args.c.now) (g.C.Cells.words c.warn.new.c) (g.C.Load.begun c.args.c.now) (g.C.Load.begun c.warn.new.c)) (sym c.in-Warned.is) c.warn.ensures.begun

pub returns-in-Warned-clause-stands : goal.returns-in-Warned-clause-stands
returns-in-Warned-clause-stands g c = λ s front back st.
    subst (λ (f : Fate). StandsWith c.args.spd.now.area (g.C.Cells.words c.warn.new.c) s (front ++ (left_of f c.args.entry.now.slot c.args.entry.now.policy ++ back))) (sym c.in-Warned.is) (c.warn.ensures.stands s front back c.args.entry.now.policy st)

pub returns-in-Warned-clause-pool : goal.returns-in-Warned-clause-pool
returns-in-Warned-clause-pool g c = λ s front back lasts st fits.
    subst (λ (slots : List ℕ). PoolFits (g.P.Pool.capacity c.args.pool.now) (g.P.Pool.taken c.args.pool.now) (g.P.Pool.gives c.args.pool.now) (g.P.Pool.takes c.args.pool.now) c.args.spd.now.area.slots slots)
    (sym (c.warn.ensures.slots s front back c.args.entry.now.policy st)) fits

pub returns-in-Gone-clause-moves : goal.returns-in-Gone-clause-moves
returns-in-Gone-clause-moves g c =
    subst (λ (f : Fate). Moves f (g.C.Cells.words c.args.c.now) (g.C.Cells.words c.remove.new.c) (g.C.Load.begun c.args.c.now) (g.C.Load.begun c.remove.new.c)) (sym c.in-Gone.is) c.remove.ensures.begun

pub returns-in-Gone-clause-stands : goal.returns-in-Gone-clause-stands
returns-in-Gone-clause-stands g c = λ s front back st.
    subst (λ (f : Fate). StandsWith c.args.spd.now.area (g.C.Cells.words c.remove.new.c) s (front ++ (left_of f c.args.entry.now.slot c.args.entry.now.policy ++ back))) (sym c.in-Gone.is) (c.remove.ensures.stands s front back st)

pub returns-in-Warned-clause-out : goal.returns-in-Warned-clause-out
returns-in-Warned-clause-out g c = λ s front back st was.
    was ∙ ap (λ (xs : List ℕ). length xs) (sym (c.warn.ensures.slots s front back c.args.entry.now.policy st))

pub returns-in-Gone-clause-out : goal.returns-in-Gone-clause-out
returns-in-Gone-clause-out g c = λ s front back st was. c.remove.ensures.out s front back st was
