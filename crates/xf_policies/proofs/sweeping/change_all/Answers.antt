use Rattle.std.proofs.Common.{ℕ, ◌+◌, ◌-◌, ◌≤◌, List, ◌∷◌, ◌++◌, Option, length, refl, ap, sym, ◌∙◌, subst, rules, arith}
use Rattle.xf_image.specs.Readings.{listed_in}
use Rattle.xf_inexact.specs.Whole.{whole_end}
use Rattle.xf_spd.specs.Slots.{PoolFits}
use Rattle.xf_policies.specs.Standing.{StandsWith, Started, Sweeping}
use Rattle.xf_policies.proofs.Others.{others_none, others_as, others_twice}
use Rattle.xf_policies.proofs.Swept.{sweeping_begins, sweeping_goes, sweeping_ends, sweeping_stops, comes_here, takes_back, started_not, started_more, moves_as}
use Rattle.xf_policies.proofs.sweeping.change_all.Goals as goal

pub slots-init : goal.slots-init
slots-init g c =
    let a = c.args.spd.now.area in
    let first = c.first_slot-at in
    record {
      size = first.ensures.size;
      rest = first.ensures.rest;
      capacity = refl;
      lasts = refl;
      held = refl;
      below = first.ensures.below;
      few = omega arith;
      others = others_none (g.C.PolicySlots.hidden c.args.c.now) a.base (whole_end a) (g.C.Cells.words c.args.c.now) (g.C.Cells.words first.new.c) first.ensures.words;
      started = started_not (g.C.Cells.words c.args.c.now) (g.C.Cells.words first.new.c) _ _ first.ensures.words first.ensures.begun;
      sweeping = λ s es st.
          subst (λ (i : List ℕ). Sweeping a i c.args.what.now s es first.result a.slots 0) (sym first.ensures.words)
          (sweeping_begins a (g.C.Cells.words c.args.c.now) c.args.what.now s es first.result st (first.ensures.answer s es st));
      out = c.requires.pool.taken ∙ ap (λ (i : List ℕ). length (listed_in a i)) (sym first.ensures.words);
      pool = λ lasts. subst (λ (i : List ℕ). PoolFits (g.P.Pool.capacity c.args.pool.now) (g.P.Pool.taken c.args.pool.now) (g.P.Pool.gives c.args.pool.now) (g.P.Pool.takes c.args.pool.now) a.slots (listed_in a i)) (sym first.ensures.words) c.requires.pool;
    }

pub pass-fate-requires-clause-hidden : goal.pass-fate-requires-clause-hidden
pass-fate-requires-clause-hidden g c =
    subst (λ (n : ℕ). n ≤ c.args.spd.now.area.base) (sym (g.met.C.PolicySlots.kept c.next_slot-at.new.c c.args.c.now (c.next_slot-at.ensures.rest ∙ c.slots.invariant.rest))) c.requires.hidden

pub pass-fate-requires-clause-back : goal.pass-fate-requires-clause-back
pass-fate-requires-clause-back g c =
    let a = c.args.spd.now.area in
    takes_back (g.P.Pool.lasts c.args.pool.now) g.P.Pool.taken g.P.Pool.takes c.slots.pool a (g.C.Cells.words c.slots.c) (g.P.Pool.capacity c.slots.pool) (g.P.Pool.gives c.slots.pool) c.in-Some.slot c.requires.back
    (comes_here a (g.C.Cells.words c.args.c.now) (g.C.Cells.words c.slots.c) c.args.what.now c.in-Some.slot c.slots.left c.slots.changes c.slots.at c.in-Some.is c.requires.stood c.slots.invariant.sweeping)
    c.slots.invariant.pool c.slots.invariant.out

pub slots-preserved : goal.slots-preserved
slots-preserved g c =
    let a = c.args.spd.now.area in
    let next = c.next_slot-at in
    let one = c.pass-fate in
    let k = comes_here a (g.C.Cells.words c.args.c.now) (g.C.Cells.words c.slots.c) c.args.what.now c.in-Some.slot c.slots.left c.slots.changes c.slots.at c.in-Some.is c.requires.stood c.slots.invariant.sweeping in
    let w = next.ensures.words in
    let f = c.slots.invariant.few in
    let o = c.changes-changes.ensures.few in
    let t = c.slots-test.true in
    record {
      size = search rules;
      rest = search rules;
      capacity = search rules;
      lasts = search rules;
      held = search rules;
      below = next.ensures.below;
      few = omega (arith, f, o, t);
      others = others_twice (g.C.PolicySlots.hidden c.args.c.now) a.base (whole_end a) (g.C.Cells.words c.args.c.now) (g.C.Cells.words c.slots.c) (g.C.Cells.words one.new.c) c.slots.invariant.others
          (others_as (g.C.PolicySlots.hidden c.args.c.now) (g.C.PolicySlots.hidden next.new.c) a.base (whole_end a) (g.C.Cells.words c.slots.c) (g.C.Cells.words next.new.c) (g.C.Cells.words one.new.c)
          (g.met.C.PolicySlots.kept next.new.c c.args.c.now (next.ensures.rest ∙ c.slots.invariant.rest)) w one.ensures.others);
      started = subst (λ (n : ℕ). Started (c.slots.changes + n) (g.C.Cells.words c.args.c.now) (g.C.Cells.words one.new.c) (g.C.Load.begun c.args.c.now) (g.C.Load.begun one.new.c)) (sym c.changes-changes.ensures.is)
          (started_more one.result c.slots.changes (g.C.Cells.words c.args.c.now) (g.C.Cells.words c.slots.c) (g.C.Cells.words one.new.c) _ _ _ c.slots.invariant.started
          (moves_as one.result (g.C.Cells.words c.slots.c) (g.C.Cells.words next.new.c) (g.C.Cells.words one.new.c) _ _ _ w next.ensures.begun one.ensures.moves));
      sweeping = λ s es st.
          subst (λ (n : ℕ). Sweeping a (g.C.Cells.words one.new.c) c.args.what.now s es next.result (c.slots.left - 1) (c.slots.changes + n)) (sym c.changes-changes.ensures.is)
          (sweeping_goes a (g.C.Cells.words c.slots.c) (g.C.Cells.words one.new.c) c.args.what.now s c.in-Some.slot next.result c.slots.left c.slots.changes one.result es
          (subst (λ (x : Option ℕ). Sweeping a (g.C.Cells.words c.slots.c) c.args.what.now s es x c.slots.left c.slots.changes) c.in-Some.is (c.slots.invariant.sweeping s es st))
          (λ s2 front back p old. next.ensures.answer s2 front back p old)
          (λ s2 front back p old. one.ensures.passes s2 front back p
          (subst (λ (i : List ℕ). StandsWith a i s2 (front ++ ((c.in-Some.slot, p) ∷ back))) (sym w) old)));
      out = one.ensures.out k.shown k.front k.back k.policy
          (subst (λ (i : List ℕ). StandsWith a i k.shown (k.front ++ ((c.in-Some.slot, k.policy) ∷ k.back))) (sym w) k.stands)
          (c.slots.invariant.out ∙ ap (λ (i : List ℕ). length (listed_in a i)) (sym w));
      pool = λ lasts. one.ensures.pool k.shown k.front k.back k.policy (c.slots.invariant.lasts ∙ lasts)
          (subst (λ (i : List ℕ). StandsWith a i k.shown (k.front ++ ((c.in-Some.slot, k.policy) ∷ k.back))) (sym w) k.stands)
          (subst (λ (i : List ℕ). PoolFits (g.P.Pool.capacity c.slots.pool) (g.P.Pool.taken c.slots.pool) (g.P.Pool.gives c.slots.pool) (g.P.Pool.takes c.slots.pool) a.slots (listed_in a i)) (sym w) (c.slots.invariant.pool lasts));
    }

pub returns-in_default-clause-swept : goal.returns-in_default-clause-swept
returns-in_default-clause-swept g c = λ s es st.
    sweeping_stops c.args.spd.now.area (g.C.Cells.words c.slots.c) c.args.what.now s es c.slots.at c.slots.left c.slots.changes c.in_default.is (c.slots.invariant.sweeping s es st)

pub returns-clause-swept : goal.returns-clause-swept
returns-clause-swept g c = λ s es st.
    let f = c.slots-test.false in
    sweeping_ends c.args.spd.now.area (g.C.Cells.words c.slots.c) c.args.what.now s es c.slots.at c.slots.left c.slots.changes (omega (arith, f)) (c.slots.invariant.sweeping s es st)
