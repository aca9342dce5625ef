use Rattle.std.proofs.Common.{◌≡◌, ℕ, List, ◌∷◌, ◌++◌, Option, length, refl, sym, ◌∙◌, subst, rules, arith}
use Rattle.xf_types.specs.Steps.{step}
use Rattle.xf_inexact.specs.Whole.{SpdStands}
use Rattle.xf_image.specs.Readings.{listed_in}
use Rattle.xf_spd.specs.Slots.{PoolFits}
use Rattle.xf_beside.specs.Leaving.{leaves, call_of}
use Rattle.xf_beside.specs.Passing.{StandsWith, Removing}
use Rattle.xf_spd.proofs.Fitting.{entry_back}
use Rattle.xf_beside.proofs.Passed.{comes, removing_begins, removing_goes, removing_ends, removing_stops}
use Rattle.xf_beside.proofs.Ruled.{answered_removed}
use Rattle.xf_beside.proofs.looping.remove_all.Goals as goal

pub slots-init : goal.slots-init
slots-init g c =
    let a = c.args.spd.now.area in
    let first = c.first_slot-at in
    let all = c.count-left in
    let w : g.C.Cells.words all.new.c ≡ g.C.Cells.words c.args.c.now = all.ensures.words ∙ first.ensures.words in
    let k = c.requires.stood.1 in
    let st : SpdStands a (g.C.Cells.words first.new.c) k.machine.shown k.for_it.entries =
    subst (λ (i : List ℕ). SpdStands a i k.machine.shown k.for_it.entries) (sym first.ensures.words) k.for_it.stands in
    let n : all.result ≡ length k.machine.shown.policies = all.ensures.answer k.machine.shown k.for_it.entries k.for_it.is.shown.room st in
    let r = k.for_it.is.shown.room.policies in
    let q = k.for_it.is.shown.room.max_policies in
    record {
      size = all.ensures.size ∙ first.ensures.size;
      lasts = refl;
      below = first.ensures.below;
      few = omega (arith, n, r, q);
      removing = λ s es room old.
          subst (λ (i : List ℕ). Removing a i (leaves c.args.leaving.now) s first.result all.result 0) (sym w)
          (removing_begins a (g.C.Cells.words c.args.c.now) (leaves c.args.leaving.now) s es first.result all.result old (first.ensures.answer s es old)
          (all.ensures.answer s es room (subst (λ (i : List ℕ). SpdStands a i s es) (sym first.ensures.words) old)));
      pool = subst (λ (i : List ℕ). PoolFits (g.P.Pool.capacity c.args.pool.now) (g.P.Pool.taken c.args.pool.now) (g.P.Pool.gives c.args.pool.now) (g.P.Pool.takes c.args.pool.now) a.slots (listed_in a i)) (sym w) k.pool;
    }

pub remove_if-removed-requires-clause-back : goal.remove_if-removed-requires-clause-back
remove_if-removed-requires-clause-back g c =
    let a = c.args.spd.now.area in
    let k = comes a (g.C.Cells.words c.slots.c) (leaves c.args.leaving.now) c.requires.stood.1.machine.shown c.in-Some.slot c.slots.left c.slots.removed
    (subst (λ (o : Option ℕ). Removing a (g.C.Cells.words c.slots.c) (leaves c.args.leaving.now) c.requires.stood.1.machine.shown o c.slots.left c.slots.removed) c.in-Some.is
    (c.slots.invariant.removing c.requires.stood.1.machine.shown c.requires.stood.1.for_it.entries c.requires.stood.1.for_it.is.shown.room c.requires.stood.1.for_it.stands)) in
    entry_back a (g.C.Cells.words c.slots.c) k.shown k.entries _ _ _ _ c.in-Some.slot k.policy k.stands c.slots.invariant.pool k.is

pub slots-preserved : goal.slots-preserved
slots-preserved g c =
    let a = c.args.spd.now.area in
    let next = c.next_slot-at in
    let one = c.remove_if-removed in
    let test = leaves c.args.leaving.now in
    let f = c.slots.invariant.few in
    let o = one.ensures.few in
    let t = c.slots-test.true in
    let k = comes a (g.C.Cells.words c.slots.c) (leaves c.args.leaving.now) c.requires.stood.1.machine.shown c.in-Some.slot c.slots.left c.slots.removed
    (subst (λ (o : Option ℕ). Removing a (g.C.Cells.words c.slots.c) (leaves c.args.leaving.now) c.requires.stood.1.machine.shown o c.slots.left c.slots.removed) c.in-Some.is
    (c.slots.invariant.removing c.requires.stood.1.machine.shown c.requires.stood.1.for_it.entries c.requires.stood.1.for_it.is.shown.room c.requires.stood.1.for_it.stands)) in
    record {
      size = search rules;
      lasts = search rules;
      below = next.ensures.below;
      few = omega (arith, f, o, t);
      removing = λ s es room st.
          removing_goes a (g.C.Cells.words c.slots.c) (g.C.Cells.words one.new.c) test s c.in-Some.slot next.result c.slots.left c.slots.removed one.result
          (subst (λ (x : Option ℕ). Removing a (g.C.Cells.words c.slots.c) test s x c.slots.left c.slots.removed) c.in-Some.is (c.slots.invariant.removing s es room st))
          (λ s2 front back p old. next.ensures.answer s2 front back p old)
          (λ s2 front back p old. one.ensures.passes s2 front back p
          (subst (λ (i : List ℕ). StandsWith a i s2 (front ++ ((c.in-Some.slot, p) ∷ back))) (sym next.ensures.words) old));
      pool = one.ensures.pool k.shown k.entries k.policy (c.slots.invariant.lasts ∙ c.requires.lasts) k.is
          (subst (λ (i : List ℕ). SpdStands a i k.shown k.entries) (sym next.ensures.words) k.stands)
          (subst (λ (i : List ℕ). PoolFits (g.P.Pool.capacity c.slots.pool) (g.P.Pool.taken c.slots.pool) (g.P.Pool.gives c.slots.pool) (g.P.Pool.takes c.slots.pool) a.slots (listed_in a i)) (sym next.ensures.words) c.slots.invariant.pool);
    }

pub returns-in_default-clause-answer : goal.returns-in_default-clause-answer
returns-in_default-clause-answer g c = λ now m st.
    answered_removed c.args.spd.now.area (g.C.Cells.words c.args.c.now) (g.C.Cells.words c.slots.c) now m c.args.leaving.now c.slots.removed st
    (removing_stops c.args.spd.now.area (g.C.Cells.words c.slots.c) (leaves c.args.leaving.now) m.shown c.slots.at c.slots.left c.slots.removed c.in_default.is
    (c.slots.invariant.removing m.shown st.entries st.is.shown.room st.stands))

pub returns-in_default-clause-stood : goal.returns-in_default-clause-stood
returns-in_default-clause-stood g c = λ now s. record {
  machine = (step s.machine (call_of c.args.leaving.now)).machine;
  for_it = (returns-in_default-clause-answer g c now s.machine s.for_it).stands;
  pool = c.slots.invariant.pool;
}

pub returns-clause-answer : goal.returns-clause-answer
returns-clause-answer g c = λ now m st.
    let f = c.slots-test.false in
    answered_removed c.args.spd.now.area (g.C.Cells.words c.args.c.now) (g.C.Cells.words c.slots.c) now m c.args.leaving.now c.slots.removed st
    (removing_ends c.args.spd.now.area (g.C.Cells.words c.slots.c) (leaves c.args.leaving.now) m.shown c.slots.at c.slots.left c.slots.removed (omega (arith, f))
    (c.slots.invariant.removing m.shown st.entries st.is.shown.room st.stands))

pub returns-clause-stood : goal.returns-clause-stood
returns-clause-stood g c = λ now s. record {
  machine = (step s.machine (call_of c.args.leaving.now)).machine;
  for_it = (returns-clause-answer g c now s.machine s.for_it).stands;
  pool = c.slots.invariant.pool;
}
