use Rattle.std.proofs.Common.{refl, sym, subst}
use Rattle.xf_types.specs.declared.call.Call.TheVariants.{PolicyAdd}
use Rattle.xf_types.specs.declared.call.Reply.{Reply}
use Rattle.xf_types.specs.PolicyRules.{policy_add}
use Rattle.xf_types.specs.Steps.{step}
use Rattle.xf_spd.specs.Changes.{AddsGiven}
use Rattle.xf_beside.specs.Standing.{Answers}
use Rattle.xf_beside.proofs.Kept.{StandsForSome, is_at, time_add, left_by, answered_by}
use Rattle.xf_beside.proofs.adding.add.Goals as goal

pub returns-clause-stood : goal.returns-clause-stood
returns-clause-stood g c =
    let a = c.args.spd.now.area in
    let m = c.requires.stood.machine in
    let st = c.requires.stood.for_it in
    let at = is_at a (g.C.Cells.words c.args.c.now) c.args.now m c.requires.young st in
    let k : StandsForSome a (g.C.Cells.words c.insert-answer.new.c) c.args.now =
    left_by (λ index. AddsGiven a (g.C.Cells.words c.insert-answer.new.c) m.shown st.entries (g.P.Pool.gives c.args.pool.now) index c.args.spec.now (policy_add m.shown c.args.spec.now))
    c.insert-answer.result a (g.C.Cells.words c.args.c.now) (g.C.Cells.words c.insert-answer.new.c) c.args.now m (PolicyAdd c.args.spec.now) (policy_add m.shown c.args.spec.now)
    st refl (time_add m.shown c.args.spec.now) c.insert-answer.ensures.refused (c.insert-answer.ensures.stands m.shown st.entries at st.stands c.requires.stood.pool)
    (λ i x. record { entries = _; stands = x.adds.stands }) in
    record { machine = k.machine; for_it = k.for_it; pool = c.insert-answer.ensures.pool m.shown st.entries c.requires.lasts at st.stands c.requires.stood.pool }

pub returns-clause-answer : goal.returns-clause-answer
returns-clause-answer g c = λ m held st.
    let a = c.args.spd.now.area in
    let at = is_at a (g.C.Cells.words c.args.c.now) c.args.now m c.requires.young st in
    subst (λ (r : Reply). Answers a (g.C.Cells.words c.insert-answer.new.c) c.args.now r (step m (PolicyAdd c.args.spec.now))) (sym c.index_reply.ensures)
    (answered_by (λ index. AddsGiven a (g.C.Cells.words c.insert-answer.new.c) m.shown st.entries (g.P.Pool.gives c.args.pool.now) index c.args.spec.now (policy_add m.shown c.args.spec.now))
    c.insert-answer.result a (g.C.Cells.words c.args.c.now) (g.C.Cells.words c.insert-answer.new.c) c.args.now m (PolicyAdd c.args.spec.now) (policy_add m.shown c.args.spec.now)
    st refl (time_add m.shown c.args.spec.now) c.insert-answer.ensures.refused (c.insert-answer.ensures.stands m.shown st.entries at st.stands c.requires.stood.pool)
    (λ i x. record { entries = _; stands = x.adds.stands })
    (c.insert-answer.ensures.plain m.shown st.entries held at st.stands c.requires.stood.pool))
