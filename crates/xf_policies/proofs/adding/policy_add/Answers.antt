use Rattle.std.proofs.Common.{refl, ◌∙◌}
use Rattle.xf_types.specs.declared.call.Call.TheVariants.{PolicyAdd}
use Rattle.xf_types.specs.PolicyRules.{policy_add}
use Rattle.xf_spd.specs.Changes.{AddsGiven}
use Rattle.xf_policies.proofs.Answered.{begun_by, refused_by, memory_by, done_by, refusal_leaves, answered_by}
use Rattle.xf_policies.proofs.adding.policy_add.Goals as goal

pub returns-clause-begun : goal.returns-clause-begun
returns-clause-begun g c = begun_by c.insert-answer.result c.index_reply.result _ _ c.index_reply.ensures c.insert-answer.ensures.begun

pub returns-clause-refused : goal.returns-clause-refused
returns-clause-refused g c = λ refuses. refused_by c.insert-answer.result c.index_reply.result _ c.index_reply.ensures c.insert-answer.ensures.refused refuses

pub returns-clause-answer : goal.returns-clause-answer
returns-clause-answer g c = λ s es at st fits.
    answered_by (λ index. AddsGiven c.args.spd.now.area (g.C.Cells.words c.insert-answer.new.c) s es (g.P.Pool.gives c.args.pool.now) index c.args.spec.now (policy_add s c.args.spec.now))
    c.insert-answer.result c.index_reply.result c.args.spd.now.area (g.C.Cells.words c.args.c.now) (g.C.Cells.words c.insert-answer.new.c) s es
    (g.P.Pool.held c.insert-answer.new.pool) (λ t. policy_add t c.args.spec.now) c.index_reply.ensures st c.insert-answer.ensures.refused
    (c.insert-answer.ensures.stands s es at st fits) (λ i x. record { entries = _; stands = x.adds.stands })
    (refusal_leaves s (PolicyAdd c.args.spec.now) (policy_add s c.args.spec.now) refl) (c.insert-answer.ensures.reply s es at st fits)

pub returns-clause-plain : goal.returns-clause-plain
returns-clause-plain g c = λ s es none at st fits. c.index_reply.ensures ∙ c.insert-answer.ensures.plain s es none at st fits

pub returns-clause-memory : goal.returns-clause-memory
returns-clause-memory g c = memory_by c.insert-answer.result c.index_reply.result c.index_reply.ensures

pub returns-clause-adds : goal.returns-clause-adds
returns-clause-adds g c = λ s es index done at st fits.
    done_by (λ i. AddsGiven c.args.spd.now.area (g.C.Cells.words c.insert-answer.new.c) s es (g.P.Pool.gives c.args.pool.now) i c.args.spec.now (policy_add s c.args.spec.now))
    c.insert-answer.result c.index_reply.result index c.index_reply.ensures done (c.insert-answer.ensures.stands s es at st fits)
