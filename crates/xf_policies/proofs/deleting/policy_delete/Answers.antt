use Rattle.std.proofs.Common.{refl, ◌∙◌}
use Rattle.xf_types.specs.declared.call.Call.TheVariants.{PolicyDelete}
use Rattle.xf_types.specs.PolicyList.{has_key}
use Rattle.xf_types.specs.PolicyRules.{policy_delete}
use Rattle.xf_image.specs.Entries.{entries_without}
use Rattle.xf_policies.proofs.Answered.{begun_by, refused_by, allowed_by, memory_by, refusal_leaves, answered_key}
use Rattle.xf_policies.proofs.deleting.policy_delete.Goals as goal

pub returns-clause-begun : goal.returns-clause-begun
returns-clause-begun g c = begun_by c.delete-answer.result c.index_reply.result _ _ c.index_reply.ensures c.delete-answer.ensures.begun

pub returns-clause-refused : goal.returns-clause-refused
returns-clause-refused g c = λ refuses. refused_by c.delete-answer.result c.index_reply.result _ c.index_reply.ensures c.delete-answer.ensures.refused refuses

pub returns-clause-returned : goal.returns-clause-returned
returns-clause-returned g c = λ allowed. c.delete-answer.ensures.returned (allowed_by c.delete-answer.result c.index_reply.result c.index_reply.ensures allowed)

pub returns-clause-answer : goal.returns-clause-answer
returns-clause-answer g c = λ s es sound st.
    answered_key c.delete-answer.result c.index_reply.result c.args.spd.now.area (g.C.Cells.words c.args.c.now) (g.C.Cells.words c.delete-answer.new.c) s es
    (entries_without (has_key c.args.key.now) es) (g.P.Pool.held c.delete-answer.new.pool) (λ t. policy_delete t c.args.key.now) c.index_reply.ensures st
    c.delete-answer.ensures.refused (λ ok. c.delete-answer.ensures.stands s es ok sound st)
    (refusal_leaves s (PolicyDelete c.args.key.now) (policy_delete s c.args.key.now) refl) c.delete-answer.ensures.fault (c.delete-answer.ensures.reply s es st)

pub returns-clause-plain : goal.returns-clause-plain
returns-clause-plain g c = λ s es st. c.index_reply.ensures ∙ c.delete-answer.ensures.reply s es st

pub returns-clause-memory : goal.returns-clause-memory
returns-clause-memory g c = memory_by c.delete-answer.result c.index_reply.result c.index_reply.ensures

pub returns-clause-removes : goal.returns-clause-removes
returns-clause-removes g c = λ s es allowed sound st.
    c.delete-answer.ensures.stands s es (allowed_by c.delete-answer.result c.index_reply.result c.index_reply.ensures allowed) sound st
