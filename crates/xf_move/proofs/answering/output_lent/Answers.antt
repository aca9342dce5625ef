use Rattle.std.proofs.Common.{ℕ, ◌+◌, Bool, false, refl, sym, ap, ◌∙◌, subst}
use Rattle.xf_types.specs.declared.call.Call.TheVariants as call
use Rattle.xf_rows.specs.Values.{Beside}
use Rattle.xf_values.specs.declared.state_value.StateValue.{StateValue}
use Rattle.xf_live.specs.Passes.{LiveView, PassView}
use Rattle.xf_live.specs.Values.{holds}
use Rattle.xf_desk.specs.Lending.{IsLent}
use Rattle.xf_desk.specs.Values.{beside_of}
use Rattle.xf_move.proofs.Lent.{stands_by, answers_by, stood_by, fits_by, goes_on, words_by, values_by}
use Rattle.xf_move.proofs.answering.output_lent.Goals as goal

pub output_held-reply-requires-clause-stands : goal.output_held-reply-requires-clause-stands
output_held-reply-requires-clause-stands g c =
    stood_by c.layout_of-layout.result c.args.policies c.args.states c.args.live.now.start c.args.pass c.full_pool-pool.new.words.pass.view.image.words
    (beside_of g.B.From.live.start c.full_pool-pool.new.words.pass.values) c.layout_of-layout.ensures.places (words_by c.full_pool-pool.new.words.pass.view.image.words c.lend-desk.result.pass c.args.pass (c.full_pool-pool.ensures.among.among c.full_pool-pool.new.words.pass.view.image.words refl) c.lend-desk.ensures.pass) (values_by g.B.From.live c.args.live.now c.full_pool-pool.new.words.pass c.lend-desk.result.pass c.args.pass c.full_pool-pool.ensures.rest c.lend-desk.ensures.pass c.requires.said.0) c.requires.knows

pub output_held-reply-requires-clause-pool : goal.output_held-reply-requires-clause-pool
output_held-reply-requires-clause-pool g c =
    fits_by c.layout_of-layout.result c.args.policies c.args.states c.args.live.now.start c.args.pass c.full_pool-pool.new.words.pass.view.image.words c.full_pool-pool.result
    c.layout_of-layout.ensures.places (words_by c.full_pool-pool.new.words.pass.view.image.words c.lend-desk.result.pass c.args.pass (c.full_pool-pool.ensures.among.among c.full_pool-pool.new.words.pass.view.image.words refl) c.lend-desk.ensures.pass) c.requires.knows (c.full_pool-pool.ensures.pool c.full_pool-pool.new.words.pass.view.image.words refl)

pub output_held-reply-requires-clause-held : goal.output_held-reply-requires-clause-held
output_held-reply-requires-clause-held g c =
    ap (λ (b : Beside). b.held c.args.slot) (values_by g.B.From.live c.args.live.now c.full_pool-pool.new.words.pass c.lend-desk.result.pass c.args.pass c.full_pool-pool.ensures.rest c.lend-desk.ensures.pass c.requires.said.0)
    ∙ ap (λ (n : ℕ). holds c.args.pass.values (n + c.args.slot)) c.requires.base.policies_are ∙ c.requires.held

pub returns-clause-lent : goal.returns-clause-lent
returns-clause-lent g c = λ still.
    let on = goes_on c.output_held-reply.result still in
    let shut = (c.output_held-reply.ensures.idle on.0 on.1).begun ∙ c.full_pool-pool.ensures.begun ∙ c.lend-desk.ensures.shut in
    subst (λ (l : LiveView). IsLent l.start.policies c.args.pass c.end.result false) c.requires.said.0
    (subst (λ (p : PassView StateValue). IsLent g.B.From.live.start.policies p c.end.result false) c.requires.said.1
    (subst (λ (w : Bool). IsLent g.B.From.live.start.policies g.B.From.pass c.end.result w) shut c.end.ensures.lent))

pub returns-clause-answers : goal.returns-clause-answers
returns-clause-answers g c = λ m st.
    answers_by c.layout_of-layout.result c.args.policies c.args.states c.output_held-reply.new.parts.pass.view.image.words c.end.result.view.image.words
    (beside_of g.B.From.live.start c.output_held-reply.new.parts.pass.values) (beside_of c.args.live.now.start c.end.result.values) m (call.Output c.args.sid c.args.len) c.output_held-reply.result
    c.layout_of-layout.ensures.places (ap (λ (p : PassView StateValue). p.view.image.words) c.end.ensures.pass)
    (ap (λ (l : LiveView). beside_of l.start c.end.result.values) (sym c.requires.said.0) ∙ ap (λ (p : PassView StateValue). beside_of g.B.From.live.start p.values) c.end.ensures.pass)
    (c.output_held-reply.ensures.answer m
    (stands_by c.layout_of-layout.result c.args.policies c.args.states c.args.pass.view.image.words c.full_pool-pool.new.words.pass.view.image.words
    (beside_of c.args.live.now.start c.args.pass.values) (beside_of g.B.From.live.start c.full_pool-pool.new.words.pass.values) m c.layout_of-layout.ensures.places (words_by c.full_pool-pool.new.words.pass.view.image.words c.lend-desk.result.pass c.args.pass (c.full_pool-pool.ensures.among.among c.full_pool-pool.new.words.pass.view.image.words refl) c.lend-desk.ensures.pass) (values_by g.B.From.live c.args.live.now c.full_pool-pool.new.words.pass c.lend-desk.result.pass c.args.pass c.full_pool-pool.ensures.rest c.lend-desk.ensures.pass c.requires.said.0) st))
