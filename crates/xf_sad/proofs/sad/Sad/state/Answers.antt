use Rattle.std.proofs.Common.{◌≡◌, ap, ◌∙◌, rules}
use Rattle.xf_records.specs.States.{state_at}
use Rattle.xf_sadidx.specs.Layout.{record_place}
use Rattle.xf_sad.proofs.Found.{state_is}
use Rattle.xf_sad.proofs.sad.Sad.state.Goals as goal

pub returns-clause-state : goal.returns-clause-state
returns-clause-state g c = λ image s front back r agrees st.
    let place : c.record_place.result ≡ record_place c.args.self.now.area c.args.slot = search rules in
    c.get_state.ensures.answer image agrees ∙ ap (λ p. state_at image p) place
    ∙ state_is c.args.self.now.area image s c.args.slot front back r st
