use Rattle.std.proofs.Common.{refl, ap, sym, ◌∙◌}
use Rattle.xf_types.specs.declared.state.SaSpec.{SaSpec}
use Rattle.xf_paths.specs.Shown.{shown}
use Rattle.xf_plain.proofs.Asking.{wants-answer}
use Rattle.xf_plain.proofs.plain.Plain.ask_under.Goals as goal

pub returns-in-Wants : goal.returns-in-Wants
returns-in-Wants c = record {
  policy = c.args.policy.now;
  template = c.in-Wants.template;
  src = c.in-Wants.src;
  dst = c.in-Wants.dst;
  index = refl;
  asked = λ seq. ap (λ (s : SaSpec). record s { seq = seq }) c.spec_for.ensures;
  answer =
      λ wants. wants-answer c.args.self.now.shown c.args.flow.now c.args.policy.now c.in-Wants.template c.in-Wants.place
      c.in-Wants.src c.in-Wants.dst wants c.requires c.in-Allow.is (sym (ap shown c.in-Wants.is) ∙ c.resolve.ensures);
}
