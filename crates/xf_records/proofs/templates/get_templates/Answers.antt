use Rattle.std.proofs.Common.{rules, ◌≡◌, None, sym, ◌∙◌, arith}
use Rattle.xf_records.specs.Policies as record_of
use Rattle.xf_records.proofs.TemplateLaws.{templates_more, templates_end}
use Rattle.xf_records.proofs.templates.get_templates.Goals as goal

pub returns-in_err-get_template-clause-answer : goal.returns-in_err-get_template-clause-answer
returns-in_err-get_template-clause-answer g c = λ image h.
    let n : None ≡ record_of.template_at image c.templates.place = search rules in
    let r : c.from_residual.result ≡ None = search rules in
    r ∙ sym (templates_end image _ _ c.args.count c.templates._read (omega arith) n)
    ∙ c.templates.invariant.answer image (c.get_template.ensures.among.among image h)

pub templates-preserved : goal.templates-preserved
templates-preserved g c = record {
  place = omega arith;
  length = search rules;
  size = search rules;
  begun = search rules;
  rest = search rules;
  among = search rules;
  loads = omega arith;
  answer = λ image h.
      rw c.push.ensures.items (templates_more image _ _ _ c.args.count c.templates._read (omega arith) (search rules))
      ∙ c.templates.invariant.answer image (c.get_template.ensures.among.among image h);
}
