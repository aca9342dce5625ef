use Rattle.std.proofs.Common.{rules, arith, ◌∙◌, ◌<◌, length}
use Rattle.std.proofs.lemmas.List.{drop_more}
use Rattle.xf_records.proofs.TemplateLaws.{stored_templates, fit_templates}
use Rattle.xf_records.proofs.templates.put_templates.Goals as goal

pub templates-preserved : goal.templates-preserved
templates-preserved g c =
    let b : c.templates.template-index < length c.args.templates.now = c.templates-test.true in
    let d = drop_more c.args.templates.now c.templates.template-index _ b in
    record {
      place = omega arith;
      size = search rules;
      begun = search rules;
      rest = search rules;
      loads = search rules;
      words = rw (c.store_all.ensures.words, c.template_words.ensures.words) (stored_templates _ c.templates.place _ _ _ d) ∙ c.templates.invariant.words;
      fits = λ r. c.templates.invariant.fits (fit_templates _ _ _ d c.template_words.ensures.fits r);
    }
