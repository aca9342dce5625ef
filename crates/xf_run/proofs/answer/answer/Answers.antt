use Rattle.std.proofs.Common.{◌∙◌}
use Rattle.xf_run.proofs.Hearing.{heard-text}
use Rattle.xf_run.proofs.answer.answer.Goals as goal

pub returns-in_err-write_lines-clause-write : goal.returns-in_err-write_lines-clause-write
returns-in_err-write_lines-clause-write g c = λ e.
    let made = c.in_ok-refused.ensures.ok in
    let text = c.deref.ensures.value ∙ heard-text _ _ made.turns c.clear.ensures.items made.made.heard in
    record {
      turns = made.turns;
      run = made.run;
      lead = made.made.lead;
      part = rw (text) at c.in_err-write_lines.ensures.part;
    }

pub returns-clause-ok : goal.returns-clause-ok
returns-clause-ok g c =
    let made = c.in_ok-refused.ensures.ok in
    let text = c.deref.ensures.value ∙ heard-text _ _ made.turns c.clear.ensures.items made.made.heard in
    record {
      turns = made.turns;
      run = made.run;
      lead = made.made.lead;
      refusal = made.made.refusal;
      text = rw (text) at c.in_ok-write_lines.ensures.text;
    }
