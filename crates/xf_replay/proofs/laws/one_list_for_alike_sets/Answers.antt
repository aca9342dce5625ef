use Rattle.xf_replay.proofs.AlikeLemmas.{normal_form-alike, AreAlike-normal_form, normal_form-accepted_to, normal_form-accepted_with}
use Rattle.xf_replay.proofs.laws.one_list_for_alike_sets.Goals as goal

pub returns : goal.returns
returns c = record {
  one_list = normal_form-alike;
  alike = AreAlike-normal_form;
  normal_start = normal_form-accepted_to;
  normal_step = normal_form-accepted_with;
}
