use Rattle.xf_laws.proofs.FirstPolicyLemmas.{first_policy-some, first_policy-none, first_policy-one}
use Rattle.xf_laws.proofs.laws.first_policies.Goals as goal

pub returns : goal.returns
returns c = record { some = first_policy-some; none = first_policy-none; one = first_policy-one }
