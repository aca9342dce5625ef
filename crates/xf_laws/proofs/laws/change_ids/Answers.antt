use Rattle.xf_laws.proofs.IdLemmas.{same-policy_id, same-bucket_id}
use Rattle.xf_laws.proofs.laws.change_ids.Goals as goal

pub returns : goal.returns
returns c = record { policies = same-policy_id; states = same-bucket_id }
