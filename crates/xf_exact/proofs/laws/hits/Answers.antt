use Rattle.xf_exact.proofs.HitLaws.{first_hit, hit_policy, no_hit}
use Rattle.xf_exact.proofs.BestLaws.{better_is}
use Rattle.xf_exact.proofs.laws.hits.Goals as goal

pub returns : goal.returns
returns c = record { hit = first_hit; policy = λ a image test es s. hit_policy a image test es s.records; none = no_hit; better_is = better_is }
