use Rattle.xf_sadidx.proofs.FoundLaws.{latest_record}
use Rattle.xf_sadidx.proofs.BestLaws.{best_record}
use Rattle.xf_sadidx.proofs.laws.lists.Goals as goal

pub returns : goal.returns
returns c = record { latest = latest_record; best = best_record }
