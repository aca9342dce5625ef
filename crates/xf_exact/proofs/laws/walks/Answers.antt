use Rattle.xf_exact.proofs.FindingLaws.{found_is, own_found_is}
use Rattle.xf_image.proofs.Placed.{before_found}
use Rattle.xf_exact.proofs.PlacingLaws.{place_is}
use Rattle.xf_exact.proofs.laws.walks.Goals as goal

pub returns : goal.returns
returns c = record { found = found_is; own = own_found_is; place = place_is; before = before_found }
