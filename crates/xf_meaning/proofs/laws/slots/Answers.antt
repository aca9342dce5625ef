use Rattle.xf_meaning.proofs.Listing.{listing, pools, shows}
use Rattle.xf_meaning.proofs.GoodWords.{certain}
use Rattle.xf_meaning.proofs.Beginnings.{policy_slot}
use Rattle.xf_meaning.proofs.laws.slots.Goals as goal

pub returns : goal.returns
returns c = record { listing = listing; pools = pools; shows = shows; certain = certain; of_policies = policy_slot }
