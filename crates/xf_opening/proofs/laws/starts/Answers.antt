use Rattle.xf_opening.proofs.Images.{image_is, rest_opens, rest_begins}
use Rattle.xf_opening.proofs.laws.starts.Goals as goal

pub returns : goal.returns
returns c = record { tells = λ p s words homes i rest. image_is p s words homes i rest.stands; opens = rest_opens; begins = rest_begins }
