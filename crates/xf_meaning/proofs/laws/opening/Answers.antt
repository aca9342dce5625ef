use Rattle.xf_meaning.proofs.Beginnings.{zeros_good, machine_is}
use Rattle.xf_meaning.proofs.laws.opening.Goals as goal

pub returns : goal.returns
returns c = record { empty = zeros_good; machine = λ p s image t m homes g is same home. machine_is p s image t m homes g is same home.count home.each }
