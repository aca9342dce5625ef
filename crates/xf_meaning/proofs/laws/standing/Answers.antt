use Rattle.xf_meaning.proofs.GoodWords.{good_stands, stands_good, good_marks}
use Rattle.xf_meaning.proofs.Values.{stands_beside}
use Rattle.xf_meaning.proofs.laws.standing.Goals as goal

pub returns : goal.returns
returns c = record { stand = λ p s image t m b g is same beside. good_stands p s image t g m is same b beside; good = stands_good; beside = stands_beside; marks = good_marks }
