use Rattle.xf_laws.proofs.ReadLemmas.{call-alike, own-alike, uses-alike}
use Rattle.xf_laws.proofs.laws.reads.Goals as goal

pub returns : goal.returns
returns c = record {
  reply = λ s a b k same. (call-alike s a b k same).reply;
  shown = λ s a b k same. (call-alike s a b k same).shown;
  own = own-alike;
  uses = uses-alike;
}
