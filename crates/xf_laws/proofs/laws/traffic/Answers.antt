use Rattle.std.proofs.Common.{refl}
use Rattle.xf_laws.proofs.TrafficLemmas.{traffic-reply, traffic-own, traffic-listed}
use Rattle.xf_laws.proofs.laws.traffic.Goals as goal

pub returns : goal.returns
returns c = record {
  output = λ s sid len. refl;
  packet = λ s k. refl;
  reply = traffic-reply;
  own = traffic-own;
  listed = traffic-listed;
}
