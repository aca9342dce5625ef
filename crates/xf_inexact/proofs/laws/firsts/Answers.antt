use Rattle.xf_inexact.proofs.Bests.{both_first, first_is}
use Rattle.xf_inexact.proofs.Levels.{stands_visited}
use Rattle.xf_inexact.proofs.NodeLaws.{node_is}
use Rattle.xf_inexact.proofs.laws.firsts.Goals as goal

pub returns : goal.returns
returns c = record {
  node = λ i p h. node_is c.args.inexact.now i p h;
  there = λ i t f p n h e q. stands_visited c.args.inexact.now i t f p n h e q;
  both = λ i a b t f es l n h s o. both_first c.args.inexact.now i a b t f es l n h s o;
  first = λ i a b t f es h s o. first_is c.args.inexact.now i a b t f es h s o;
}
