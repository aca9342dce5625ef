use Rattle.std.proofs.Common.{◌≡◌, true}
use Rattle.xf_chain.specs.Chains.{Below}
use Rattle.xf_doubling.specs.Splits.{split_from, split_of, goes_at}
use Rattle.xf_doubling.proofs.chains.split.Given as goal

abbrev pub invariant-slots : goal.invariant-slots
invariant-slots g l = record {
  size : g.C.Load.size l.c ≡ g.C.Load.size l.fn.c;
  begun : g.C.Load.begun l.c ≡ true;
  rest : g.C.Load.rest l.c ≡ g.C.Load.rest l.fn.c;
  at : Below l.low.slots l.turn.at;
  last : Below l.low.slots l.turn.last;
  other : Below l.low.slots l.turn.other;
  words : split_from l.low l.high (goes_at l.d.half l.d.moved (g.K.Keys.key l.keys)) l.turn.left l.turn.at l.turn.last l.turn.other (g.C.Cells.words l.c)
      ≡ split_of l.family l.d.half l.d.moved (g.K.Keys.key l.keys) (g.C.Cells.words l.fn.c);
}

abbrev pub decreases-slots : goal.decreases-slots
decreases-slots g l = l.turn.left
