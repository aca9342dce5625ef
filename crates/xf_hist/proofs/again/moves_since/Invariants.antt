use Rattle.std.proofs.Common.{◌≡◌, ◌≤◌, take, reverse}
use Rattle.xf_types.specs.History.{moves_since}
use Rattle.xf_hist.proofs.again.moves_since.Given as goal

-- the moves of the receipts so far
abbrev pub invariant-loop-receipt : goal.invariant-loop-receipt
invariant-loop-receipt l = record {
  moves : l.moves ≡ moves_since l.worker (reverse (take l.receipt-index l.past));
  few : l.moves ≤ l.receipt-index;
}
