use Rattle.std.proofs.Common.{◌≡◌, take, reverse}
use Rattle.xf_types.specs.History.{IsLegalFrom, moment_of, beginning}
use Rattle.xf_hist.specs.Moments.{at, IsEarly}
use Rattle.xf_hist.proofs.legal.is_legal_from.Given as goal

-- the receipts so far are legal, and the moment is that after them
abbrev pub invariant-loop-place : goal.invariant-loop-place
invariant-loop-place l = record {
  legal : IsLegalFrom (beginning l.fn.start) (take l.place l.list);
  moment : at l.moment (reverse (take l.place l.list)) ≡ moment_of (beginning l.fn.start) (take l.place l.list);
  early : IsEarly l.moment l.place;
}
