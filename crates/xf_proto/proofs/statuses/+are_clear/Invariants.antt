use Rattle.xf_proto.proofs.statuses.+are_clear.Given as goal

-- each call has one seat fewer
abbrev pub decreases-are_clear : goal.decreases-are_clear
decreases-are_clear l = l.seats
