use Rattle.std.proofs.Common.{◌+◌, ◌≤◌, vec_len, vec_capacity}
use Rattle.xf_live.specs.Ends.{receipts_of_all, lists_in}
use Rattle.xf_live.proofs.Gathering.{IsGathering}
use Rattle.xf_live.proofs.closing.take_all_in.Given as goal

abbrev pub invariant-others : goal.invariant-others
invariant-others g l = record {
  gathering : IsGathering g.T.Stands.standing l.table l.place (lists_in l.lists.items) l.passes.items (receipts_of_all l.fn.passes.items);
  room : vec_len l.lists + vec_len l.passes ≤ vec_capacity l.lists;
}

abbrev pub decreases-others : goal.decreases-others
decreases-others g l = vec_len l.passes
