use Rattle.std.proofs.Common.{◌-◌, ◌+◌, ◌≡◌, ◌≤◌, [], vec_len, vec_capacity}
use Rattle.xf_views.specs.Starts.{first_view}
use Rattle.xf_table.specs.Tables.{IsAt, first_of}
use Rattle.xf_live.specs.Ends.{AreRooms, live_of}
use Rattle.xf_live.proofs.Seating.{AreOthers}
use Rattle.xf_live.proofs.making.seat_all.Given as goal

abbrev pub invariant-others : goal.invariant-others
invariant-others g l = record {
  at : IsAt g.T.Stands.standing l.table l.place;
  me : l.place.me ≡ (first_view (first_of g.T.Stands.standing l.table) 0 l.number, []);
  rooms : AreRooms l.table.slots l.held.items;
  others : AreOthers (live_of g.T.Stands.standing l.table) l.passes.items;
  held_size : vec_len l.held + l.number ≡ l.seats + 1;
  size : (vec_len l.passes + 1 ≡ l.number) × (l.number ≤ l.seats) × (l.seats ≤ vec_capacity l.passes);
}

abbrev pub decreases-others : goal.decreases-others
decreases-others g l = l.seats - l.number
