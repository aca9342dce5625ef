use Rattle.xf_image.proofs.Keeping.{entries_apart, entries_within}
use Rattle.xf_image.proofs.Counting.{few}
use Rattle.xf_image.proofs.Listed.{listed_is, entries_same, room_left}
use Rattle.xf_image.proofs.Parts.{left_misses}
use Rattle.xf_image.proofs.Staying.{stays_added, stays_left, stays_warned}
use Rattle.xf_image.proofs.laws.slots.Goals as goal

pub returns : goal.returns
returns c = record {
  listed = listed_is;
  one = entries_same;
  differ = λ a image s entries stands. entries_apart a image s.hthresh4 s.hthresh6 entries stands.links;
  within = λ a image s entries stands. entries_within a image s.hthresh4 s.hthresh6 entries stands.links;
  few = few;
  room = room_left;
  left = left_misses;
  stays_added = stays_added;
  stays_left = stays_left;
  stays_warned = stays_warned;
}
