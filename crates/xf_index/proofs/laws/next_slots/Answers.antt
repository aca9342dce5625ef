use Rattle.xf_index.proofs.Neighbours.{first_picked, next_picked, last_picked_back, before_picked}
use Rattle.xf_index.proofs.laws.next_slots.Goals as goal

pub returns : goal.returns
returns g c = record {
  first = first_picked;
  next = next_picked;
  last = last_picked_back;
  before = before_picked;
}
