use Rattle.xf_cells.specs.Words.{zeros}
use Rattle.xf_inexact.proofs.Rooms.{free_told, six_free}
use Rattle.xf_inexact.proofs.Empties.{part_empty, zeros_empty}
use Rattle.xf_inexact.proofs.Staying.{part_stays}
use Rattle.xf_inexact.proofs.laws.holds.Goals as goal

pub returns : goal.returns
returns c = record {
  empty = λ n a b. part_empty c.args.inexact.now (zeros n) a b (zeros_empty c.args.inexact.now n);
  stays = λ i j n a b es f e h. part_stays c.args.inexact.now i j n a b es f e h;
  room = λ i a b es h l. six_free c.args.inexact.now i a b es h l;
  spare = λ i a b es h. free_told c.args.inexact.now i a b es h;
}
