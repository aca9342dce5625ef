use Rattle.xf_inexact.specs.Walks.{flow_bin, visited}
use Rattle.xf_inexact.proofs.AroundBounds.{first_around}
use Rattle.xf_inexact.proofs.Levels.{flow_bin_below}
use Rattle.xf_inexact.proofs.Loads.{first_loads}
use Rattle.xf_inexact.proofs.Once.{at_once, visited_once}
use Rattle.xf_inexact.proofs.laws.bounds.Goals as goal

pub returns : goal.returns
returns c = record {
  loads = λ i a b t f es h. first_loads c.args.inexact.now i a b t f es h;
  around = λ i a b t f es h s l. first_around c.args.inexact.now i a b t f es h s l;
  once = λ i t f key es h. at_once key es (visited c.args.inexact.now i t f)
      (λ n. visited_once c.args.inexact.now i f (flow_bin c.args.inexact.now i t f) n h (flow_bin_below c.args.inexact.now i t f));
}
