use Rattle.xf_inexact.proofs.Listed.{exact_put, exact_taken, part_changed, under_node}
use Rattle.xf_inexact.proofs.laws.changes.Goals as goal

pub returns : goal.returns
returns c = record {
  exact_put = λ i a b f k s p e h. exact_put c.args.inexact.now i a b f k s p e h;
  exact_taken = λ i a b f k s p e h. exact_taken c.args.inexact.now i a b f k s p e h;
  changed = λ i a b f k s p q e h. part_changed c.args.inexact.now i a b f k s p q e h;
  under = λ i d t s m n p e. under_node c.args.inexact.now i d t s m n p e;
}
