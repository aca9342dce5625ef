use Rattle.xf_image.proofs.Layouts.{order_lays, back_lays, exact_lays, indices_lays, priorities_span, numbers_span}
use Rattle.xf_image.proofs.laws.layout.Goals as goal

pub returns : goal.returns
returns c = record {
  order = order_lays;
  back = back_lays;
  exact = exact_lays;
  indices = indices_lays;
  priorities = priorities_span;
  numbers = numbers_span;
}
