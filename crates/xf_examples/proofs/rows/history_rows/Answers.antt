use Rattle.std.proofs.Common.{refl, lit≤, lit<}
use Rattle.xf_examples.proofs.rows.history_rows.Goals as goal

pub returns : goal.returns
returns c = record {
  held_back_is_legal = record {
    in_order = (lit< tt, (lit< tt, (lit< tt, (lit< tt, (lit< tt, (lit< tt, (lit< tt, tt)))))));
    replies = (
      refl,
      (refl, (refl, (refl, ((record { live_is = refl; sum_is = refl; few = lit≤ tt }, refl), (refl, ((record { live_is = refl; sum_is = refl; few = lit≤ tt }, refl), (refl, tt))))))),
    );
  };
  overtaken_is_legal = record {
    in_order = (lit< tt, (lit< tt, (lit< tt, tt)));
    replies = (refl, (refl, ((refl, lit≤ tt, lit≤ tt), (refl, tt))));
  };
  since = refl;
  folded = refl;
  two_orders = refl;
}
