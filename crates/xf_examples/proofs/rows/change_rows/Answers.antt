use Rattle.std.proofs.Common.{refl, lit<}
use Rattle.xf_examples.proofs.rows.change_rows.Goals as goal

pub returns : goal.returns
returns c = record {
  legal = record {
    in_order = (lit< tt, (lit< tt, (lit< tt, (lit< tt, (lit< tt, (lit< tt, (lit< tt, tt)))))));
    replies = (refl, (refl, (refl, (refl, (refl, (refl, (refl, (refl, tt))))))));
  };
  policies = refl;
  bucket_0 = refl;
  bucket_7 = refl;
  bucket_8 = refl;
}
