use Rattle.std.proofs.Common.{refl, arith}
use Rattle.std.specs.Simd.Lanes.{chunk}
use Rattle.std.proofs.lemmas.Simd.{zip2_splat, length-chunk}
use Rattle.xf_bytes.specs.Runs.{is_feedless}
use Rattle.xf_bytes.proofs.Lanes.{run_of_mask}
use Rattle.xf_bytes.proofs.kinds.FeedlessKind.run.Goals as goal

pub returns : goal.returns
returns c =
    let v = chunk c.args.at 16 c.args.bytes.now in
    let long = length-chunk c.args.at 16 c.args.bytes.now c.requires in
    run_of_mask is_feedless c.args.bytes.now c.args.at 16 _ _ c.requires (omega arith) c.type_inv.bytes c.first_set.ensures _
    (zip2_splat _ v 16 _ long) refl
