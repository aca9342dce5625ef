use Rattle.std.proofs.Common.{ℕ, bit_or, cond, eqb, ltb, refl, arith}
use Rattle.std.specs.Simd.Lanes.{chunk}
use Rattle.std.proofs.lemmas.Simd.{zip2_of_maps, zip2_splat, splat_is_map, length-chunk}
use Rattle.xf_bytes.specs.Runs.{is_plain}
use Rattle.xf_bytes.proofs.Lanes.{run_of_mask}
use Rattle.xf_bytes.proofs.kinds.PlainKind.run.Goals as goal

pub returns : goal.returns
returns c =
    let v = chunk c.args.at 16 c.args.bytes.now in
    let long = length-chunk c.args.at 16 c.args.bytes.now c.requires in
    run_of_mask is_plain c.args.bytes.now c.args.at 16 _ _ c.requires (omega arith) c.type_inv.bytes c.first_set.ensures _
    (zip2_of_maps bit_or _ _ v
    (zip2_of_maps (λ (a b : ℕ). cond (ltb a b) 255 0) _ _ v (splat_is_map v 16 _ long) (zip2_splat {Y = ℕ} _ v 16 _ long))
    (zip2_of_maps bit_or _ _ v
    (zip2_of_maps bit_or _ _ v
    (zip2_splat {Y = ℕ} _ v 16 _ long)
    (zip2_splat {Y = ℕ} _ v 16 _ long))
    (zip2_of_maps (λ (a b : ℕ). cond (eqb a b) 255 0) _ _ v (zip2_splat bit_or v 16 _ long) (splat_is_map v 16 _ long)))) refl
