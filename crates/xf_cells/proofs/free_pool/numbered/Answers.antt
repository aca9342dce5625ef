use Rattle.std.proofs.Common.{◌<◌, arith, length, length-set, ◌∙◌}
use Rattle.xf_cells.proofs.NumberLemmas.{numbered}
use Rattle.xf_cells.proofs.free_pool.numbered.Goals as goal

pub places-preserved : goal.places-preserved
places-preserved c =
    let before : c.places.place < length c.places.slots.items = omega (arith, c.places.invariant.many, c.places-test.true) in
    record {
      many = length-set _ _ _ ∙ c.places.invariant.many;
      within = omega (arith, c.places-test.true);
      done = numbered _ _ before c.places.invariant.done;
    }
