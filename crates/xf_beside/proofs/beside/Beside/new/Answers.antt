use Rattle.std.proofs.Common.{◌≡◌, List, ℕ, length, ap, ◌∙◌}
use Rattle.std.proofs.lemmas.List.{length-replicate}
use Rattle.xf_cells.specs.Words.{zeros}
use Rattle.xf_beside.proofs.Begun.{is_begun}
use Rattle.xf_beside.proofs.beside.Beside.new.Goals as goal

pub invariant_of-result : goal.invariant_of-result
invariant_of-result c =
    let w : c.in_ok-cells.cells.items.items ≡ zeros c.words.result = c.in_ok-cells.ensures.words in
    is_begun c.new-spd.result.area _ _ c.words.result c.args.policies _ _ _ _ c.new-spd.result.facts w
    (ap (λ (xs : List ℕ). length xs) w ∙ length-replicate c.words.result 0) c.words.ensures c.new-spd.ensures.base c.new-spd.ensures.slots c.requires.most c.in_ok-pool.ensures.full
