use Rattle.std.proofs.Common.{◌≡◌, ℕ, List, length, ap, ◌∙◌, sym}
use Rattle.std.proofs.lemmas.List.{length-replicate}
use Rattle.xf_cells.specs.Words.{zeros}
use Rattle.xf_compare.proofs.Replacing.{words_fit}
use Rattle.xf_compare.proofs.listed.Listed.new.Goals as goal

pub invariant_of-result : goal.invariant_of-result
invariant_of-result c =
    let w : c.in_ok-cells.cells.items.items ≡ zeros c.words.result = c.in_ok-cells.ensures.words in
    record {
      fits = words_fit c.new-sad.result.area _ c.words.result c.new-sad.result.facts c.words.ensures
          (ap (λ (xs : List ℕ). length xs) w ∙ length-replicate c.words.result 0) c.new-sad.ensures.base;
      room = c.in_ok-pool.ensures.full.room ∙ sym c.new-sad.ensures.slots;
    }
