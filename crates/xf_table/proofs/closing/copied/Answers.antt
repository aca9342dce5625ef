use Rattle.std.proofs.Common.{◌≡◌, ℕ, ◌+◌, List, [], ◌∷◌, ◌++◌, take, drop, ap, ◌∙◌, sym, arith}
use Rattle.std.specs.Mem.Slots.{slots_items}
use Rattle.xf_table.proofs.Rows.{take_from}
use Rattle.xf_table.proofs.closing.copied.Goals as goal

pub loop-i-preserved : goal.loop-i-preserved
loop-i-preserved g c =
    let l = c.loop-i.invariant in
    let items : c.push_reserved.new.self.items ≡ take (c.loop-i.i + 1) (drop c.args.from (slots_items c.args.closed.now.words)) = c.push_reserved.ensures.items ∙ (ap (λ (xs : List ℕ). xs ++ c.word.result ∷ []) l.0 ∙ sym (take_from (slots_items c.args.closed.now.words) c.args.from c.loop-i.i c.word.result c.word.ensures)) in
    let len = c.push_reserved.ensures.len in
    let capacity = c.push_reserved.ensures.capacity in
    let test = c.loop-i-test.true in
    (items, omega arith, omega arith, omega arith)
