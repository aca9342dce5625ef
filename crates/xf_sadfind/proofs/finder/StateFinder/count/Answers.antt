use Rattle.std.proofs.Common.{◌≡◌, length, slice_index, ap, ◌∙◌, arith}
use Rattle.xf_sadfind.proofs.Orders.{count_word}
use Rattle.xf_sadfind.proofs.finder.StateFinder.count.Goals as goal

pub returns-clause-state : goal.returns-clause-state
returns-clause-state g c = λ image s entries agrees st.
    let is = count_word c.args.self.now.area image s entries st in
    let fit = is.1 in
    let word : c.load-word.result ≡ length s.states = c.load-word.ensures.word image agrees ∙ ap (slice_index image) c.count_place.ensures ∙ is.0 in
    omega (arith, word, fit, c.if-word-from.false, c.from.ensures)
