use Rattle.std.proofs.Common.{◌≡◌, ℕ, false, List, ◌∷◌, ◌++◌, subst}
use Rattle.xf_chain.specs.Lists.{Apart}
use Rattle.xf_index.specs.Indexes.{slots_in}
use Rattle.xf_exact.specs.Parts.{is_in_exact}
use Rattle.xf_inexact.specs.declared.inexact.Inexact.{Inexact}
use Rattle.xf_inexact.specs.Holds.{HoldPart}
use Rattle.xf_listing.proofs.listing.Listing.remove_at_node.Goals as goal

pub returns-clause-entries : goal.returns-clause-entries
returns-clause-entries g c = λ h4 h6 front back.
    let image : List ℕ = g.C.Cells.words c.args.c.now in
    let words : List ℕ = g.C.Cells.words c.remove.new.c in
    let p = c.args.policy.now in
    subst (λ (x : Inexact). is_in_exact h4 h6 p ≡ false → Apart (slots_in (front ++ ((c.args.slot, p) ∷ back)))
    → HoldPart x image h4 h6 (front ++ ((c.args.slot, p) ∷ back)) → HoldPart x words h4 h6 (front ++ back))
    c.behind.ensures (c.remove.ensures.entries h4 h6 front back)
