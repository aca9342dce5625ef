use Rattle.std.proofs.Common.{◌≡◌, ℕ, ◌<◌, false, List, ◌∷◌, length, subst}
use Rattle.xf_chain.specs.Lists.{Misses, Apart}
use Rattle.xf_index.specs.Indexes.{slots_in}
use Rattle.xf_exact.specs.Parts.{is_in_exact}
use Rattle.xf_inexact.specs.declared.inexact.Inexact.{Inexact}
use Rattle.xf_inexact.specs.Holds.{HoldPart}
use Rattle.xf_listing.proofs.listing.Listing.front_at_node.Goals as goal

pub returns-clause-entries : goal.returns-clause-entries
returns-clause-entries g c = λ h4 h6 back.
    let image : List ℕ = g.C.Cells.words c.args.c.now in
    let words : List ℕ = g.C.Cells.words c.insert_first.new.c in
    let p = c.args.policy.now in
    subst (λ (x : Inexact). is_in_exact h4 h6 p ≡ false → Misses c.args.slot (slots_in back) → Apart (slots_in back) → length back < x.area.slots
    → HoldPart x image h4 h6 back → HoldPart x words h4 h6 ((c.args.slot, p) ∷ back))
    c.behind.ensures (c.insert_first.ensures.entries h4 h6 back)
