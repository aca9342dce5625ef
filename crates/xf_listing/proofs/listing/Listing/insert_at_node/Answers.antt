use Rattle.std.proofs.Common.{◌≡◌, ℕ, ◌<◌, not, true, false, List, ◌∷◌, ◌++◌, length, subst}
use Rattle.xf_types.specs.PolicyList.{comes_after}
use Rattle.xf_chain.specs.Lists.{Misses, Apart}
use Rattle.xf_index.specs.Indexes.{AllAre, slots_in}
use Rattle.xf_image.specs.Policies.{ColumnsStand}
use Rattle.xf_exact.specs.Parts.{is_in_exact}
use Rattle.xf_inexact.specs.declared.inexact.Inexact.{Inexact}
use Rattle.xf_inexact.specs.Holds.{HoldPart}
use Rattle.xf_listing.proofs.listing.Listing.insert_at_node.Goals as goal

pub returns-clause-entries : goal.returns-clause-entries
returns-clause-entries g c = λ h4 h6 front back.
    let image : List ℕ = g.C.Cells.words c.args.c.now in
    let words : List ℕ = g.C.Cells.words c.insert.new.c in
    let p = c.args.policy.now in
    subst (λ (x : Inexact). is_in_exact h4 h6 p ≡ false → ColumnsStand x.area image (front ++ back) → Misses c.args.slot (slots_in (front ++ back)) → Apart (slots_in (front ++ back))
    → length (front ++ back) < x.area.slots → AllAre (λ q. not (comes_after q p)) true front → AllAre (λ q. not (comes_after q p)) false back
    → HoldPart x image h4 h6 (front ++ back) → HoldPart x words h4 h6 (front ++ ((c.args.slot, p) ∷ back)))
    c.behind.ensures (c.insert.ensures.entries h4 h6 front back)
