use Rattle.std.proofs.Common.{◌≡◌, true, false, [], rules}
use Rattle.std.specs.Option.{is_none}
use Rattle.xf_inexact.specs.Whole.{trees_of}
use Rattle.xf_inexact.proofs.Listed.{exact_put}
use Rattle.xf_listing.proofs.Wholes.{at_node, at_key}
use Rattle.xf_listing.proofs.listing.Listing.plant_first.Goals as goal

pub returns-then-is_none-clause-entries : goal.returns-then-is_none-clause-entries
returns-then-is_none-clause-entries g c = λ h4 h6 back key miss apart few part.
    let none : is_none c.args.bucket ≡ true = search rules in
    c.front_at_node.ensures.entries h4 h6 back (at_node h4 h6 c.args.policy.now c.args.bucket none key) miss apart few part

pub returns-else-is_none-clause-entries : goal.returns-else-is_none-clause-entries
returns-else-is_none-clause-entries g c = λ h4 h6 back key miss apart few part.
    let some : is_none c.args.bucket ≡ false = search rules in
    exact_put (trees_of c.args.self.now.area) (g.C.Cells.words c.args.c.now) h4 h6 [] back c.args.slot c.args.policy.now (at_key h4 h6 c.args.policy.now c.args.bucket some key) part
