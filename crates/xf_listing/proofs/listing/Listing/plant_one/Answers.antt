use Rattle.std.proofs.Common.{◌≡◌, ℕ, List, ◌∷◌, Option, Some, ap, sym, ◌∙◌, subst}
use Rattle.xf_types.specs.declared.policy.Policy.{Policy}
use Rattle.xf_image.specs.ExactKeys.{exact_key}
use Rattle.xf_image.specs.Readings.{hthresh4_in, hthresh6_in}
use Rattle.xf_exact.proofs.TurnLaws.{same_exact_key}
use Rattle.xf_inexact.specs.Holds.{HoldPart}
use Rattle.xf_inexact.specs.Whole.{trees_of}
use Rattle.xf_listing.proofs.listing.Listing.plant_one.Given as given
use Rattle.xf_listing.proofs.listing.Listing.plant_one.Goals as goal

one_policy : (p q : Policy) (o : Option Policy) → o ≡ Some p → o ≡ Some q → p ≡ q
one_policy p q o e h = let k : Some p ≡ Some q = sym e ∙ h in cc

-- the words stay while the policy is read
same : (g : given.Over) (c : goal.After-plant_first g) → g.C.Cells.words c.bucket_here-bucket.new.c ≡ g.C.Cells.words c.args.c.now
same g c = c.bucket_here-bucket.ensures.words ∙ c.policy_here.ensures.words

pub returns-in-Some-clause-entries : goal.returns-in-Some-clause-entries
returns-in-Some-clause-entries g c = λ h4 h6 back p at tells miss apart few part.
    let a = c.args.self.now.area in
    let image : List ℕ = g.C.Cells.words c.args.c.now in
    let own : c.in-Some.policy ≡ p = one_policy _ _ c.policy_here.result c.in-Some.is (c.policy_here.ensures.answer ∙ at) in
    let bucket : exact_key h4 h6 c.in-Some.policy ≡ c.bucket_here-bucket.result =
    same_exact_key a image h4 h6 c.in-Some.policy tells
    ∙ sym (c.bucket_here-bucket.ensures.answer
    ∙ ap (λ (i : List ℕ). exact_key (hthresh4_in a i) (hthresh6_in a i) c.in-Some.policy) c.policy_here.ensures.words) in
    subst (λ (q : Policy). HoldPart (trees_of a) (g.C.Cells.words c.plant_first.new.c) h4 h6 ((c.args.slot, q) ∷ back)) own
    (c.plant_first.ensures.entries h4 h6 back bucket miss apart few (subst (λ (i : List ℕ). HoldPart (trees_of a) i h4 h6 back) (sym (same g c)) part))
