use Rattle.std.proofs.Common.{◌≡◌, ℕ, ◌+◌, List, ap, sym, ◌∙◌, subst}
use Rattle.xf_types.specs.declared.policy.Policy.{Policy}
use Rattle.xf_image.specs.Entries.{new_policy, entries_with, with_listed}
use Rattle.xf_image.specs.Frames.{Frame}
use Rattle.xf_inexact.specs.Whole.{SpdStands, whole_end}
use Rattle.xf_listing.proofs.Changing.{policy_is_for}
use Rattle.xf_listing.proofs.Loading.{words_kept, answer_kept}
use Rattle.xf_listing.proofs.listing.Listing.list.Given as given
use Rattle.xf_listing.proofs.listing.Listing.list.Goals as goal

-- the words stay while the policy is made
same : (g : given.Over) (c : goal.After-list_policy g) → g.C.Cells.words c.new_policy-policy.new.l ≡ g.C.Cells.words c.args.c.now
same g c = words_kept _ _ _ _ c.new_policy-policy.ensures.among (g.met.C.Cells.only c.args.c.now) (g.met.C.Cells.own c.new_policy-policy.new.l)

pub returns-clause-frame : goal.returns-clause-frame
returns-clause-frame g c =
    let a = c.args.self.now.area in
    subst (λ (i : List ℕ). Frame a.base (whole_end a) i (g.C.Cells.words c.list_policy.new.c)) (same g c) c.list_policy.ensures.frame

pub returns-clause-lists : goal.returns-clause-lists
returns-clause-lists g c = λ s es small sound time stands miss.
    let a = c.args.self.now.area in
    let image : List ℕ = g.C.Cells.words c.args.c.now in
    let made : c.new_policy-policy.result ≡ new_policy s c.args.spec.now c.args.index =
    c.new_policy-policy.ensures.answer _ (answer_kept _ _ _ _ c.new_policy-policy.ensures.among (g.met.C.Cells.only c.args.c.now) (g.met.C.Cells.own c.new_policy-policy.new.l))
    ∙ policy_is_for a image s es c.args.spec.now c.args.index c.args.now small time stands.list in
    subst (λ (p : Policy). SpdStands a (g.C.Cells.words c.list_policy.new.c) (with_listed s p (c.args.word + 1)) (entries_with c.args.slot p es)) made
    (c.list_policy.ensures.lists s es (ap (λ (p : Policy). p.number) made) sound (subst (λ (i : List ℕ). SpdStands a i s es) (sym (same g c)) stands) miss)
