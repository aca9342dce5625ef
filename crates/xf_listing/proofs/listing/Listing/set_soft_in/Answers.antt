use Rattle.std.proofs.Common.{◌≡◌, ℕ, List, ap, sym, ◌∙◌, subst}
use Rattle.xf_index.specs.Indexes.{records_in}
use Rattle.xf_image.specs.Entries.{slot_warned, with_policies}
use Rattle.xf_image.specs.Frames.{Frame}
use Rattle.xf_image.specs.Layout.{end_of}
use Rattle.xf_image.specs.Writes.{warned_words}
use Rattle.xf_image.proofs.Warning.{warned_frame}
use Rattle.xf_inexact.specs.Whole.{SpdStands}
use Rattle.xf_listing.proofs.Changing.{warned_stands}
use Rattle.xf_listing.proofs.listing.Listing.set_soft_in.Given as given
use Rattle.xf_listing.proofs.listing.Listing.set_soft_in.Goals as goal

words : (g : given.Over) (c : goal.After-warn g) → g.C.Cells.words c.warn.new.c ≡ warned_words c.args.self.now.area (g.C.Cells.words c.args.c.now) c.args.slot
words g c = c.warn.ensures.words ∙ ap (λ (i : List ℕ). warned_words c.args.self.now.area i c.args.slot) c.begin.ensures.words

pub returns-clause-frame : goal.returns-clause-frame
returns-clause-frame g c =
    let a = c.args.self.now.area in
    subst (λ (w : List ℕ). Frame a.base (end_of a) (g.C.Cells.words c.args.c.now) w) (sym (words g c)) (warned_frame a (g.C.Cells.words c.args.c.now) c.args.slot c.requires.slot)

pub returns-clause-warns : goal.returns-clause-warns
returns-clause-warns g c = λ s es p is stands.
    let a = c.args.self.now.area in
    subst (λ (w : List ℕ). SpdStands a w (with_policies s (records_in (slot_warned c.args.slot es))) (slot_warned c.args.slot es)) (sym (words g c))
    (warned_stands a (g.C.Cells.words c.args.c.now) _ s es c.args.slot p c.requires.fits c.requires.slot (g.met.C.Cells.all c.args.c.now) is stands)
