use Rattle.std.proofs.Common.{ℕ, List, sym, subst}
use Rattle.xf_image.specs.Frames.{Frame}
use Rattle.xf_image.specs.Layout.{end_of}
use Rattle.xf_image.specs.Placing.{places_for}
use Rattle.xf_image.specs.Readings.{hthresh4_in, hthresh6_in}
use Rattle.xf_image.proofs.Adding.{added_frame}
use Rattle.xf_image.proofs.Bounds.{places_for_are}
use Rattle.xf_listing.proofs.Changing.{listed_stands}
use Rattle.xf_listing.proofs.Wholes.{list_fits, whole_written}
use Rattle.xf_listing.proofs.listing.Listing.list_policy.Given as given
use Rattle.xf_listing.proofs.listing.Listing.list_policy.Goals as goal

-- only words of the list were written before
first : (g : given.Over) (c : goal.After-plant g) → Frame c.args.self.now.area.base (end_of c.args.self.now.area) (g.C.Cells.words c.args.c.now) (g.C.Cells.words c.list_words-bucket.new.c)
first g c =
    let a = c.args.self.now.area in
    let image : List ℕ = g.C.Cells.words c.args.c.now in
    let p = c.args.policy.now in
    subst (λ (w : List ℕ). Frame a.base (end_of a) image w) (sym c.list_words-bucket.ensures.words)
    (added_frame a image _ (places_for a image (hthresh4_in a image) (hthresh6_in a image) p) c.args.slot p c.args.word (list_fits a _ c.requires.fits)
    (places_for_are a image (hthresh4_in a image) (hthresh6_in a image) p) c.requires.slot c.list_words-bucket.ensures.fits)

pub returns-clause-frame : goal.returns-clause-frame
returns-clause-frame g c =
    whole_written c.args.self.now.area (g.C.Cells.words c.args.c.now) (g.C.Cells.words c.list_words-bucket.new.c) (g.C.Cells.words c.plant.new.c) (first g c) c.plant.ensures.frame

pub returns-clause-lists : goal.returns-clause-lists
returns-clause-lists g c = λ s es number sound stands miss.
    listed_stands c.args.self.now.area (g.C.Cells.words c.args.c.now) (g.C.Cells.words c.list_words-bucket.new.c) (g.C.Cells.words c.plant.new.c) _ s es c.args.slot c.args.policy.now c.args.word
    c.list_words-bucket.result (g.met.C.Cells.all c.args.c.now) c.requires.fits c.requires.slot c.list_words-bucket.ensures.fits c.list_words-bucket.ensures.words c.list_words-bucket.ensures.bucket
    (first g c) c.plant.ensures.frame c.plant.ensures.entries number sound stands miss
