use Rattle.std.proofs.Common.{ℕ, List, sym, subst}
use Rattle.xf_image.specs.Frames.{Frame}
use Rattle.xf_image.specs.Layout.{end_of}
use Rattle.xf_image.specs.Placing.{places_of}
use Rattle.xf_image.specs.Readings.{hthresh4_in, hthresh6_in}
use Rattle.xf_image.proofs.Bounds.{places_of_are}
use Rattle.xf_image.proofs.Removing.{removed_frame}
use Rattle.xf_listing.proofs.Changing.{delisted_stands}
use Rattle.xf_listing.proofs.Wholes.{list_fits, whole_written}
use Rattle.xf_listing.proofs.listing.Listing.delist.Given as given
use Rattle.xf_listing.proofs.listing.Listing.delist.Goals as goal

-- only words of the list were written before
first : (g : given.Over) (c : goal.After-uproot g) → Frame c.args.self.now.area.base (end_of c.args.self.now.area) (g.C.Cells.words c.args.c.now) (g.C.Cells.words c.delist_words-bucket.new.c)
first g c =
    let a = c.args.self.now.area in
    let image : List ℕ = g.C.Cells.words c.args.c.now in
    let f = c.args.found.now in
    subst (λ (w : List ℕ). Frame a.base (end_of a) image w) (sym c.delist_words-bucket.ensures.words)
    (removed_frame a image _ (places_of a image (hthresh4_in a image) (hthresh6_in a image) f.policy f.slot) f.slot (list_fits a _ c.requires.fits)
    (places_of_are a image (hthresh4_in a image) (hthresh6_in a image) f.policy f.slot))

pub returns-clause-frame : goal.returns-clause-frame
returns-clause-frame g c =
    whole_written c.args.self.now.area (g.C.Cells.words c.args.c.now) (g.C.Cells.words c.delist_words-bucket.new.c) (g.C.Cells.words c.uproot.new.c) (first g c) c.uproot.ensures.frame

pub returns-clause-delists : goal.returns-clause-delists
returns-clause-delists g c = λ s es is stands.
    delisted_stands c.args.self.now.area (g.C.Cells.words c.args.c.now) (g.C.Cells.words c.delist_words-bucket.new.c) (g.C.Cells.words c.uproot.new.c) _ s es c.args.found.now.slot c.args.found.now.policy
    c.delist_words-bucket.result (g.met.C.Cells.all c.args.c.now) c.requires.fits c.delist_words-bucket.ensures.words c.delist_words-bucket.ensures.bucket (first g c) c.uproot.ensures.frame
    c.uproot.ensures.entries is stands
