use Rattle.xf_image.specs.ExactKeys.{exact_key}
use Rattle.xf_image.specs.Layout.{exact_of}
use Rattle.xf_image.specs.Readings.{hthresh4_in, hthresh6_in}
use Rattle.xf_image.proofs.Bounds.{places_of_are}
use Rattle.xf_image.proofs.Layouts.{exact_lays}
use Rattle.xf_exact.specs.Parts.{exact_key_in}
use Rattle.xf_exact.proofs.TurnLaws.{same_exact_key, part_taken, taken_leaves}
use Rattle.xf_exact.proofs.exact.Exact.remove.Goals as goal

pub returns-clause-outside : goal.returns-clause-outside
returns-clause-outside g c = λ q out.
    let a = c.args.self.now.area in
    let image = g.C.Cells.words c.args.c.now in
    let n = g.C.Load.size c.args.c.now in
    let are = places_of_are a image (hthresh4_in a image) (hthresh6_in a image) c.args.p.now c.args.slot in
    taken_leaves image (g.C.Cells.words c.take.new.c) n (exact_of a) (exact_key_in a image c.args.p.now) c.args.slot q
    c.take.ensures.words (exact_lays a n c.requires.fits) are.bucket are.exact out

pub returns-clause-entries : goal.returns-clause-entries
returns-clause-entries g c = λ h4 h6 front back tells apart is.
    let a = c.args.self.now.area in
    let image = g.C.Cells.words c.args.c.now in
    let n = g.C.Load.size c.args.c.now in
    let are = places_of_are a image (hthresh4_in a image) (hthresh6_in a image) c.args.p.now c.args.slot in
    part_taken image (g.C.Cells.words c.take.new.c) n (exact_of a) (exact_key h4 h6) (exact_key_in a image c.args.p.now) c.args.slot c.args.p.now
    front back c.take.ensures.words (g.met.C.Cells.all c.args.c.now) (exact_lays a n c.requires.fits) are.bucket
    (same_exact_key a image h4 h6 c.args.p.now tells) apart is
