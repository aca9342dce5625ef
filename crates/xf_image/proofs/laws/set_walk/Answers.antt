use Rattle.xf_image.proofs.Walking.{walk_moved, walk_begins, walk_goes, walk_ends}
use Rattle.xf_image.proofs.laws.set_walk.Goals as goal

pub returns : goal.returns
returns c = record { same = walk_moved; begins = walk_begins; goes = walk_goes; ends = walk_ends }
