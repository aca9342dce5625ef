use Rattle.xf_opening.specs.Images.{homes_of}
use Rattle.xf_opening.proofs.Images.{image_is, told_rests}
use Rattle.xf_opening.proofs.Freed.{freed_rests}
use Rattle.xf_opening.proofs.image.Image.after.Goals as goal

pub invariant_of-result : goal.invariant_of-result
invariant_of-result c =
    let left = c.requires.left in
    told_rests c.args.sizes.policies c.args.sizes.states c.free_retired.new.words.items (homes_of c.args.values.items) left.0
    (freed_rests c.args.sizes.policies c.args.sizes.states c.args.words.items c.free_retired.new.words.items (homes_of c.args.values.items) left.0
    c.requires.sizes c.free_retired.ensures left.1)

pub returns : goal.returns
returns c = λ i stands.
    let rest = freed_rests c.args.sizes.policies c.args.sizes.states c.args.words.items c.free_retired.new.words.items (homes_of c.args.values.items) i
    c.requires.sizes c.free_retired.ensures stands in
    image_is c.args.sizes.policies c.args.sizes.states c.free_retired.new.words.items (homes_of c.args.values.items) i rest.stands
