use Rattle.xf_opening.specs.Images.{homes_of}
use Rattle.xf_opening.proofs.Images.{empty_rests, image_is, told_rests}
use Rattle.xf_opening.proofs.image.Image.empty.Goals as goal

pub invariant_of-result : goal.invariant_of-result
invariant_of-result c =
    told_rests c.args.sizes.policies c.args.sizes.states c.in-Ok.words.items (homes_of c.in-Some.values.items) _
    (empty_rests c.args.sizes.policies c.args.sizes.states c.in-Ok.words.items (homes_of c.in-Some.values.items) c.layout_of.result c.requires c.layout_of.ensures.places
    (c.in-Ok.ensures.items_if_clones_equal (λ y e. e)) c.in-Some.ensures)

pub returns : goal.returns
returns c =
    let rest = empty_rests c.args.sizes.policies c.args.sizes.states c.in-Ok.words.items (homes_of c.in-Some.values.items) c.layout_of.result c.requires
    c.layout_of.ensures.places (c.in-Ok.ensures.items_if_clones_equal (λ y e. e)) c.in-Some.ensures in
    image_is c.args.sizes.policies c.args.sizes.states c.in-Ok.words.items (homes_of c.in-Some.values.items) _ rest.stands
