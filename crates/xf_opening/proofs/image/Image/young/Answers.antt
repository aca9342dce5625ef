use Rattle.xf_opening.specs.Images.{homes_of}
use Rattle.xf_opening.proofs.Young.{read_young}
use Rattle.xf_opening.proofs.image.Image.young.Goals as goal

pub returns : goal.returns
returns c =
    let e = c.are_young.ensures in
    let y = read_young c.self.inside.sizes.policies c.self.inside.sizes.states c.self.inside.words.items c.deref.result.now (homes_of c.self.inside.values.items)
    c.layout_of-layout.result c.args.self.now c.layout_of-layout.ensures.places c.deref.ensures.value c.self.view_is in
    (λ t. y.0 (e.0 t), λ i. e.1 (y.1 i))
