use Rattle.std.proofs.Common.{refl}
use Rattle.xf_invariant.proofs.PinReads.{generation_keeps_pins}
use Rattle.xf_invariant.proofs.ImageSayings.{same-began}
use Rattle.xf_invariant.proofs.pin_laws.load_generation_keeps_pins.Goals as goal

pub returns : goal.returns
returns g c = λ most base w all settled turns.
    let f = w.scene.image.each w.scene.seat w.scene.view w.scene.there w.scene.here in
    generation_keeps_pins w.policies w.slots g.T.Means.id_place most w.scene.made w.scene.numbers w.scene.owners w.scene.log w.scene.words w.scene.settled w.pins w.scene.views w.scene.turn w.pin_part w.scene.seat w.scene.view w.scene.there w.scene.here all settled turns
    (λ same. let s = same-began w.scene.view.hand.began w.scene.numbers.generation same in (s.1, w.scene.image.calm s.1, (f.read w.scene.numbers.generation s.0).1 s.1 refl))
