use Rattle.xf_invariant.proofs.PinStores.{unheld}
use Rattle.xf_invariant.proofs.pin_laws.pins_say.Goals as goal

pub returns : goal.returns
returns g c = record {
  held = λ most base w s sid hold. (w.pin_part.each w.scene.seat w.scene.view w.scene.there w.scene.here).holds s sid hold;
  unheld = λ most base w s turn old clear. unheld w.policies w.slots g.T.Means.id_place most w.scene.made w.scene.numbers w.scene.owners w.scene.log w.scene.words w.scene.settled w.pins w.scene.views w.scene.turn w.pin_part w.scene.seat w.scene.view w.scene.there w.scene.here s turn old clear;
}
