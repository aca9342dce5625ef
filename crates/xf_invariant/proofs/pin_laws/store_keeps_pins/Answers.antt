use Rattle.xf_invariant.proofs.PinStores.{retire_keeps_pins, list_free_keeps_pins, list_again_keeps_pins, other_keeps_pins}
use Rattle.xf_invariant.proofs.pin_laws.store_keeps_pins.Goals as goal

pub returns : goal.returns
returns g c = record {
  retires = λ most base w s opens inside long one. retire_keeps_pins w.policies w.slots g.T.Means.id_place most w.scene.made w.scene.numbers w.scene.owners w.scene.log w.scene.words w.scene.settled w.pins w.scene.views w.scene.turn w.pin_part w.scene.seat w.scene.view w.scene.there w.scene.here s opens inside long one;
  lists = λ most base w s opens inside long free. list_free_keeps_pins w.policies w.slots g.T.Means.id_place most w.scene.made w.scene.numbers w.scene.owners w.scene.log w.scene.words w.scene.settled w.pins w.scene.views w.scene.turn w.pin_part w.scene.seat w.scene.view w.scene.there w.scene.here s opens inside long free;
  lists_again = λ most base w s opens inside long old clear. list_again_keeps_pins w.policies w.slots g.T.Means.id_place most w.scene.made w.scene.numbers w.scene.owners w.scene.log w.scene.words w.scene.settled w.pins w.scene.views w.scene.turn w.pin_part w.scene.seat w.scene.view w.scene.there w.scene.here s opens inside long old clear;
  others = λ most base w place word opens behind. other_keeps_pins w.policies w.slots g.T.Means.id_place most w.scene.made w.scene.numbers w.scene.owners w.scene.log w.scene.words w.scene.settled w.pins w.scene.views w.scene.turn w.pin_part w.scene.seat w.scene.view w.scene.there w.scene.here place word opens behind;
}
