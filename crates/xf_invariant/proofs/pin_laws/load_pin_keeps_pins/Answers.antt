use Rattle.xf_invariant.proofs.PinWords.{load_pin_keeps_pins}
use Rattle.xf_invariant.proofs.pin_laws.load_pin_keeps_pins.Goals as goal

pub returns : goal.returns
returns g c = λ most base w k turn. load_pin_keeps_pins w.policies w.slots g.T.Means.id_place most w.scene.made w.scene.numbers w.scene.owners w.scene.log w.scene.words w.scene.settled w.pins w.scene.views w.scene.turn w.pin_part w.scene.seat w.scene.view w.scene.there w.scene.here k turn
