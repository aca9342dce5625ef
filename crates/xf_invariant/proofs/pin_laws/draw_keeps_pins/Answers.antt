use Rattle.std.proofs.Common.{◌≡◌, ℕ, List, Bool, ap, sym, ◌∙◌}
use Rattle.std.specs.Prelude.{slice_index, if◌then◌else◌}
use Rattle.xf_invariant.proofs.PinRest.{move_keeps_pins, still_keeps_pins, try_keeps_pins}
use Rattle.xf_invariant.proofs.pin_laws.draw_keeps_pins.Goals as goal

pub returns : goal.returns
returns g c = record {
  moving = λ most base w all r turns turn opens yet ids.
      let f = w.scene.image.each w.scene.seat w.scene.view w.scene.there w.scene.here in
      let kept : w.scene.settled ≡ w.scene.view.image.kept = f.settled opens ∙ ap (λ (b : Bool). if b then w.scene.words else w.scene.view.image.kept) yet in
      move_keeps_pins w.policies w.slots g.T.Means.id_place most w.scene.made w.scene.numbers w.scene.owners w.scene.log w.scene.words w.scene.settled w.pins w.scene.views w.scene.turn w.pin_part w.scene.seat w.scene.view w.scene.there w.scene.here all r turns opens
      (λ s low inside other. ap (λ (l : List ℕ). slice_index l (g.T.Means.id_place s)) (sym (f.image turn)) ∙ ids s low inside other ∙ ap (λ (l : List ℕ). slice_index l (g.T.Means.id_place s)) (sym kept));
  still = λ most base w all r turns. still_keeps_pins w.policies w.slots g.T.Means.id_place most w.scene.made w.scene.numbers w.scene.owners w.scene.log w.scene.words w.scene.settled w.pins w.scene.views w.scene.turn w.pin_part w.scene.seat w.scene.view w.scene.there w.scene.here all r turns;
  trial = λ most base w x all. try_keeps_pins w.policies w.slots g.T.Means.id_place most w.scene.made w.scene.numbers w.scene.owners w.scene.log w.scene.words w.scene.settled w.pins w.scene.views w.scene.turn w.pin_part w.scene.seat w.scene.view w.scene.there w.scene.here x all;
}
