use Rattle.std.proofs.Common.{length}
use Rattle.xf_image.proofs.Adding.{added_frame}
use Rattle.xf_image.proofs.Removing.{removed_frame}
use Rattle.xf_image.proofs.Warning.{warned_frame}
use Rattle.xf_image.proofs.Setting.{set_frame}
use Rattle.xf_image.proofs.Bounds.{places_for_are, places_of_are}
use Rattle.xf_image.proofs.laws.frames.Goals as goal

pub returns : goal.returns
returns c = record {
  added = λ a image places slot p index_word fits are below code. added_frame a image (length image) places slot p index_word fits are below code;
  removed = λ a image places slot fits are. removed_frame a image (length image) places slot fits are;
  warned = warned_frame;
  set = λ a image h4 h6 fits. set_frame a image (length image) h4 h6 fits;
  places_for = places_for_are;
  places_of = places_of_are;
}
