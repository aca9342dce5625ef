use Rattle.std.proofs.Common.{refl, length, ◌+◌}
use Rattle.xf_image.specs.Entries.{new_policy}
use Rattle.xf_image.proofs.Empties.{zeros_stand}
use Rattle.xf_image.proofs.Adding.{stands_added}
use Rattle.xf_image.proofs.Removing.{stands_removed}
use Rattle.xf_image.proofs.Warning.{stands_warned}
use Rattle.xf_image.proofs.Setting.{stands_set}
use Rattle.xf_image.proofs.Keeping.{stands_alike, stands_kept}
use Rattle.xf_image.proofs.laws.changes.Goals as goal

pub returns : goal.returns
returns c = record {
  empty = zeros_stand;
  added = λ a image s entries slot spec index index_word fits order below miss code stands.
      stands_added a image (length image) s entries slot (new_policy s spec index) index_word (index_word + 1) fits refl below code order miss refl refl stands;
  removed = λ a image s entries slot p fits is stands. stands_removed a image (length image) s entries slot p fits refl is stands;
  warned = λ a image s entries slot p fits is stands. stands_warned a image (length image) s entries slot p fits refl is stands;
  set = λ a image s entries h4 h6 fits ranges stands. stands_set a image (length image) s entries h4 h6 fits refl ranges stands;
  apart = λ a image words s entries fits same stands. stands_kept a image words (length image) s entries fits same stands;
  alike = stands_alike;
}
