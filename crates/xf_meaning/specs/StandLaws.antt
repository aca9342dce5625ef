-- Good words with values beside them, and what calls over words and values ask for.
use Rattle.std.specs.Prelude.{◌≡◌, ℕ, List, length}
use Rattle.xf_types.specs.ChangeIds.{ChangeIds}
use Rattle.xf_types.specs.Machine.{Machine}
use Rattle.xf_types.specs.IsMachine.{IsMachine}
use Rattle.xf_rows.specs.Values.{Beside}
use Rattle.xf_rows.specs.Stands.{Stands}
use Rattle.xf_invariant.specs.Meaning.{Told, told}
use Rattle.xf_meaning.specs.Places.{layout_of, size_of}
use Rattle.xf_meaning.specs.Marks.{AreIds}
use Rattle.xf_meaning.specs.Good.{Good}
use Rattle.xf_meaning.specs.Beside.{AreBeside, MarksStand}

pub record StandLaws : Type 0 where
  -- good words and values stand for each machine that shows what is told, and has the own parts that the values have
  pub stand : (p s : ℕ) (image : List ℕ) (t : Told) (m : Machine) (b : Beside) → Good p s image t → IsMachine m → t.shown ≡ m.shown → AreBeside p s image m b
      → Stands (layout_of p s) image b m
  -- words that stand for a machine are good, where statuses and ids are right
  pub good : (p s : ℕ) (image : List ℕ) (b : Beside) (m : Machine) (ids : ChangeIds) → Stands (layout_of p s) image b m → MarksStand p s image → AreIds p s image ids
      → length image ≡ size_of p s → Good p s image (told m.shown ids)
  -- then each value of a slot whose turn is held stands for what the image lists there
  pub beside : (p s : ℕ) (image : List ℕ) (b : Beside) (m : Machine) (ids : ChangeIds) → Stands (layout_of p s) image b m → MarksStand p s image → AreIds p s image ids
      → length image ≡ size_of p s → AreBeside p s image m b
  -- the statuses of good words are right
  pub marks : (p s : ℕ) (image : List ℕ) (t : Told) → Good p s image t → MarksStand p s image
