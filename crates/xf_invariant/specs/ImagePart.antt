-- The image part of what always holds: the image and the reads. The settled image is the image, or, while a seat is open and hasn't
-- drawn, the image as its opening began.
use Rattle.std.specs.Prelude.{◌≡◌, ℕ, ◌%◌, ◌<◌, ◌≤◌, Bool, true, false, if◌then◌else◌, List, Option, Some}
use mathlib.Core.Option.{some}
use lib.ListN.{get_elem?}
use Rattle.xf_types.specs.declared.call.Receipt.{Receipt}
use Rattle.xf_types.specs.declared.state.Sa.{Sa}
use Rattle.xf_types.specs.Moves.{is_moving}
use Rattle.xf_views.specs.declared.view.View.{View}
use Rattle.xf_views.specs.declared.view.ImageView.{ImageView}
use Rattle.xf_views.specs.Log.{Mark, moves}
use Rattle.xf_invariant.specs.Meaning.{Told, Agrees, told_after_moves, Opens}

-- what is said of one seat: the image that it knows is the image while it has the turn; while it is open, the settled image is
-- the image once it drew, and else the one that it kept; its read began at no later generation, and one whose even first value is
-- the generation agrees with the image, and no number after its trial has a move
pub record FitsImage (generation : ℕ) (log : List Mark) (words rest : List ℕ) (has opens drew : Bool) (start late : Option ℕ) (known : ImageView) : Type 0 where
  pub image : has ≡ true → known.words ≡ words
  pub settled : opens ≡ true → rest ≡ (if drew then words else known.kept)
  pub read : (g : ℕ) → start ≡ Some g → (g ≤ generation) × (g % 2 ≡ 0 → g ≡ generation → Agrees words known.loads)
  pub trial : (x g : ℕ) → late ≡ Some x → start ≡ Some g → g % 2 ≡ 0 → g ≡ generation → (k : ℕ) (m : Mark) (r : Receipt) → x < k → get_elem? log k ≡ some m → m.receipt ≡ Some r → is_moving r.reply ≡ false

-- of a seat as it knows itself
abbrev pub IsInImage : ℕ → List Mark → List ℕ → List ℕ → View → Type 0
IsInImage generation log words settled v =
    FitsImage generation log words settled v.hand.has_turn v.hand.writing v.hand.drawn v.hand.began v.hand.trial v.image

-- the settled image is good for what the moves make of what was told at the beginning
pub record ImagePart (bucket_of : Sa → ℕ) (good : List ℕ → Told → Type 0) (base : List ℕ) (generation : ℕ) (log : List Mark) (words settled : List ℕ) (views : List View) : Type 0 where
  pub stands : (t : Told) → Opens good base t → good settled (told_after_moves bucket_of t (moves log))
  pub calm : generation % 2 ≡ 0 → settled ≡ words
  pub each : (i : ℕ) (v : View) → get_elem? views i ≡ some v → v.here ≡ true → IsInImage generation log words settled v
