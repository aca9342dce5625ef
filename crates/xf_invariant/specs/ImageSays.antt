-- What the image part says of a seat, and of a read that ends the same.
use Rattle.std.specs.Prelude.{◌≡◌, ℕ, ◌≤◌, true, false, if◌then◌else◌, List, Some}
use Rattle.xf_types.specs.declared.state.Sa.{Sa}
use Rattle.xf_views.specs.declared.view.View.{View}
use Rattle.xf_views.specs.Hands.{is_same}
use Rattle.xf_views.specs.Log.{Mark, moves, AreBelow}
use Rattle.xf_invariant.specs.Meaning.{Told, Agrees, told_after_moves, Opens}
use Rattle.xf_invariant.specs.ImageLaws.{Scene}

module _ (bucket_of : Sa → ℕ) (good : List ℕ → Told → Type 0) where
  -- the image is good for what all moves make of what was told at the beginning
  abbrev pub StandsAfter : List ℕ → List Mark → List ℕ → Type 0
  StandsAfter base log image = (t : Told) → Opens good base t → good image (told_after_moves bucket_of t (moves log))

  pub record SaysImage (base : List ℕ) (generation : ℕ) (log : List Mark) (words settled : List ℕ) (v : View) : Type 0 where
    pub stands : StandsAfter base log settled
    -- a seat with the turn knows the image; while it is open it knows the settled one too
    pub image : v.hand.has_turn ≡ true → v.image.words ≡ words
    pub open_settled : v.hand.writing ≡ true → settled ≡ (if v.hand.drawn then words else v.image.kept)
    -- with the turn and no opening, the image is good
    pub calm : v.hand.has_turn ≡ true → v.hand.writing ≡ false → StandsAfter base log v.image.words
    -- a read's first value is at most the generation
    pub first : (g : ℕ) → v.hand.began ≡ Some g → g ≤ generation
    -- a read that ends the same has loaded words of the image, which is good, and all moves have smaller numbers than its trial
    pub same : is_same v.hand.began generation ≡ true
        → Agrees words v.image.loads × StandsAfter base log words × ((x : ℕ) → v.hand.trial ≡ Some x → AreBelow x (moves log))

  abbrev pub ImageSays : Type 0
  ImageSays =
      (most : ℕ) (base : List ℕ) (m : Scene bucket_of good most base)
      → SaysImage base m.numbers.generation m.log m.words m.settled m.view
