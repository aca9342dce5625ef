-- What is said of a seat that splits off another one: each part holds as before.
use Rattle.std.specs.Prelude.{◌≡◌, ℕ, ◌+◌, ◌<◌, List, [], Option}
use mathlib.Core.Option.{some}
use lib.ListN.{get_elem?}
use Rattle.xf_types.specs.declared.state.Sa.{Sa}
use Rattle.xf_types.specs.Machine.{Machine}
use Rattle.xf_types.specs.Standing.{Standing}
use Rattle.xf_views.specs.declared.view.View.{View}
use Rattle.xf_views.specs.Log.{Mark}
use Rattle.xf_views.specs.TurnPart.{TurnPart}
use Rattle.xf_views.specs.TurnSays.{IsSeat}
use Rattle.xf_invariant.specs.Meaning.{Told}
use Rattle.xf_invariant.specs.ImagePart.{ImagePart}
use Rattle.xf_invariant.specs.PinPart.{PinPart}
use Rattle.xf_ownpart.specs.OwnPart.{OwnPart}
use Rattle.xf_stale.specs.StalePart.{StalePart}
use Rattle.xf_legalpart.specs.AgainPart.{AgainPart}
use Rattle.xf_seats.specs.LifePart.{LifePart}
use Rattle.xf_seats.specs.Seats.{split_views}
use Rattle.xf_seats.specs.LifeLaws.{Age}

-- a moment at which the seat may split off another one: it does so, there is room, and it took in none yet
pub record Splitting (most : ℕ) : Type 0 where
  pub age : Age most
  pub makes : 0 < age.moment.view.life.next
  pub room : age.moment.made < 16
  pub clear : age.moment.view.life.gathered ≡ []

-- the views then
abbrev pub after_split : (most : ℕ) → Splitting most → List View
after_split most s = split_views s.age.moment.views s.age.moment.seat s.age.moment.view

abbrev pub SplitKeepsTurn : Type 0
SplitKeepsTurn =
    (most : ℕ) (s : Splitting most)
    → TurnPart most (s.age.moment.made + 1) s.age.moment.numbers s.age.moment.owners s.age.moment.log (after_split most s)

abbrev pub SplitKeepsLife : Type 0
SplitKeepsLife =
    (most : ℕ) (s : Splitting most) → LifePart (s.age.moment.made + 1) s.age.start s.age.moment.log (after_split most s)

abbrev pub SplitKeepsImage : (Sa → ℕ) → (List ℕ → Told → Type 0) → Type 0
SplitKeepsImage bucket_of good =
    (base : List ℕ) (generation : ℕ) (log : List Mark) (words settled : List ℕ) (views : List View) (i : ℕ) (v : View) → IsSeat views i v
    → ImagePart bucket_of good base generation log words settled views → ImagePart bucket_of good base generation log words settled (split_views views i v)

abbrev pub SplitKeepsOwn : (List ℕ → ℕ → Option (Sa × ℕ)) → Type 0
SplitKeepsOwn lists =
    (start : Machine) (settled turns : List ℕ) (log : List Mark) (home : ℕ → Standing) (views : List View) (i : ℕ) (v : View) → IsSeat views i v
    → OwnPart lists start settled turns log home views → OwnPart lists start settled turns log home (split_views views i v)

-- the pin word of the new seat is 0
abbrev pub SplitKeepsPins : (ℕ → ℕ) → Type 0
SplitKeepsPins id_place =
    (policies slots generation : ℕ) (words settled pins : List ℕ) (views : List View) (i : ℕ) (v : View) → IsSeat views i v
    → get_elem? pins v.life.next ≡ some 0
    → PinPart policies slots id_place generation words settled pins views → PinPart policies slots id_place generation words settled pins (split_views views i v)

abbrev pub SplitKeepsAgain : Type 0
SplitKeepsAgain =
    (generation : ℕ) (log : List Mark) (views : List View) (i : ℕ) (v : View) → IsSeat views i v
    → AgainPart generation log views → AgainPart generation log (split_views views i v)

abbrev pub SplitKeepsStale : (List ℕ → ℕ → Option (Sa × ℕ)) → (ℕ → ℕ) → Type 0
SplitKeepsStale lists id_place =
    (policies states : ℕ) (start : Machine) (log : List Mark) (settled : List ℕ) (views : List View) (i : ℕ) (v : View) → IsSeat views i v
    → StalePart lists id_place policies states start log settled views → StalePart lists id_place policies states start log settled (split_views views i v)
