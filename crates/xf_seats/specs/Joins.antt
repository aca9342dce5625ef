-- What is said of a seat that takes in another one: each part holds as before.
use Rattle.std.specs.Prelude.{◌≡◌, ◌≢◌, ℕ, ◌+◌, false, List, length, Option}
use Rattle.xf_types.specs.declared.state.Sa.{Sa}
use Rattle.xf_types.specs.Machine.{Machine}
use Rattle.xf_types.specs.Standing.{Standing}
use Rattle.xf_views.specs.declared.view.View.{View}
use Rattle.xf_views.specs.Log.{Mark}
use Rattle.xf_views.specs.TurnPart.{TurnPart}
use Rattle.xf_views.specs.TurnSays.{IsSeat}
use Rattle.xf_invariant.specs.Meaning.{Told}
use Rattle.xf_invariant.specs.ImagePart.{ImagePart}
use Rattle.xf_invariant.specs.PinPart.{PinPart}
use Rattle.xf_ownpart.specs.OwnPart.{OwnPart}
use Rattle.xf_stale.specs.StalePart.{StalePart}
use Rattle.xf_legalpart.specs.AgainPart.{AgainPart}
use Rattle.xf_seats.specs.LifePart.{LifePart}
use Rattle.xf_seats.specs.Seats.{joined_views}
use Rattle.xf_seats.specs.LifeLaws.{Age}

-- a moment at which the seat may take in another one: it is worker 0, and the other is the next worker, with no opening
pub record Joining (most : ℕ) : Type 0 where
  pub age : Age most
  pub other : ℕ
  pub guest : View
  pub apart : other ≢ age.moment.seat
  pub there : IsSeat age.moment.views other guest
  pub first : age.moment.view.worker ≡ 0
  pub next : guest.worker ≡ length age.moment.view.life.gathered + 1
  pub closed : guest.hand.writing ≡ false

-- the views then
abbrev pub after_join : (most : ℕ) → Joining most → List View
after_join most s = joined_views s.age.moment.views s.age.moment.seat s.age.moment.view s.other s.guest

abbrev pub JoinKeepsTurn : Type 0
JoinKeepsTurn =
    (most : ℕ) (s : Joining most)
    → TurnPart most s.age.moment.made s.age.moment.numbers s.age.moment.owners s.age.moment.log (after_join most s)

abbrev pub JoinKeepsLife : Type 0
JoinKeepsLife =
    (most : ℕ) (s : Joining most) → LifePart s.age.moment.made s.age.start s.age.moment.log (after_join most s)

abbrev pub JoinKeepsImage : (Sa → ℕ) → (List ℕ → Told → Type 0) → Type 0
JoinKeepsImage bucket_of good =
    (base : List ℕ) (generation : ℕ) (log : List Mark) (words settled : List ℕ) (views : List View) (i j : ℕ) (v w : View) → IsSeat views i v
    → ImagePart bucket_of good base generation log words settled views → ImagePart bucket_of good base generation log words settled (joined_views views i v j w)

abbrev pub JoinKeepsOwn : (List ℕ → ℕ → Option (Sa × ℕ)) → Type 0
JoinKeepsOwn lists =
    (start : Machine) (settled turns : List ℕ) (log : List Mark) (home : ℕ → Standing) (views : List View) (i j : ℕ) (v w : View) → IsSeat views i v
    → OwnPart lists start settled turns log home views → OwnPart lists start settled turns log home (joined_views views i v j w)

abbrev pub JoinKeepsPins : (ℕ → ℕ) → Type 0
JoinKeepsPins id_place =
    (policies slots generation : ℕ) (words settled pins : List ℕ) (views : List View) (i j : ℕ) (v w : View) → IsSeat views i v
    → PinPart policies slots id_place generation words settled pins views → PinPart policies slots id_place generation words settled pins (joined_views views i v j w)

abbrev pub JoinKeepsAgain : Type 0
JoinKeepsAgain =
    (generation : ℕ) (log : List Mark) (views : List View) (i j : ℕ) (v w : View) → IsSeat views i v
    → AgainPart generation log views → AgainPart generation log (joined_views views i v j w)

abbrev pub JoinKeepsStale : (List ℕ → ℕ → Option (Sa × ℕ)) → (ℕ → ℕ) → Type 0
JoinKeepsStale lists id_place =
    (policies states : ℕ) (start : Machine) (log : List Mark) (settled : List ℕ) (views : List View) (i j : ℕ) (v w : View) → IsSeat views i v
    → StalePart lists id_place policies states start log settled views → StalePart lists id_place policies states start log settled (joined_views views i v j w)
