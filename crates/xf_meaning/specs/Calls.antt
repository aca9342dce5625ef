-- A call over words and values by someone who has the turn: what it knows before, and what it says after.
use Rattle.std.specs.Prelude.{◌≡◌, ℕ, ◌+◌, ◌<◌, true, List, [], ◌∷◌, length}
use Rattle.xf_types.specs.declared.call.Call.{Call}
use Rattle.xf_types.specs.declared.call.Reply.{Reply}
use Rattle.xf_types.specs.declared.call.Receipt.{Receipt}
use Rattle.xf_types.specs.ChangeIds.{ChangeIds, ids_after}
use Rattle.xf_types.specs.Machine.{Machine, Shown}
use Rattle.xf_types.specs.IsMachine.{IsMachine}
use Rattle.xf_local.specs.View.{standing_of as value_standing}
use Rattle.xf_rows.specs.Values.{Beside, at}
use Rattle.xf_rows.specs.Stands.{Stands}
use Rattle.xf_rows.specs.Replies.{Answers}
use Rattle.xf_views.specs.declared.view.SlotTurn.{SlotTurn}
use Rattle.xf_invariant.specs.Meaning.{told}
use Rattle.xf_invariant.specs.PinPart.{Has}
use Rattle.xf_ownpart.specs.OwnPart.{standing_of}
use Rattle.xf_legalpart.specs.Honest.{HasKept, ListsKept}
use Rattle.xf_meaning.specs.Places.{layout_of}
use Rattle.xf_meaning.specs.Marks.{bucket_of, AreIds}
use Rattle.xf_meaning.specs.Good.{Good}
use Rattle.xf_meaning.specs.Tells.{lists}
use Rattle.xf_meaning.specs.Beside.{MarksStand}

-- there is a value for each slot of a state, and one whose turn is held is one of these turns and stands for what the turn keeps
pub record AreKept (p s : ℕ) (turns : List SlotTurn) (b : Beside) : Type 0 where
  pub count : length b.values ≡ s
  pub held : (slot : ℕ) → slot < s → b.held slot ≡ true → (e : SlotTurn) × Has turns e × (e.slot ≡ p + slot) × (value_standing (at b slot) ≡ standing_of e.listed)

-- the image stands for what this machine shows, and its slots' turns keep what the image lists, with the machine's own parts
pub record IsKnown (p s : ℕ) (image : List ℕ) (turns : List SlotTurn) (m : Machine) (ids : ChangeIds) : Type 0 where
  pub good : Good p s image (told m.shown ids)
  pub machine : IsMachine m
  pub kept : HasKept turns m
  pub listed : ListsKept (Good p s) (lists p s) image turns

-- whatever machine words and values stood for, the call's reply is one that it may give, and they stand for the machine after it
abbrev pub AnswersAll : ℕ → ℕ → List ℕ → Beside → List ℕ → Beside → Call → Reply → Type 0
AnswersAll p s old b new c call reply = (m : Machine) → Stands (layout_of p s) old b m → Answers (layout_of p s) new c m call reply

-- the statuses are right, and the ids count this move
pub record AreMoved (p s : ℕ) (old new : List ℕ) (shown : Shown) (r : Receipt) : Type 0 where
  pub size : length new ≡ length old
  pub marks : MarksStand p s new
  pub ids : (ids : ChangeIds) → AreIds p s old ids → AreIds p s new (ids_after bucket_of shown ids (r ∷ []))
