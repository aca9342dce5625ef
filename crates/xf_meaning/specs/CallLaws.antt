-- From a call over words and values to an honest receipt.
use Rattle.std.specs.Prelude.{◌≡◌, ℕ, ◌<◌, true, false, List, [], ◌∷◌, map}
use Rattle.xf_types.specs.declared.call.Receipt.{Receipt}
use Rattle.xf_types.specs.ChangeIds.{ChangeIds, ids_after}
use Rattle.xf_types.specs.Machine.{Machine}
use Rattle.xf_types.specs.IsMachine.{IsShownPart}
use Rattle.xf_types.specs.Moves.{is_moving}
use Rattle.xf_types.specs.History.{is_exception, machine_next}
use Rattle.xf_late.specs.Rests.{rests_on}
use Rattle.xf_local.specs.View.{LiveView, Live}
use Rattle.xf_rows.specs.Values.{Beside, at}
use Rattle.xf_rows.specs.Stands.{Stands}
use Rattle.xf_views.specs.declared.view.View.{View}
use Rattle.xf_views.specs.declared.view.SlotTurn.{SlotTurn}
use Rattle.xf_invariant.specs.Meaning.{Told, told_after}
use Rattle.xf_ownpart.specs.OwnPart.{listing}
use Rattle.xf_ownpart.specs.Turns.{Keeps, KeepsSlots, moved_turn, touched_turn}
use Rattle.xf_legalpart.specs.Honest.{IsForKept, MoveIsHonest, StillIsHonest}
use Rattle.xf_meaning.specs.Places.{layout_of}
use Rattle.xf_meaning.specs.Marks.{bucket_of}
use Rattle.xf_meaning.specs.Good.{Good}
use Rattle.xf_meaning.specs.Tells.{lists}
use Rattle.xf_meaning.specs.Calls.{AreKept, IsKnown, AnswersAll, AreMoved}

pub record CallLaws : Type 0 where
  -- words and values stand for the machine that is known
  pub known : (p s : ℕ) (image : List ℕ) (turns : List SlotTurn) (b : Beside) (m : Machine) (ids : ChangeIds) → IsKnown p s image turns m ids → AreKept p s turns b
      → Stands (layout_of p s) image b m
  -- a state whose value is one of these is kept
  pub keeps : (p s : ℕ) (turns : List SlotTurn) (b : Beside) (slot : ℕ) (l : LiveView) → AreKept p s turns b → slot < s → b.held slot ≡ true → at b slot ≡ Live l
      → Keeps turns (listing l.state l.time l.own)
  -- a move: its receipt is honest, and the new words stand for what it leads to
  pub moving : (p s : ℕ) (v : View) (b c : Beside) (m : Machine) (ids : ChangeIds) (r : Receipt) → IsKnown p s v.image.kept v.own.turns m ids
      → AreKept p s v.own.turns b → is_moving r.reply ≡ true → AnswersAll p s v.image.kept b v.image.words c r.call r.reply
      → IsForKept v.own.turns m.shown r.call → MoveIsHonest (Good p s) (lists p s) v r
  pub leads : (p s : ℕ) (v : View) (b c : Beside) (m : Machine) (ids : ChangeIds) (r : Receipt) → IsKnown p s v.image.kept v.own.turns m ids
      → AreKept p s v.own.turns b → is_moving r.reply ≡ true → AnswersAll p s v.image.kept b v.image.words c r.call r.reply
      → AreMoved p s v.image.kept v.image.words m.shown r
      → (t : Told) → IsShownPart t.shown → Good p s v.image.kept t → Good p s v.image.words (told_after bucket_of t r)
  -- another receipt under the turn
  pub still : (p s : ℕ) (v : View) (b c : Beside) (m : Machine) (ids : ChangeIds) (r : Receipt) → IsKnown p s v.image.words v.own.turns m ids
      → AreKept p s v.own.turns b → is_exception r.reply ≡ false → AnswersAll p s v.image.words b v.image.words c r.call r.reply
      → IsForKept v.own.turns m.shown r.call → StillIsHonest (Good p s) (lists p s) v r
  -- what is known afterwards, and that the values stand for what the turns keep then
  pub moved : (p s : ℕ) (old new : List ℕ) (turns : List SlotTurn) (b c : Beside) (m : Machine) (ids : ChangeIds) (r : Receipt) → IsKnown p s old turns m ids
      → AreKept p s turns b → is_moving r.reply ≡ true → AnswersAll p s old b new c r.call r.reply → AreMoved p s old new m.shown r → KeepsSlots (lists p s) turns old new
      → IsKnown p s new (map (moved_turn (lists p s) new (rests_on m.shown r) r.call) turns) (machine_next m r) (ids_after bucket_of m.shown ids (r ∷ []))
  pub moved_values : (p s : ℕ) (old new : List ℕ) (turns : List SlotTurn) (b c : Beside) (m : Machine) (ids : ChangeIds) (r : Receipt) → IsKnown p s old turns m ids
      → AreKept p s turns b → c.held ≡ b.held → is_moving r.reply ≡ true → AnswersAll p s old b new c r.call r.reply → AreMoved p s old new m.shown r
      → KeepsSlots (lists p s) turns old new
      → AreKept p s (map (moved_turn (lists p s) new (rests_on m.shown r) r.call) turns) c
  pub touched : (p s : ℕ) (image : List ℕ) (turns : List SlotTurn) (b c : Beside) (m : Machine) (ids : ChangeIds) (r : Receipt) → IsKnown p s image turns m ids
      → AreKept p s turns b → AnswersAll p s image b image c r.call r.reply
      → IsKnown p s image (map (touched_turn (rests_on m.shown r) r.call) turns) (machine_next m r) ids
  pub touched_values : (p s : ℕ) (image : List ℕ) (turns : List SlotTurn) (b c : Beside) (m : Machine) (ids : ChangeIds) (r : Receipt) → IsKnown p s image turns m ids
      → AreKept p s turns b → c.held ≡ b.held → AnswersAll p s image b image c r.call r.reply
      → AreKept p s (map (touched_turn (rests_on m.shown r) r.call) turns) c
