-- What is said of each step: it keeps the part on overtaken reads. And what that part says of a call that is given up.
use Rattle.std.specs.Prelude.{◌≡◌, ℕ, ◌+◌, ◌≤◌, true, false, List, [], ◌∷◌, ◌++◌, length, take, IsTrue, Option, Some, None}
use Rattle.std.proofs.Common.{set}
use Rattle.xf_types.specs.declared.call.Receipt.{Receipt}
use Rattle.xf_types.specs.declared.call.Reply.TheVariants as reply
use Rattle.xf_types.specs.declared.state.Sa.{Sa}
use Rattle.xf_types.specs.Machine.{Machine}
use Rattle.xf_types.specs.Moves.{is_moving}
use Rattle.xf_types.specs.History.{MayReply, may_be_again, beginning, moment_of}
use Rattle.xf_views.specs.declared.entry.Entry.{Entry}
use Rattle.xf_views.specs.declared.entry.Listed.{Listed}
use Rattle.xf_views.specs.declared.view.View.{View}
use Rattle.xf_views.specs.declared.view.Start.{Start}
use Rattle.xf_views.specs.declared.view.SlotTurn.{SlotTurn}
use Rattle.xf_views.specs.Hands.{is_same}
use Rattle.xf_views.specs.Starts.{first_views}
use Rattle.xf_views.specs.Log.{Mark, mark, receipt, receipts_of}
use Rattle.xf_views.specs.Views.{view_after_ticket, view_after_serving, view_after_begin, view_after_store, view_after_draw, view_after_trial, view_after_finish, view_after_leave, view_after_generation, view_after_load, view_after_pin, view_after_load_pin, view_after_take, view_after_miss, view_after_give}
use Rattle.xf_invariant.specs.Meaning.{Told}
use Rattle.xf_invariant.specs.ImageLaws.{Scene}
use Rattle.xf_legalpart.specs.AgainPart.{AgainPart}

abbrev pub AgainBegins : Type 0
AgainBegins = (made : ℕ) (start : Start) → AgainPart 0 [] (first_views start made)

-- the call is one that may be given up, after no more tries than the seat counted
pub record IsAgain (v : View) (r : Receipt) (tries : ℕ) : Type 0 where
  pub reply : r.reply ≡ reply.Again tries
  pub call : IsTrue (may_be_again r.call)
  pub least : 1 ≤ tries
  pub few : tries ≤ length v.knows.overtaken

module _ (bucket_of : Sa → ℕ) (good : List ℕ → Told → Type 0) where
  -- a moment at which the turn part, the image part and the part on overtaken reads hold, and a seat that makes the next step
  pub record Account (most : ℕ) (base : List ℕ) : Type 0 where
    pub scene : Scene bucket_of good most base
    pub again : AgainPart scene.numbers.generation scene.log scene.views

  -- the part holds after a step after which these are the generation, the log and what the seat knows
  abbrev pub HoldsAfter : (most : ℕ) (base : List ℕ) → Account most base → ℕ → List Mark → View → Type 0
  HoldsAfter most base c generation log v = AgainPart generation log (set c.scene.views c.scene.seat v)

  abbrev pub StaysAfter : (most : ℕ) (base : List ℕ) → Account most base → View → Type 0
  StaysAfter most base c v = HoldsAfter most base c c.scene.numbers.generation c.scene.log v

  abbrev pub BeginKeepsAgain : Type 0
  BeginKeepsAgain =
      (most : ℕ) (base : List ℕ) (c : Account most base) → HoldsAfter most base c (c.scene.numbers.generation + 1) c.scene.log (view_after_begin c.scene.view)

  abbrev pub FinishKeepsAgain : Type 0
  FinishKeepsAgain =
      (most : ℕ) (base : List ℕ) (c : Account most base) → HoldsAfter most base c (c.scene.numbers.generation + 1) c.scene.log (view_after_finish c.scene.view)

  pub record DrawKeepsAgain : Type 0 where
    -- a receipt that stands at once
    pub stands : (most : ℕ) (base : List ℕ) (c : Account most base) (moves_now : List Receipt) (one : Option ℕ) (e : Entry) (turns : List SlotTurn)
        → let r = receipt c.scene.numbers.draw c.scene.view.worker e in
        HoldsAfter most base c c.scene.numbers.generation (c.scene.log ++ mark c.scene.view.worker one (Some r) ∷ [])
        (view_after_draw c.scene.view (is_moving e.reply) moves_now r turns)
    -- a trial
    pub waits : (most : ℕ) (base : List ℕ) (c : Account most base) (moves_now : List Receipt)
        → HoldsAfter most base c c.scene.numbers.generation (c.scene.log ++ mark c.scene.view.worker None None ∷ [])
        (view_after_trial c.scene.view c.scene.numbers.draw moves_now)

  pub record LoadGenerationKeepsAgain : Type 0 where
    pub blank : (most : ℕ) (base : List ℕ) (c : Account most base) (moves_now : List Receipt) (turns : List SlotTurn)
        → StaysAfter most base c (view_after_generation c.scene.view c.scene.numbers.generation moves_now [] turns)
    pub settled : (most : ℕ) (base : List ℕ) (c : Account most base) (x : ℕ) (one : Option ℕ) (e : Entry) (moves_now : List Receipt) (turns : List SlotTurn)
        → c.scene.view.hand.trial ≡ Some x → is_moving e.reply ≡ false
        → let r = receipt x c.scene.view.worker e in
        HoldsAfter most base c c.scene.numbers.generation (set c.scene.log x (mark c.scene.view.worker one (Some r)))
        (view_after_generation c.scene.view c.scene.numbers.generation moves_now (r ∷ []) turns)

  pub record OthersKeepAgain : Type 0 where
    pub ticket : (most : ℕ) (base : List ℕ) (c : Account most base) (t : ℕ) → StaysAfter most base c (view_after_ticket c.scene.view t)
    pub serving : (most : ℕ) (base : List ℕ) (c : Account most base) (serving : ℕ) (words : List ℕ) → StaysAfter most base c (view_after_serving c.scene.view serving words)
    pub store : (most : ℕ) (base : List ℕ) (c : Account most base) (slots place word : ℕ) → StaysAfter most base c (view_after_store slots c.scene.view place word)
    pub leave : (most : ℕ) (base : List ℕ) (c : Account most base) → StaysAfter most base c (view_after_leave c.scene.view)
    pub load_word : (most : ℕ) (base : List ℕ) (c : Account most base) (place word : ℕ) → StaysAfter most base c (view_after_load c.scene.view place word)
    pub pin : (most : ℕ) (base : List ℕ) (c : Account most base) (pin : ℕ) → StaysAfter most base c (view_after_pin c.scene.view pin)
    pub load_pin : (most : ℕ) (base : List ℕ) (c : Account most base) (k pin : ℕ) → StaysAfter most base c (view_after_load_pin c.scene.view k pin)
    pub taken : (most : ℕ) (base : List ℕ) (c : Account most base) (slot : ℕ) (listed : Option Listed) → StaysAfter most base c (view_after_take c.scene.view slot listed)
    pub missed : (most : ℕ) (base : List ℕ) (c : Account most base) → StaysAfter most base c (view_after_miss c.scene.view)
    pub given : (most : ℕ) (base : List ℕ) (c : Account most base) (slot : ℕ) → StaysAfter most base c (view_after_give c.scene.view slot)

  pub record GivesUp : Type 0 where
    -- under the turn, after all receipts
    pub still : (most : ℕ) (base : List ℕ) (c : Account most base) (start : Machine) (r : Receipt) (tries : ℕ)
        → c.scene.view.hand.has_turn ≡ true → c.scene.view.hand.writing ≡ false → r.worker ≡ c.scene.view.worker → IsAgain c.scene.view r tries
        → MayReply (moment_of (beginning start) (receipts_of c.scene.log)) r r.reply
    -- a trial's receipt, at its place, where its read ends the same
    pub trial : (most : ℕ) (base : List ℕ) (c : Account most base) (start : Machine) (x : ℕ) (r : Receipt) (tries : ℕ)
        → c.scene.view.hand.trial ≡ Some x → is_same c.scene.view.hand.began c.scene.numbers.generation ≡ true → r.worker ≡ c.scene.view.worker → IsAgain c.scene.view r tries
        → MayReply (moment_of (beginning start) (receipts_of (take x c.scene.log))) r r.reply
