-- A receipt for the state in one slot: it is honest, and the slot's turn may be given back after it.
use Rattle.std.proofs.Common.{◌≡◌, ◌≢◌, ◌⊎◌, inl, inr, ℕ, ◌+◌, true, false, List, map, refl, sym, ap, ◌∙◌, subst, Option}
use Rattle.xf_types.specs.declared.call.Receipt.{Receipt}
use Rattle.xf_types.specs.declared.call.Reply.{Reply}
use Rattle.xf_types.specs.declared.call.Reply.TheVariants as reply
use Rattle.xf_types.specs.History.{is_contended, is_exception}
use Rattle.xf_types.specs.Machine.{Shown}
use Rattle.xf_late.specs.Rests.{rests_on}
use Rattle.xf_views.specs.declared.entry.Entry.{Entry}
use Rattle.xf_views.specs.declared.view.SlotTurn.{SlotTurn}
use Rattle.xf_views.specs.Log.{receipt}
use Rattle.xf_ownpart.specs.Turns.{touched_turn}
use Rattle.xf_meaning.specs.Calls.{AreKept}
use Rattle.xf_meaning.specs.Good.{Good}
use Rattle.xf_meaning.specs.Marks.{bucket_of}
use Rattle.xf_meaning.specs.Tells.{lists}
use Rattle.xf_meaning.proofs.Calling.{shown_same, still_honest}
use Rattle.xf_meaning.proofs.Moving.{touched_values}
use Rattle.xf_table.specs.Rows.{IsHonestStay, MayStay}
use Rattle.xf_table.specs.Plays.{Stayed}
use Rattle.xf_values.specs.declared.state_value.StateValue.{StateValue}
use Rattle.xf_live.specs.Passes.{PassView, me_of}
use Rattle.xf_live.specs.Calls.{Returns}
use Rattle.xf_live.specs.Values.{home_at}
use Rattle.xf_desk.specs.TurnLaws.{stands_for}
use Rattle.xf_desk.specs.Turns.{StandsFor}
use Rattle.xf_desk.specs.Values.{beside_of}
use Rattle.xf_desk.proofs.TurnLaws.{turn_laws}
use Rattle.xf_move.specs.OnSlot.{IsAnsweredOn}

pub memory_or_not : (r : Reply) → (r ≡ reply.NoMemory) ⊎ (r ≢ reply.NoMemory)
memory_or_not reply.NoMemory = inl refl
memory_or_not _ = inr (λ e. absurd cc)

pub no_exception : (r : Reply) → r ≢ reply.NoMemory → is_contended r ≡ false → is_exception r ≡ false
no_exception reply.NoMemory some settled = absurd (some refl)
no_exception other some settled = settled

pub on_slot_honest : (slot : ℕ) (q : PassView StateValue) (e : Entry) → IsAnsweredOn q.view.life.start slot q e → IsHonestStay bucket_of Good lists q.view e
on_slot_honest slot q e x = elim (memory_or_not e.reply) [
  | inl is ↦ inl is
  | inr some ↦
      inr (λ n k.
      still_honest q.view.life.start.policies q.view.life.start.states q.view x.before (beside_of q.view.life.start q.values) x.machine x.ids (receipt n k e)
      x.known x.kept (no_exception e.reply some x.settled) x.answers x.for)
]

module _ (slot n : ℕ) (q d : PassView StateValue) (e : Entry) (x : IsAnsweredOn q.view.life.start slot q e) (y : Stayed Good lists e n (me_of q) (me_of d)) where
  abbrev r : Receipt
  r = receipt n q.view.worker e

  abbrev one : Option ℕ
  one = y.1

  one_is : one ≡ rests_on x.machine.shown r
  one_is =
      y.3.0.rests
      ∙ ap (λ (s : Shown). rests_on s r)
      (sym (shown_same q.view.life.start.policies q.view.life.start.states q.view.image.words q.view.own.turns x.before x.machine x.ids x.known x.kept y.3.0.told y.3.0.is y.3.0.stands))

  turns_now : d.view.own.turns ≡ map (touched_turn (rests_on x.machine.shown r) e.call) q.view.own.turns
  turns_now = ap (λ me. me.0.own.turns) y.3.1 ∙ ap (λ (o : Option ℕ). map (touched_turn o e.call) q.view.own.turns) one_is

  kept_now : AreKept q.view.life.start.policies q.view.life.start.states (map (touched_turn (rests_on x.machine.shown r) e.call) q.view.own.turns) (beside_of q.view.life.start q.values)
  kept_now =
      touched_values q.view.life.start.policies q.view.life.start.states q.view.image.words q.view.own.turns x.before (beside_of q.view.life.start q.values) x.machine x.ids r
      x.known x.kept x.same x.answers

  stands_now : StandsFor d.view.own.turns q.values (q.view.life.start.policies + slot)
  stands_now =
      subst (λ (ts : List SlotTurn). StandsFor ts q.values (q.view.life.start.policies + slot)) (sym turns_now)
      (turn_laws.home q.view.life.start (map (touched_turn (rests_on x.machine.shown r) e.call) q.view.own.turns) q.values slot kept_now x.home x.below x.held)

  pub may_return : MayStay q.view e → Returns stands_for d (q.view.life.start.policies + slot)
  may_return may = record {
    trialless = ap (λ me. me.0.hand.trial) y.3.1 ∙ may.trialless;
    drew = λ writes. absurd (let no : true ≡ false = sym writes ∙ ap (λ me. me.0.hand.writing) y.3.1 ∙ may.closed.shut in cc);
    turn = stands_now.turn;
    held = stands_now.held;
    slot_is = stands_now.slot_is;
    value = stands_now.value;
    home = ap (λ (xs : List (ℕ × Option StateValue)). home_at xs (q.view.life.start.policies + slot)) (ap (λ me. me.1) y.3.1) ∙ stands_now.home;
    stands = stands_now.stands;
  }
