-- From a pass at rest to its next rest, by way of the turn of one slot.
use Rattle.std.specs.Prelude.{if◌then◌else◌}
use Rattle.std.proofs.Common.{◌≡◌, inl, inr, ℕ, ◌+◌, ◌==◌, not, cond, Bool, false, List, [], ◌∷◌, ◌++◌, filter, map, refl, sym, ap, ◌∙◌, subst, arith, Option, eq-eqb}
use Rattle.xf_types.specs.declared.call.Receipt.{Receipt}
use Rattle.xf_types.specs.History.{is_contended}
use Rattle.xf_types.specs.Moves.{is_moving}
use Rattle.xf_views.specs.declared.view.View.{View}
use Rattle.xf_views.specs.declared.view.SlotTurn.{SlotTurn}
use Rattle.xf_views.specs.declared.entry.Entry.{Entry}
use Rattle.xf_views.specs.Log.{receipt, AreBelow}
use Rattle.xf_meaning.specs.Good.{Good}
use Rattle.xf_meaning.specs.Tells.{lists}
use Rattle.xf_values.specs.declared.state_value.StateValue.{StateValue}
use Rattle.xf_live.specs.Passes.{LiveView, PassView}
use Rattle.xf_live.specs.Calls.{Took}
use Rattle.xf_live.specs.Values.{slots_in, slots_of_turns, without}
use Rattle.xf_desk.specs.Lending.{IsLent}
use Rattle.xf_desk.specs.TurnLaws.{stands_for}
use Rattle.xf_desk.specs.Values.{beside_of}
use Rattle.xf_rows.specs.Values.{Beside}
use Rattle.xf_serve.specs.Served.{HasSpare, Rests, words_before}
use Rattle.xf_serve.proofs.Runs.{IsAsked, below_seen}
use Rattle.xf_table.specs.Rows.{MayStay}
use Rattle.xf_move.specs.OnSlot.{IsAnsweredOn, IsOnSlot, SettledOn}
use Rattle.xf_views.specs.declared.view.Start.{Start}
use Rattle.xf_invariant.specs.Meaning.{told}
use Rattle.xf_rows.specs.Replies.{Answers}
use Rattle.xf_meaning.proofs.Calling.{known, reply_is}
use Rattle.xf_move.specs.Handled.{Handled, RepliesOne}
use Rattle.xf_move.specs.HandleLaws.{HandleLaws}
use Rattle.xf_move.proofs.OnSlot.{memory_or_not, no_exception}

pub on_slot : (l : LiveView) (a m q r : PassView StateValue) (place : ℕ) → IsAsked a m false → Took Good lists stands_for m place q → IsLent l.start.policies q r false
    → Beside.held (beside_of l.start r.values) ≡ Beside.held (beside_of l.start q.values) → IsOnSlot place a r
on_slot l a m q r place is took lent held =
    let same = lent.turns.same (λ j. ap (λ (h : ℕ → Bool). h j) held) in
    record {
      table = lent.table ∙ ap (λ (x : PassView StateValue). x.table) took.after ∙ is.table;
      room = lent.room ∙ ap (λ (x : PassView StateValue). x.room) took.after ∙ is.room;
      life = ap (λ (v : View). v.life) lent.stays ∙ ap (λ (x : PassView StateValue). x.view.life) took.after ∙ is.life;
      worker = ap (λ (v : View). v.worker) lent.stays ∙ ap (λ (x : PassView StateValue). x.view.worker) took.after ∙ is.worker;
      mine = ap (λ (v : View). v.knows.mine) lent.stays ∙ ap (λ (x : PassView StateValue). x.view.knows.mine) took.after ∙ is.mine;
      seen = ap (λ (v : View). v.knows.seen) lent.stays ∙ ap (λ (x : PassView StateValue). x.view.knows.seen) took.after ∙ is.seen;
      count = ap (λ (v : View). v.knows.count) lent.stays ∙ ap (λ (x : PassView StateValue). x.view.knows.count) took.after ∙ is.count;
      trial = ap (λ (v : View). v.hand.trial) lent.stays ∙ ap (λ (x : PassView StateValue). x.view.hand.trial) took.after ∙ is.trial;
      turn = lent.turn;
      shut = lent.opened;
      turns =
          ap (λ own. slots_of_turns own.turns) same.0 ∙ ap (λ (x : PassView StateValue). slots_of_turns x.view.own.turns) took.after
          ∙ ap (λ (ts : List SlotTurn). place ∷ slots_of_turns ts) is.turns;
      values =
          same.2 ∙ ap (λ (x : PassView StateValue). slots_in x.values) took.after ∙ ap (λ (xs : List (ℕ × Option StateValue)). place ∷ slots_in xs) is.values;
    }

-- ---- the one slot's turn is given back

none_left : (xs : List (ℕ × Option StateValue)) (place : ℕ) → slots_in xs ≡ place ∷ [] → without xs place ≡ []
none_left [] place e = absurd cc
none_left (x ∷ []) place e =
    let same : x.0 ≡ place = cc in ap (λ (b : Bool). cond (not b) (x ∷ []) []) (eq-eqb x.0 place same)
none_left (x ∷ y ∷ xs) place e = absurd cc

no_turn_left : (f : SlotTurn → SlotTurn) (keeps : (t : SlotTurn) → (f t).slot ≡ t.slot) (ts : List SlotTurn) (place : ℕ) → slots_of_turns ts ≡ place ∷ []
    → filter (λ t. not (t.slot == place)) (map f ts) ≡ []
no_turn_left f keeps [] place e = absurd cc
no_turn_left f keeps (x ∷ []) place e =
    let same : x.slot ≡ place = cc in ap (λ (b : Bool). cond (not b) (f x ∷ []) []) (eq-eqb (f x).slot place (keeps x ∙ same))
no_turn_left f keeps (x ∷ y ∷ xs) place e = absurd cc

pub may_stay_on : (place : ℕ) (a q : PassView StateValue) (e : Entry) → HasSpare a → IsOnSlot place a q → is_moving e.reply ≡ false → MayStay q.view e
may_stay_on place a q e spare is still = record {
  closed = record { turn = is.turn; shut = is.shut };
  trialless = is.trial;
  room = let early = spare.early in omega (arith, is.count, early);
  stays = still;
}

module _ (place : ℕ) (a q d : PassView StateValue) (e : Entry) (is : IsOnSlot place a q) (y : SettledOn place e q d) (still : is_moving e.reply ≡ false)
    (one : RepliesOne a.view.life.start.policies a.view.life.start.states q.view.image.words e.call e.reply) (settled : is_contended e.reply ≡ false) where
  words_now : words_before d.view e.reply ≡ q.view.image.words
  words_now =
      ap (λ (b : Bool). if b then d.view.image.kept else d.view.image.words) still
      ∙ (ap (λ (z : PassView StateValue). z.view.image.words) y.left ∙ ap (λ me. me.0.image.words) y.row.3.1)

  on_rests : Rests d
  on_rests = record {
    idle = record {
      ticket = ap (λ (z : PassView StateValue). z.view.hand.ticket) y.left;
      turn = ap (λ (z : PassView StateValue). z.view.hand.has_turn) y.left;
      shut = ap (λ (z : PassView StateValue). z.view.hand.writing) y.left ∙ (ap (λ me. me.0.hand.writing) y.row.3.1 ∙ is.shut);
      drawn = ap (λ (z : PassView StateValue). z.view.hand.drawn) y.left ∙ ap (λ me. me.0.hand.drawn) y.row.3.1;
      trial = ap (λ (z : PassView StateValue). z.view.hand.trial) y.left ∙ (ap (λ me. me.0.hand.trial) y.row.3.1 ∙ is.trial);
      slots =
          ap (λ (z : PassView StateValue). z.view.own.turns) y.left
          ∙ (ap (λ me. filter (λ (t : SlotTurn). not (t.slot == place)) me.0.own.turns) y.row.3.1 ∙ no_turn_left _ (λ t. refl) q.view.own.turns place is.turns);
    };
    values = ap (λ (z : PassView StateValue). z.values) y.left ∙ (ap (λ me. without me.1 place) y.row.3.1 ∙ none_left q.values place is.values);
  }

  pub handled : Handled e.at e.call a d
  handled = record {
    rests = on_rests;
    table = ap (λ (z : PassView StateValue). z.table) y.left ∙ (y.kept.table ∙ is.table);
    room = ap (λ (z : PassView StateValue). z.room) y.left ∙ (y.kept.room ∙ is.room);
    life = ap (λ (z : PassView StateValue). z.view.life) y.left ∙ (ap (λ me. me.0.life) y.row.3.1 ∙ is.life);
    worker = ap (λ (z : PassView StateValue). z.view.worker) y.left ∙ (ap (λ me. me.0.worker) y.row.3.1 ∙ is.worker);
    receipt = receipt y.number q.view.worker e;
    receipts =
        ap (λ (z : PassView StateValue). z.view.knows.mine) y.left
        ∙ (ap (λ me. me.0.knows.mine) y.row.3.1 ∙ ap (λ (rs : List Receipt). rs ++ receipt y.number q.view.worker e ∷ []) is.mine);
    at_is = refl;
    call_is = refl;
    worker_is = is.worker;
    later = subst (λ (rs : List Receipt). AreBelow y.number rs) is.mine y.row.2.own;
    after = subst (λ (rs : List Receipt). AreBelow y.number rs) is.seen (below_seen y.number q.view.knows.seen y.row.0 y.row.2.seen y.row.2.moves);
    seen = (
      y.row.2.seen.0,
      ap (λ (rs : List Receipt). rs ++ y.row.2.seen.0) (sym is.seen)
          ∙ (y.row.2.seen.1 ∙ sym (ap (λ (z : PassView StateValue). z.view.knows.seen) y.left ∙ ap (λ me. me.0.knows.seen) y.row.3.1)),
    );
    drawn =
        let drew : d.view.knows.count ≡ q.view.knows.count + 1 =
        ap (λ (z : PassView StateValue). z.view.knows.count) y.left ∙ ap (λ me. me.0.knows.count) y.row.3.1 in
        omega (arith, drew, is.count);
    settled = settled;
    replies = subst (λ (i : List ℕ). RepliesOne a.view.life.start.policies a.view.life.start.states i e.call e.reply) (sym words_now) one;
  }

-- ---- the reply

one_replies : (start : Start) (slot : ℕ) (q : PassView StateValue) (e : Entry) → IsAnsweredOn start slot q e
    → RepliesOne start.policies start.states q.view.image.words e.call e.reply
one_replies start slot q e x = record {
  told = told x.machine.shown x.ids;
  machine = x.machine;
  is = x.known.machine;
  shown = refl;
  good = x.known.good;
  reply_is = elim (memory_or_not e.reply) [
    | inl is ↦ inl is
    | inr some ↦
        inr
        (reply_is x.machine e.call e.reply
        (Answers.is_reply (x.answers x.machine (known start.policies start.states q.view.image.words q.view.own.turns x.before x.machine x.ids x.known x.kept)))
        (no_exception e.reply some x.settled))
  ];
}

pub handle_laws : HandleLaws
handle_laws = record { replies = one_replies; draws = may_stay_on; handled = handled }
