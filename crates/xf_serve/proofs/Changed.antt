-- A pass whose call changed the policies: its draw is honest, and it is served.
use Rattle.std.proofs.Common.{◌≡◌, ℕ, ◌+◌, ◌<◌, ◌≤◌, ◌^◌, Bool, true, false, List, [], ◌∷◌, ◌++◌, length, replicate, append_assoc, refl, sym, ap, ◌∙◌, subst, arith, inr}
use Rattle.std.specs.Prelude.{if◌then◌else◌}
use Rattle.std.proofs.lemmas.List.{length-replicate}
use Rattle.xf_types.specs.declared.call.Call.{Call}
use Rattle.xf_types.specs.declared.call.Call.TheVariants as call
use Rattle.xf_types.specs.declared.call.Place.{Place}
use Rattle.xf_types.specs.declared.call.Receipt.{Receipt}
use Rattle.xf_types.specs.declared.call.Reply.{Reply}
use Rattle.xf_types.specs.declared.call.Reply.TheVariants as reply
use Rattle.xf_types.specs.declared.policy.Thresholds.{Thresholds}
use Rattle.xf_types.specs.ChangeIds.{ChangeIds}
use Rattle.xf_types.specs.History.{is_contended}
use Rattle.xf_types.specs.IsMachine.{IsMachine}
use Rattle.xf_types.specs.Machine.{Machine, Shown}
use Rattle.xf_types.specs.Moves.{is_moving}
use Rattle.xf_types.specs.Steps.{step}
use Rattle.xf_laws.proofs.StepLemmas.{step-alone}
use Rattle.xf_local.specs.View.{Dead}
use Rattle.xf_rows.specs.Layouts.{Fits}
use Rattle.xf_rows.specs.Replies.{Answers}
use Rattle.xf_rows.specs.Values.{Beside}
use Rattle.xf_views.specs.declared.view.LifeView.{LifeView}
use Rattle.xf_views.specs.declared.view.SlotTurn.{SlotTurn}
use Rattle.xf_views.specs.declared.entry.Entry.{Entry}
use Rattle.xf_views.specs.Log.{receipt, AreBelow, IsFront}
use Rattle.xf_invariant.specs.Meaning.{Told}
use Rattle.xf_meaning.specs.Beside.{AreBeside}
use Rattle.xf_meaning.specs.Calls.{AreKept, IsKnown}
use Rattle.xf_meaning.specs.Good.{Good}
use Rattle.xf_meaning.specs.Marks.{bucket_of}
use Rattle.xf_meaning.specs.Places.{layout_of, size_of}
use Rattle.xf_meaning.specs.Tells.{lists}
use Rattle.xf_meaning.proofs.Calling.{ours, reply_is}
use Rattle.xf_meaning.proofs.GoodWords.{good_stands}
use Rattle.xf_table.specs.Rows.{MayMove, IsHonestMove}
use Rattle.xf_values.specs.declared.state_value.StateValue.{StateValue}
use Rattle.xf_live.specs.Passes.{LiveView, PassView, IsHere}
use Rattle.xf_live.specs.Calls.{Entered}
use Rattle.xf_desk.proofs.TurnLaws.{turn_laws}
use Rattle.xf_serve.specs.Served.{AreTold, HasSpare, IsTableOf, Rests, RepliesBy, Served, words_before}
use Rattle.xf_serve.specs.Settling.{SettledMove}
use Rattle.xf_desk.specs.Lending.{IsLent}
use Rattle.xf_desk.specs.Values.{beside_of}
use Rattle.xf_serve.specs.Changing.{PolicyMove, PolicyAnswer}
use Rattle.xf_serve.proofs.Answered.{IsAnswered, stored_nothing}
use Rattle.xf_serve.proofs.Policies.{OnlyPolicies, layout_fits, move_is_honest, or_right}
use Rattle.xf_serve.proofs.Runs.{IsAsked, asked, told_on_entry, policies_of_pass, states_of_pass, below_seen, no_turns}

-- ---- values of slots of which none is held

abbrev none_beside : ℕ → Beside
none_beside s = record { held = λ slot. false; values = replicate s Dead }

none_kept : (p s : ℕ) (turns : List SlotTurn) → AreKept p s turns (none_beside s)
none_kept p s turns = record { count = length-replicate s Dead; held = λ slot l h. absurd cc }

none_stands : (p s : ℕ) (image : List ℕ) (m : Machine) → AreBeside p s image m (none_beside s)
none_stands p s image m = record { count = length-replicate s Dead; held = λ slot l h. absurd cc }

-- ---- the reply

pub move_replies : (p s : ℕ) (old new : List ℕ) (c : Call) (r : Reply) → is_moving r ≡ true → PolicyMove p s old new c r
    → (t : Told) (m : Machine) → IsMachine m → Good p s old t → t.shown ≡ m.shown → r ≡ (step m c).reply
move_replies p s old new c r moving move t m is good shown =
    reply_is m c r (Answers.is_reply (move.answers (none_beside s) m (good_stands p s old t good m is shown (none_beside s) (none_stands p s old m)))) (ours r moving)

-- ---- what the pass knows and may draw

-- the pass after its body stored
pub record IsChanged (p s : ℕ) (a q : PassView StateValue) (e : Entry) : Type 0 where
  pub some : (1 ≤ p) × (1 ≤ s)
  pub most : (p ≤ 4096) × (s ≤ 8192)
  pub policies : a.view.life.start.policies ≡ p
  pub states : a.view.life.start.states ≡ s
  pub asked : IsAsked a q true
  pub free : a.view.own.turns ≡ []
  pub before : PassView StateValue
  pub entered : Entered Good lists a before
  pub kept : q.view.image.kept ≡ before.view.image.words
  pub moving : is_moving e.reply ≡ true
  pub move : PolicyMove p s before.view.image.words q.view.image.words e.call e.reply
  pub only : (m : Machine) → IsMachine m → e.reply ≡ (step m e.call).reply → OnlyPolicies m.shown e

module _ (p s : ℕ) (a q : PassView StateValue) (e : Entry) (x : IsChanged p s a q e) where
  told : AreTold a.view.life.start.policies a.view.life.start.states q.view.image.kept
  told = subst (λ (i : List ℕ). AreTold a.view.life.start.policies a.view.life.start.states i) (sym x.kept) (told_on_entry a x.before x.entered)

  move_now : PolicyMove a.view.life.start.policies a.view.life.start.states q.view.image.kept q.view.image.words e.call e.reply
  move_now =
      subst (λ (n : ℕ). PolicyMove n a.view.life.start.states q.view.image.kept q.view.image.words e.call e.reply) (sym x.policies)
      (subst (λ (n : ℕ). PolicyMove p n q.view.image.kept q.view.image.words e.call e.reply) (sym x.states)
      (subst (λ (i : List ℕ). PolicyMove p s i q.view.image.words e.call e.reply) (sym x.kept) x.move))

  image_is : x.entered.image ≡ q.view.image.kept
  image_is = sym (x.kept ∙ ap (λ (y : PassView StateValue). y.view.image.words) x.entered.after)

  -- a machine that the words stand for
  abbrev known : (m : Machine) × (ids : ChangeIds) × IsKnown a.view.life.start.policies a.view.life.start.states x.entered.image a.view.own.turns m ids
  known = turn_laws.known a.view.life.start x.entered.image a.view.own.turns x.entered.enters.stands

  machine : Machine
  machine = known.0

  knows : IsKnown q.view.life.start.policies q.view.life.start.states q.view.image.kept q.view.own.turns known.0 known.1
  knows =
      subst (λ (y : LifeView). IsKnown y.start.policies y.start.states q.view.image.kept q.view.own.turns known.0 known.1) (sym x.asked.life)
      (subst (λ (i : List ℕ). IsKnown a.view.life.start.policies a.view.life.start.states i q.view.own.turns known.0 known.1) image_is
      (subst (λ (ts : List SlotTurn). IsKnown a.view.life.start.policies a.view.life.start.states x.entered.image ts known.0 known.1) (x.free ∙ sym x.asked.turns) known.2))

  move_there : PolicyMove q.view.life.start.policies q.view.life.start.states q.view.image.kept q.view.image.words e.call e.reply
  move_there = subst (λ (y : LifeView). PolicyMove y.start.policies y.start.states q.view.image.kept q.view.image.words e.call e.reply) (sym x.asked.life) move_now

  policies_there : q.view.life.start.policies ≡ p
  policies_there = ap (λ (y : LifeView). y.start.policies) x.asked.life ∙ x.policies

  states_there : q.view.life.start.states ≡ s
  states_there = ap (λ (y : LifeView). y.start.states) x.asked.life ∙ x.states

  fits : Fits (layout_of q.view.life.start.policies q.view.life.start.states) (length q.view.image.kept)
  fits =
      subst (λ (n : ℕ). Fits (layout_of q.view.life.start.policies q.view.life.start.states) n) (sym knows.good.size)
      (subst (λ (n : ℕ). Fits (layout_of n q.view.life.start.states) (size_of n q.view.life.start.states)) (sym policies_there)
      (subst (λ (n : ℕ). Fits (layout_of p n) (size_of p n)) (sym states_there) (layout_fits p s x.some.0 x.most.0 x.some.1 x.most.1)))

  replied : e.reply ≡ (step known.0 e.call).reply
  replied =
      move_replies q.view.life.start.policies q.view.life.start.states q.view.image.kept q.view.image.words e.call e.reply x.moving move_there _ known.0 knows.machine knows.good refl

  pub changed_honestly : IsHonestMove bucket_of Good lists q.view e
  changed_honestly =
      move_is_honest q.view e (none_beside q.view.life.start.states) known.0 known.1 fits knows
      (none_kept q.view.life.start.policies q.view.life.start.states q.view.own.turns) x.moving move_there (x.only known.0 knows.machine replied)

  pub may_move : HasSpare a → MayMove q.view e
  may_move spare = record {
    opened = record { turn = x.asked.turn; opens = x.asked.opened; yet = x.asked.yet };
    trialless = x.asked.trial;
    room = let early : a.view.knows.count < 2 ^ 40 = spare.early in omega (arith, x.asked.count, early);
    moves = x.moving;
  }

  -- ---- what it is after its draw

  module _ (d : PassView StateValue) (y : SettledMove e q d) where
    words_now : words_before d.view e.reply ≡ q.view.image.kept
    words_now =
        ap (λ (b : Bool). if b then d.view.image.kept else d.view.image.words) x.moving
        ∙ (ap (λ (z : PassView StateValue). z.view.image.kept) y.left ∙ ap (λ me. me.0.image.kept) y.row.3.1)

    settled_rests : Rests d
    settled_rests = record {
      idle = record {
        ticket = ap (λ (z : PassView StateValue). z.view.hand.ticket) y.left;
        turn = ap (λ (z : PassView StateValue). z.view.hand.has_turn) y.left;
        shut = ap (λ (z : PassView StateValue). z.view.hand.writing) y.left;
        drawn = ap (λ (z : PassView StateValue). z.view.hand.drawn) y.left;
        trial = ap (λ (z : PassView StateValue). z.view.hand.trial) y.left ∙ (ap (λ me. me.0.hand.trial) y.row.3.1 ∙ x.asked.trial);
        slots = ap (λ (z : PassView StateValue). z.view.own.turns) y.left ∙ (ap (λ me. me.0.own.turns) y.row.3.1 ∙ no_turns _ q.view.own.turns x.asked.turns);
      };
      values = ap (λ (z : PassView StateValue). z.values) y.left ∙ (ap (λ me. me.1) y.row.3.1 ∙ x.asked.values);
    }

    calm : is_contended e.reply ≡ false
    calm = ap (λ (r : Reply). is_contended r) replied ∙ step-alone known.0 e.call

    abbrev r : Receipt
    r = receipt y.number q.view.worker e

    seen_now : IsFront a.view.knows.seen d.view.knows.seen
    seen_now = (
      y.row.2.seen.0 ++ r ∷ [],
      sym (append_assoc a.view.knows.seen y.row.2.seen.0 (r ∷ []))
          ∙ ap (λ (rs : List Receipt). (rs ++ y.row.2.seen.0) ++ r ∷ []) (sym x.asked.seen)
          ∙ ap (λ (rs : List Receipt). rs ++ r ∷ []) y.row.2.seen.1
          ∙ sym (ap (λ (z : PassView StateValue). z.view.knows.seen) y.left ∙ ap (λ me. me.0.knows.seen) y.row.3.1),
    )

    pub changed_served : Served e.at e.call a d
    changed_served = record {
      rests = settled_rests;
      table = ap (λ (z : PassView StateValue). z.table) y.left ∙ (y.kept.table ∙ x.asked.table);
      room = ap (λ (z : PassView StateValue). z.room) y.left ∙ (y.kept.room ∙ x.asked.room);
      life = ap (λ (z : PassView StateValue). z.view.life) y.left ∙ (ap (λ me. me.0.life) y.row.3.1 ∙ x.asked.life);
      worker = ap (λ (z : PassView StateValue). z.view.worker) y.left ∙ (ap (λ me. me.0.worker) y.row.3.1 ∙ x.asked.worker);
      receipt = receipt y.number q.view.worker e;
      receipts =
          ap (λ (z : PassView StateValue). z.view.knows.mine) y.left
          ∙ (ap (λ me. me.0.knows.mine) y.row.3.1 ∙ ap (λ (rs : List Receipt). rs ++ receipt y.number q.view.worker e ∷ []) x.asked.mine);
      at_is = refl;
      call_is = refl;
      worker_is = x.asked.worker;
      later = subst (λ (rs : List Receipt). AreBelow y.number rs) x.asked.mine y.row.2.own;
      after = subst (λ (rs : List Receipt). AreBelow y.number rs) x.asked.seen (below_seen y.number q.view.knows.seen y.row.0 y.row.2.seen y.row.2.moves);
      seen = seen_now;
      drawn =
          let drew : d.view.knows.count ≡ q.view.knows.count + 1 =
          ap (λ (z : PassView StateValue). z.view.knows.count) y.left ∙ ap (λ me. me.0.knows.count) y.row.3.1 in
          omega (arith, drew, x.asked.count);
      settled = calm;
      told = subst (λ (i : List ℕ). AreTold a.view.life.start.policies a.view.life.start.states i) (sym words_now) told;
      replies =
          subst (λ (i : List ℕ). RepliesBy a.view.life.start.policies a.view.life.start.states i e.call e.reply) (sym words_now)
          (inr (λ t m is good shown. move_replies a.view.life.start.policies a.view.life.start.states q.view.image.kept q.view.image.words e.call e.reply x.moving move_now t m is good shown));
    }

-- ---- from what the pass was when it was lent

pub changed : (p s : ℕ) (l : LiveView) (a b q : PassView StateValue) (e : Entry) → IsTableOf p s l → IsHere l a → Rests a → Entered Good lists a b
    → IsLent l.start.policies b q (is_moving e.reply) → beside_of l.start q.values ≡ beside_of l.start b.values → is_moving e.reply ≡ true
    → PolicyAnswer p s b.view.image.words q.view.image.words e.call e.reply
    → ((m : Machine) → IsMachine m → e.reply ≡ (step m e.call).reply → OnlyPolicies m.shown e) → IsChanged p s a q e
changed p s l a b q e base here rest enters lent beside moving answer only =
    let opened : IsLent l.start.policies b q true = subst (λ (w : Bool). IsLent l.start.policies b q w) moving lent in
    record {
      some = (base.some_policies, base.some_states);
      most = (base.most_policies, base.most_states);
      policies = policies_of_pass p s l a base here;
      states = states_of_pass p s l a base here;
      asked = asked l a b q true rest enters opened beside;
      free = rest.idle.slots;
      before = b;
      entered = enters;
      kept = opened.after refl;
      moving = moving;
      move = answer.moved moving;
      only = only;
    }

pub unchanged : (p s : ℕ) (l : LiveView) (a b q : PassView StateValue) (e : Entry) → IsTableOf p s l → IsHere l a → Rests a → Entered Good lists a b
    → IsLent l.start.policies b q (is_moving e.reply) → beside_of l.start q.values ≡ beside_of l.start b.values → is_moving e.reply ≡ false
    → PolicyAnswer p s b.view.image.words q.view.image.words e.call e.reply → IsAnswered a q e.call e.reply
unchanged p s l a b q e base here rest enters lent beside still answer =
    let shut : IsLent l.start.policies b q false = subst (λ (w : Bool). IsLent l.start.policies b q w) still lent in
    let says = answer.still still in
    stored_nothing p s l a b q e.call e.reply base here rest enters shut beside (record { still = still; settled = says.1 }) says.2

-- ---- the thresholds

only_set : (s : Shown) (at : Place) (set : Thresholds) → OnlyPolicies s (record { at = at; call = call.PolicySet set; reply = reply.Done })
only_set s at set = record { alone = refl; counted = λ n k. or_right _ true refl; states = refl; fresh = λ sid. refl }

pub set_only : (at : Place) (set : Thresholds) (r : Reply) (m : Machine) → IsMachine m → r ≡ (step m (call.PolicySet set)).reply
    → OnlyPolicies m.shown (record { at = at; call = call.PolicySet set; reply = r })
set_only at set r m is e = subst (λ (x : Reply). OnlyPolicies m.shown (record { at = at; call = call.PolicySet set; reply = x })) (sym e) (only_set m.shown at set)
