-- A pass from its rest to the turn, and from there to its next rest.
use Rattle.std.specs.Prelude.{if◌then◌else◌}
use Rattle.std.proofs.Common.{◌≡◌, ℕ, ◌+◌, Bool, true, false, List, [], ◌∷◌, ◌++◌, length, map, refl, sym, ap, ◌∙◌, subst, arith, Option, None}
use Rattle.xf_types.specs.declared.call.Receipt.{Receipt}
use Rattle.xf_types.specs.Moves.{is_moving}
use Rattle.xf_types.specs.History.{is_contended}
use Rattle.xf_views.specs.declared.view.View.{View}
use Rattle.xf_views.specs.declared.view.LifeView.{LifeView}
use Rattle.xf_views.specs.declared.view.SlotTurn.{SlotTurn}
use Rattle.xf_views.specs.declared.entry.Entry.{Entry}
use Rattle.xf_views.specs.Log.{receipt, AreBelow, IsFront}
use Rattle.xf_views.specs.Views.{view_after_leave}
use Rattle.xf_meaning.specs.Good.{Good}
use Rattle.xf_meaning.specs.Tells.{lists}
use Rattle.xf_values.specs.declared.state_value.StateValue.{StateValue}
use Rattle.xf_table.specs.Plays.{Stayed}
use Rattle.xf_live.specs.Passes.{LiveView, PassView, IsHere, IsKept, knowing, me_of}
use Rattle.xf_live.specs.Values.{slots_in}
use Rattle.xf_live.specs.Calls.{Entered}
use Rattle.xf_desk.specs.Lending.{IsLent, MayLend, AllHome}
use Rattle.xf_desk.specs.Values.{beside_of}
use Rattle.xf_rows.specs.Values.{Beside}
use Rattle.xf_serve.specs.Served.{AreTold, IsTableOf, Rests, RepliesBy, Served, words_before}

none_home : (values : List (ℕ × Option StateValue)) → values ≡ [] → AllHome values
none_home values is = subst (λ (xs : List (ℕ × Option StateValue)). AllHome xs) (sym is) (λ slot e. let no : ⊥ = cc in no)

none_in : (values : List (ℕ × Option StateValue)) → slots_in values ≡ [] → values ≡ []
none_in [] is = refl
none_in (x ∷ xs) is = absurd cc

-- ---- with the turn

pub lends : (p s : ℕ) (l : LiveView) (a b : PassView StateValue) → IsTableOf p s l → IsHere l a → Rests a → IsHere l b → Entered Good lists a b → MayLend l b
lends p s l a b base here rest there e = record {
  here = there;
  turn = ap (λ (x : PassView StateValue). x.view.hand.has_turn) e.after;
  shut = ap (λ (x : PassView StateValue). x.view.hand.writing) e.after ∙ rest.idle.shut;
  yet = ap (λ (x : PassView StateValue). x.view.hand.drawn) e.after ∙ rest.idle.drawn;
  size =
      ap (λ (x : PassView StateValue). length x.view.image.words) e.after
      ∙ (e.enters.size ∙ (ap (λ (x : LifeView). length x.start.words) here.life ∙ (base.words ∙ sym base.count)));
  home = none_home b.values (ap (λ (x : PassView StateValue). x.values) e.after ∙ rest.values);
}

-- The pass has the turn and didn't draw, and an opening or none. Else it is as it was at its rest, but for its ticket and the words that it knows.
pub record IsAsked (a q : PassView StateValue) (writing : Bool) : Type 0 where
  pub table : q.table ≡ a.table
  pub room : q.room ≡ a.room
  pub life : q.view.life ≡ a.view.life
  pub worker : q.view.worker ≡ a.view.worker
  pub mine : q.view.knows.mine ≡ a.view.knows.mine
  pub seen : q.view.knows.seen ≡ a.view.knows.seen
  pub count : q.view.knows.count ≡ a.view.knows.count + 1
  pub trial : q.view.hand.trial ≡ None
  pub turn : q.view.hand.has_turn ≡ true
  pub opened : q.view.hand.writing ≡ writing
  pub yet : q.view.hand.drawn ≡ false
  pub turns : q.view.own.turns ≡ []
  pub values : q.values ≡ []

pub asked : (l : LiveView) (a b q : PassView StateValue) (writing : Bool) → Rests a → Entered Good lists a b → IsLent l.start.policies b q writing
    → beside_of l.start q.values ≡ beside_of l.start b.values → IsAsked a q writing
asked l a b q writing rest e lent beside =
    let same = lent.turns.same (λ slot. ap (λ (x : Beside). x.held slot) beside) in
    record {
      table = lent.table ∙ ap (λ (x : PassView StateValue). x.table) e.after;
      room = lent.room ∙ ap (λ (x : PassView StateValue). x.room) e.after;
      life = ap (λ (v : View). v.life) lent.stays ∙ ap (λ (x : PassView StateValue). x.view.life) e.after;
      worker = ap (λ (v : View). v.worker) lent.stays ∙ ap (λ (x : PassView StateValue). x.view.worker) e.after;
      mine = ap (λ (v : View). v.knows.mine) lent.stays ∙ ap (λ (x : PassView StateValue). x.view.knows.mine) e.after;
      seen = ap (λ (v : View). v.knows.seen) lent.stays ∙ ap (λ (x : PassView StateValue). x.view.knows.seen) e.after;
      count = ap (λ (v : View). v.knows.count) lent.stays ∙ ap (λ (x : PassView StateValue). x.view.knows.count) e.after;
      trial = ap (λ (v : View). v.hand.trial) lent.stays ∙ (ap (λ (x : PassView StateValue). x.view.hand.trial) e.after ∙ rest.idle.trial);
      turn = lent.turn;
      opened = lent.opened;
      yet = lent.yet;
      turns = ap (λ own. own.turns) same.0 ∙ (ap (λ (x : PassView StateValue). x.view.own.turns) e.after ∙ rest.idle.slots);
      values = none_in q.values (same.2 ∙ ap (λ (xs : List (ℕ × Option StateValue)). slots_in xs) (ap (λ (x : PassView StateValue). x.values) e.after ∙ rest.values));
    }

-- what the words tell to one who has entered
pub told_on_entry : (a b : PassView StateValue) → Entered Good lists a b → AreTold a.view.life.start.policies a.view.life.start.states b.view.image.words
told_on_entry a b e =
    let stands = e.enters.stands in
    record {
      told = stands.told;
      machine = stands.machine;
      is = stands.is;
      shown = stands.shown;
      good =
          subst (λ (i : List ℕ). Good a.view.life.start.policies a.view.life.start.states i stands.told)
          (sym (ap (λ (x : PassView StateValue). x.view.image.words) e.after)) stands.stands;
    }

-- the numbers of slots are the table's
pub policies_of_pass : (p s : ℕ) (l : LiveView) (a : PassView StateValue) → IsTableOf p s l → IsHere l a → a.view.life.start.policies ≡ p
policies_of_pass p s l a base here = ap (λ (x : LifeView). x.start.policies) here.life ∙ base.policies_are

pub states_of_pass : (p s : ℕ) (l : LiveView) (a : PassView StateValue) → IsTableOf p s l → IsHere l a → a.view.life.start.states ≡ s
states_of_pass p s l a base here = ap (λ (x : LifeView). x.start.states) here.life ∙ base.states_are

-- ---- the receipt

below_front : (n : ℕ) (front rest : List Receipt) → AreBelow n (front ++ rest) → AreBelow n front
below_front n [] rest h = tt
below_front n (r ∷ front) rest h = (h.0, below_front n front rest h.1)

pub below_seen : (n : ℕ) (front whole : List Receipt) → IsFront front whole → AreBelow n whole → AreBelow n front
below_seen n front whole is h = below_front n front is.0 (subst (λ (rs : List Receipt). AreBelow n rs) (sym is.1) h)

pub no_turns : (f : SlotTurn → SlotTurn) (turns : List SlotTurn) → turns ≡ [] → map f turns ≡ []
no_turns f turns is = ap (λ (ts : List SlotTurn). map f ts) is

-- what was drawn without a move, and how the turn was left
pub record IsLeft (e : Entry) (a d : PassView StateValue) : Type 0 where
  pub asked : PassView StateValue
  pub is : IsAsked a asked false
  pub drawn : PassView StateValue
  pub number : ℕ
  pub kept : IsKept asked drawn
  pub stayed : Stayed Good lists e number (me_of asked) (me_of drawn)
  pub left : d ≡ knowing drawn (view_after_leave drawn.view)
  pub still : is_moving e.reply ≡ false
  pub settled : is_contended e.reply ≡ false
  pub told : AreTold a.view.life.start.policies a.view.life.start.states asked.view.image.words
  pub replies : RepliesBy a.view.life.start.policies a.view.life.start.states asked.view.image.words e.call e.reply

module _ (e : Entry) (a d : PassView StateValue) (x : IsLeft e a d) where
  words_now : words_before d.view e.reply ≡ x.asked.view.image.words
  words_now =
      ap (λ (b : Bool). if b then d.view.image.kept else d.view.image.words) x.still
      ∙ (ap (λ (y : PassView StateValue). y.view.image.words) x.left ∙ ap (λ me. me.0.image.words) x.stayed.3.1)

  pub left_rests : Rests d
  left_rests = record {
    idle = record {
      ticket = ap (λ (y : PassView StateValue). y.view.hand.ticket) x.left;
      turn = ap (λ (y : PassView StateValue). y.view.hand.has_turn) x.left;
      shut = ap (λ (y : PassView StateValue). y.view.hand.writing) x.left ∙ (ap (λ me. me.0.hand.writing) x.stayed.3.1 ∙ x.is.opened);
      drawn = ap (λ (y : PassView StateValue). y.view.hand.drawn) x.left ∙ ap (λ me. me.0.hand.drawn) x.stayed.3.1;
      trial = ap (λ (y : PassView StateValue). y.view.hand.trial) x.left ∙ (ap (λ me. me.0.hand.trial) x.stayed.3.1 ∙ x.is.trial);
      slots = ap (λ (y : PassView StateValue). y.view.own.turns) x.left ∙ (ap (λ me. me.0.own.turns) x.stayed.3.1 ∙ no_turns _ x.asked.view.own.turns x.is.turns);
    };
    values = ap (λ (y : PassView StateValue). y.values) x.left ∙ (ap (λ me. me.1) x.stayed.3.1 ∙ x.is.values);
  }

  pub left_served : Served e.at e.call a d
  left_served = record {
    rests = left_rests;
    table = ap (λ (y : PassView StateValue). y.table) x.left ∙ (x.kept.table ∙ x.is.table);
    room = ap (λ (y : PassView StateValue). y.room) x.left ∙ (x.kept.room ∙ x.is.room);
    life = ap (λ (y : PassView StateValue). y.view.life) x.left ∙ (ap (λ me. me.0.life) x.stayed.3.1 ∙ x.is.life);
    worker = ap (λ (y : PassView StateValue). y.view.worker) x.left ∙ (ap (λ me. me.0.worker) x.stayed.3.1 ∙ x.is.worker);
    receipt = receipt x.number x.asked.view.worker e;
    receipts =
        ap (λ (y : PassView StateValue). y.view.knows.mine) x.left
        ∙ (ap (λ me. me.0.knows.mine) x.stayed.3.1 ∙ ap (λ (rs : List Receipt). rs ++ receipt x.number x.asked.view.worker e ∷ []) x.is.mine);
    at_is = refl;
    call_is = refl;
    worker_is = x.is.worker;
    later = subst (λ (rs : List Receipt). AreBelow x.number rs) x.is.mine x.stayed.2.own;
    after =
        subst (λ (rs : List Receipt). AreBelow x.number rs) x.is.seen
        (below_seen x.number x.asked.view.knows.seen x.stayed.0 x.stayed.2.seen x.stayed.2.moves);
    seen = (
      x.stayed.2.seen.0,
      ap (λ (rs : List Receipt). rs ++ x.stayed.2.seen.0) (sym x.is.seen)
          ∙ (x.stayed.2.seen.1 ∙ sym (ap (λ (y : PassView StateValue). y.view.knows.seen) x.left ∙ ap (λ me. me.0.knows.seen) x.stayed.3.1)),
    );
    drawn =
        let drew : d.view.knows.count ≡ x.asked.view.knows.count + 1 =
        ap (λ (y : PassView StateValue). y.view.knows.count) x.left ∙ ap (λ me. me.0.knows.count) x.stayed.3.1 in
        omega (arith, drew, x.is.count);
    settled = x.settled;
    told = subst (λ (i : List ℕ). AreTold a.view.life.start.policies a.view.life.start.states i) (sym words_now) x.told;
    replies = subst (λ (i : List ℕ). RepliesBy a.view.life.start.policies a.view.life.start.states i e.call e.reply) (sym words_now) x.replies;
  }
