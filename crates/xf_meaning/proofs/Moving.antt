-- What is known after a call over words and values.
use Rattle.std.proofs.Common.{◌≡◌, ℕ, zero, suc, ◌+◌, Bool, true, false, List, [], ◌∷◌, map, cond, refl, sym, ap, ◌∙◌, subst, Contains, Option, Some, None, option_map, inl, inr, eq-eqb, ne_eqb}
use Rattle.std.proofs.lemmas.Bool.{cases_Bool}
use mathlib.Core.Option.{some, some-injective, some-ne-none}
use mathlib.Core.Logic.{dite}
use native.Mathlib.Decide.{ℕ_discrete}
use lib.ListN.{get_elem?}
use Rattle.xf_types.specs.declared.call.Call.{Call}
use Rattle.xf_types.specs.declared.call.Receipt.{Receipt}
use Rattle.xf_types.specs.declared.state.Sa.{Sa}
use Rattle.xf_types.specs.ChangeIds.{ChangeIds, ids_after}
use Rattle.xf_types.specs.Machine.{Machine, Own, Shown}
use Rattle.xf_types.specs.IsMachine.{IsMachine, IsShownPart}
use Rattle.xf_types.specs.Moves.{is_moving, after_move}
use Rattle.xf_types.specs.History.{is_exception, machine_next}
use Rattle.xf_types.specs.OwnParts.{own_in, new_own}
use Rattle.xf_types.specs.Steps.{step}
use Rattle.xf_laws.specs.LeaveLaws.{is_listed}
use Rattle.xf_laws.proofs.ChangeLemmas.{receipt-moved}
use Rattle.xf_late.specs.Rests.{rests_on, own_touched}
use Rattle.xf_late.proofs.Owns.{own-stays, own-comes}
use Rattle.xf_rows.specs.Values.{Beside}
use Rattle.xf_rows.specs.Stands.{Stands}
use Rattle.xf_rows.specs.Replies.{Answers, machine_left}
use Rattle.xf_rows.proofs.Reading.{shown_told}
use Rattle.xf_views.specs.declared.entry.Listed.{Listed}
use Rattle.xf_views.specs.declared.view.View.{View}
use Rattle.xf_views.specs.declared.view.SlotTurn.{SlotTurn}
use Rattle.xf_invariant.specs.Meaning.{Told, told, told_after}
use Rattle.xf_invariant.specs.PinPart.{Has}
use Rattle.xf_ownpart.specs.Lists.{ListsStates}
use Rattle.xf_ownpart.specs.OwnPart.{listing, listed_at, standing_of, with_own}
use Rattle.xf_ownpart.specs.Turns.{KeepsSlots, own_moved, moved_turn, touched, touched_turn}
use Rattle.xf_ownpart.proofs.Haves.{has_map}
use Rattle.xf_ownpart.proofs.Slots.{nothing, listed-one, touched-slot}
use Rattle.xf_meaning.specs.Places.{layout_of}
use Rattle.xf_meaning.specs.Marks.{bucket_of, AreIds}
use Rattle.xf_meaning.specs.Good.{Good}
use Rattle.xf_meaning.specs.Tells.{lists}
use Rattle.xf_meaning.specs.Beside.{AreBeside}
use Rattle.xf_meaning.specs.Calls.{AreKept, IsKnown, AnswersAll, AreMoved}
use Rattle.xf_meaning.proofs.Listing.{listing as slot_listing}
use Rattle.xf_meaning.proofs.GoodWords.{stands_good, good_marks, certain, shown_is}
use Rattle.xf_meaning.proofs.Values.{stands_beside}
use Rattle.xf_meaning.proofs.Calling.{AreListed, kept_listed, has_kept, lists_kept, known, ours, reply_is}

-- ---- what a move makes of a slot

own_same : (one : Option ℕ) (c : Call) (l : Listed) (x : Sa) → l.state.sid ≡ x.sid → own_moved one c (Some l) x ≡ own_touched one c l.time l.state l.own
own_same one c l x same = ap (λ (b : Bool). cond b (own_touched one c l.time l.state l.own) (new_own x.spec)) (eq-eqb l.state.sid x.sid same)

own_other : (one : Option ℕ) (c : Call) (l : Listed) (x : Sa) → (l.state.sid ≡ x.sid → ⊥) → own_moved one c (Some l) x ≡ new_own x.spec
own_other one c l x other = ap (λ (b : Bool). cond b (own_touched one c l.time l.state l.own) (new_own x.spec)) (ne_eqb l.state.sid x.sid other)

abbrev sid_of : Option (Sa × ℕ) → ℕ
sid_of None = 0
sid_of (Some y) = y.0.sid

module _ (p s : ℕ) (old new : List ℕ) (turns : List SlotTurn) (m : Machine) (r : Receipt) (is : IsMachine m)
    (before : ListsStates (lists p s) old m.shown) (after : ListsStates (lists p s) new (machine_next m r).shown) (keeps : KeepsSlots (lists p s) turns old new) where
  abbrev next : Machine
  next = machine_next m r

  abbrev one : Option ℕ
  one = rests_on m.shown r

  is_new : (slot : ℕ) (x : Sa × ℕ) → lists p s new slot ≡ Some x → ((y : Sa × ℕ) → lists p s old slot ≡ Some y → y.0.sid ≡ x.0.sid → ⊥) → own_in next x.0 ≡ new_own x.0.spec
  is_new slot x there other = elim (cases_Bool (is_listed x.0.sid m.shown.states)) [
    | inl listed ↦
        let y = listed-one x.0.sid m.shown.states listed in
        let z = before.placed y.0 y.1 in
        let q : Sa × ℕ = (y.0, m.shown.time) in
        let same : z.0 ≡ slot = keeps.stays z.0 slot q x z.1 there y.2 in
        absurd (other q (ap (λ (k : ℕ). lists p s old k) (sym same) ∙ z.1) y.2)
    | inr none ↦ own-comes m r x.0 is (after.listed slot x there).0 none
  ]

  own_there : (slot : ℕ) (x : Sa × ℕ) → lists p s new slot ≡ Some x → own_in next x.0 ≡ own_moved one r.call (listed_at (lists p s) m old slot) x.0
  own_there slot x there = by (lists p s old slot) refl
    where
      by : (o : Option (Sa × ℕ)) → lists p s old slot ≡ o → own_in next x.0 ≡ own_moved one r.call (option_map (with_own m) o) x.0
      by None q = is_new slot x there (λ z k same. nothing z (sym q ∙ k))
      by (Some z) q = dite (ℕ_discrete z.0.sid x.0.sid)
          (λ same.
          own-stays m r x.0 z.0 is (before.listed slot z q).0 (after.listed slot x there).0 (sym same)
          ∙ ap (λ (time : ℕ). own_touched one r.call time z.0 (own_in m z.0)) (sym (before.listed slot z q).1)
          ∙ sym (own_same one r.call (with_own m z) x.0 same))
          (λ other.
          is_new slot x there (λ y k same. other (ap (λ (o : Option (Sa × ℕ)). sid_of o) (sym q ∙ k) ∙ same))
          ∙ sym (own_other one r.call (with_own m z) x.0 other))

  slot_moved : (slot : ℕ) → listed_at (lists p s) next new slot
      ≡ option_map (λ (x : Sa × ℕ). listing x.0 x.1 (own_moved one r.call (listed_at (lists p s) m old slot) x.0)) (lists p s new slot)
  slot_moved slot = by (lists p s new slot) refl
    where
      by : (o : Option (Sa × ℕ)) → lists p s new slot ≡ o
          → option_map (with_own next) o ≡ option_map (λ (x : Sa × ℕ). listing x.0 x.1 (own_moved one r.call (listed_at (lists p s) m old slot) x.0)) o
      by None q = refl
      by (Some x) q = ap (λ (own : Own). Some (listing x.0 x.1 own)) (own_there slot x q)

  -- so the turns keep what the new image lists
  pub turns_moved : AreListed p s old m turns → AreListed p s new next (map (moved_turn (lists p s) new one r.call) turns)
  turns_moved all = record {
    each = λ e there.
        let f = has_map (moved_turn (lists p s) new one r.call) turns e there in
        subst (λ (z : SlotTurn). listed_at (lists p s) next new z.slot ≡ z.listed) f.2
        (slot_moved f.0.slot ∙ ap (λ (o : Option Listed). option_map (λ (x : Sa × ℕ). listing x.0 x.1 (own_moved one r.call o x.0)) (lists p s new f.0.slot)) (all.each f.0 f.1));
  }

-- ---- a turn's slot stays

mapped_at : {A B : Type 0} (f : A → B) (xs : List A) (x : A) (k : ℕ) → get_elem? xs k ≡ some x → get_elem? (map f xs) k ≡ some (f x)
mapped_at f [] x k e = absurd (some-ne-none x (sym e))
mapped_at f (y ∷ ys) x zero e = ap (λ z. some (f z)) (some-injective y x e)
mapped_at f (y ∷ ys) x (suc k) e = mapped_at f ys x k e

has_mapped : {A B : Type 0} (f : A → B) (xs : List A) (x : A) → Has xs x → Has (map f xs) (f x)
has_mapped f xs x h = (h.0, mapped_at f xs x h.0 h.1)

-- the values after a call, where its turns keep what the words list
values_after : (p s : ℕ) (image : List ℕ) (turns : List SlotTurn) (f : SlotTurn → SlotTurn) (b c : Beside) (m : Machine) (ids : ChangeIds) → ((e : SlotTurn) → (f e).slot ≡ e.slot)
    → AreKept p s turns b → c.held ≡ b.held → Stands (layout_of p s) image c m → IsKnown p s image (map f turns) m ids → AreKept p s (map f turns) c
values_after p s image turns f b c m ids stays are same stands k =
    let beside : AreBeside p s image m c = stands_beside p s image c m ids stands (good_marks p s image (told m.shown ids) k.good) k.good.ids k.good.size in
    record {
      count = beside.count;
      held = λ slot l h.
          let e = are.held slot l (ap (λ (x : ℕ → Bool). x slot) (sym same) ∙ h) in
          let there : Has (map f turns) (f e.0) = has_mapped f turns e.0 e.1 in
          let place : (f e.0).slot ≡ p + slot = stays e.0 ∙ e.2 in (
            f e.0,
            there,
            place,
            beside.held slot l h ∙ ap (λ (j : ℕ). standing_of (listed_at (lists p s) m image j)) (sym place)
                ∙ ap (λ (o : Option Listed). standing_of o) (kept_listed p s image m (map f turns) k.kept k.listed (f e.0) there),
          );
    }

-- ---- moves

left_next : (m : Machine) (r : Receipt) → machine_left m r.call r.reply ≡ machine_next m r
left_next m r = refl

next_is : (m : Machine) (r : Receipt) → is_exception r.reply ≡ false → machine_next m r ≡ (step m r.call).machine
next_is m r e = ap (λ (b : Bool). cond b m (step m r.call).machine) e

module _ (p s : ℕ) (old new : List ℕ) (turns : List SlotTurn) (b c : Beside) (m : Machine) (ids : ChangeIds) (r : Receipt) (k : IsKnown p s old turns m ids) (are : AreKept p s turns b)
    (moving : is_moving r.reply ≡ true) (all : AnswersAll p s old b new c r.call r.reply) (moved : AreMoved p s old new m.shown r) where
  answer : Answers (layout_of p s) new c m r.call r.reply
  answer = all m (known p s old turns b m ids k are)

  stands : Stands (layout_of p s) new c (machine_next m r)
  stands = Answers.stands answer

  shown_next : (machine_next m r).shown ≡ after_move m.shown r.call r.reply
  shown_next =
      ap (λ (n : Machine). n.shown) (next_is m r (ours r.reply moving))
      ∙ receipt-moved m r (record { machine = k.machine; reply = reply_is m r.call r.reply (Answers.is_reply answer) (ours r.reply moving) })

  -- the new words are good, with whatever ids were told
  good_next : (i : ChangeIds) → AreIds p s old i → Good p s new (told (machine_next m r).shown (ids_after bucket_of m.shown i (r ∷ [])))
  good_next i are_ids = stands_good p s new c (machine_next m r) (ids_after bucket_of m.shown i (r ∷ [])) stands moved.marks (moved.ids i are_ids) (moved.size ∙ k.good.size)

  pub good_leads : (t : Told) → IsShownPart t.shown → Good p s old t → Good p s new (told_after bucket_of t r)
  good_leads t sh g =
      subst (λ (x : Shown). Good p s new (told (after_move x r.call r.reply) (ids_after bucket_of x t.ids (r ∷ [])))) (certain p s old (told m.shown ids) t k.machine.shown sh k.good g)
      (subst (λ (x : Shown). Good p s new (told x (ids_after bucket_of m.shown t.ids (r ∷ [])))) shown_next (good_next t.ids g.ids))

  pub known_next : KeepsSlots (lists p s) turns old new
      → IsKnown p s new (map (moved_turn (lists p s) new (rests_on m.shown r) r.call) turns) (machine_next m r) (ids_after bucket_of m.shown ids (r ∷ []))
  known_next keeps =
      let good : Good p s new (told (machine_next m r).shown (ids_after bucket_of m.shown ids (r ∷ []))) = good_next ids k.good.ids in
      let listed : AreListed p s new (machine_next m r) (map (moved_turn (lists p s) new (rests_on m.shown r) r.call) turns) =
      turns_moved p s old new turns m r k.machine (slot_listing p s old (told m.shown ids) k.machine.shown k.good)
      (slot_listing p s new (told (machine_next m r).shown (ids_after bucket_of m.shown ids (r ∷ []))) stands.machine.shown good) keeps
      (record { each = kept_listed p s old m turns k.kept k.listed }) in
      record {
        good = good;
        machine = stands.machine;
        kept = has_kept p s new (machine_next m r) (map (moved_turn (lists p s) new (rests_on m.shown r) r.call) turns) listed;
        listed = lists_kept p s new (machine_next m r) (map (moved_turn (lists p s) new (rests_on m.shown r) r.call) turns) listed;
      }

  pub values_next : c.held ≡ b.held → KeepsSlots (lists p s) turns old new → AreKept p s (map (moved_turn (lists p s) new (rests_on m.shown r) r.call) turns) c
  values_next same keeps =
      values_after p s new turns (moved_turn (lists p s) new (rests_on m.shown r) r.call) b c (machine_next m r) (ids_after bucket_of m.shown ids (r ∷ [])) (λ e. refl) are same stands
      (known_next keeps)

pub move_leads : (p s : ℕ) (v : View) (b c : Beside) (m : Machine) (ids : ChangeIds) (r : Receipt) → IsKnown p s v.image.kept v.own.turns m ids
    → AreKept p s v.own.turns b → is_moving r.reply ≡ true → AnswersAll p s v.image.kept b v.image.words c r.call r.reply
    → AreMoved p s v.image.kept v.image.words m.shown r
    → (t : Told) → IsShownPart t.shown → Good p s v.image.kept t → Good p s v.image.words (told_after bucket_of t r)
move_leads p s v b c m ids r k are moving all moved = good_leads p s v.image.kept v.image.words v.own.turns b c m ids r k are moving all moved

pub moved_known : (p s : ℕ) (old new : List ℕ) (turns : List SlotTurn) (b c : Beside) (m : Machine) (ids : ChangeIds) (r : Receipt) → IsKnown p s old turns m ids
    → AreKept p s turns b → is_moving r.reply ≡ true → AnswersAll p s old b new c r.call r.reply → AreMoved p s old new m.shown r → KeepsSlots (lists p s) turns old new
    → IsKnown p s new (map (moved_turn (lists p s) new (rests_on m.shown r) r.call) turns) (machine_next m r) (ids_after bucket_of m.shown ids (r ∷ []))
moved_known p s old new turns b c m ids r k are moving all moved keeps = known_next p s old new turns b c m ids r k are moving all moved keeps

pub moved_values : (p s : ℕ) (old new : List ℕ) (turns : List SlotTurn) (b c : Beside) (m : Machine) (ids : ChangeIds) (r : Receipt) → IsKnown p s old turns m ids
    → AreKept p s turns b → c.held ≡ b.held → is_moving r.reply ≡ true → AnswersAll p s old b new c r.call r.reply → AreMoved p s old new m.shown r
    → KeepsSlots (lists p s) turns old new
    → AreKept p s (map (moved_turn (lists p s) new (rests_on m.shown r) r.call) turns) c
moved_values p s old new turns b c m ids r k are same moving all moved keeps = values_next p s old new turns b c m ids r k are moving all moved same keeps

-- ---- other receipts

module _ (p s : ℕ) (image : List ℕ) (turns : List SlotTurn) (b c : Beside) (m : Machine) (ids : ChangeIds) (r : Receipt) (k : IsKnown p s image turns m ids) (are : AreKept p s turns b)
    (all : AnswersAll p s image b image c r.call r.reply) where
  stays : Stands (layout_of p s) image c (machine_next m r)
  stays = Answers.stands (all m (known p s image turns b m ids k are))

  shown_stays : m.shown ≡ (machine_next m r).shown
  shown_stays = shown_is p s image (told m.shown ids) k.machine.shown k.good ∙ sym (shown_told (layout_of p s) image c (machine_next m r) stays)

  own_stays : (x : Sa) → Contains m.shown.states x → own_in (machine_next m r) x ≡ own_touched (rests_on m.shown r) r.call m.shown.time x (own_in m x)
  own_stays x h = own-stays m r x x k.machine h (subst (λ (z : Shown). Contains z.states x) shown_stays h) refl

  turns_touched : AreListed p s image (machine_next m r) (map (touched_turn (rests_on m.shown r) r.call) turns)
  turns_touched = record {
    each = λ e there.
        let f = has_map (touched_turn (rests_on m.shown r) r.call) turns e there in
        subst (λ (z : SlotTurn). listed_at (lists p s) (machine_next m r) image z.slot ≡ z.listed) f.2
        (touched-slot (lists p s) m (machine_next m r) image (rests_on m.shown r) r.call (slot_listing p s image (told m.shown ids) k.machine.shown k.good) own_stays f.0.slot
        ∙ ap (option_map (touched (rests_on m.shown r) r.call)) (kept_listed p s image m turns k.kept k.listed f.0 f.1));
  }

  pub known_stays : IsKnown p s image (map (touched_turn (rests_on m.shown r) r.call) turns) (machine_next m r) ids
  known_stays = record {
    good = subst (λ (z : Shown). Good p s image (told z ids)) shown_stays k.good;
    machine = stays.machine;
    kept = has_kept p s image (machine_next m r) (map (touched_turn (rests_on m.shown r) r.call) turns) turns_touched;
    listed = lists_kept p s image (machine_next m r) (map (touched_turn (rests_on m.shown r) r.call) turns) turns_touched;
  }

  pub values_stay : c.held ≡ b.held → AreKept p s (map (touched_turn (rests_on m.shown r) r.call) turns) c
  values_stay same = values_after p s image turns (touched_turn (rests_on m.shown r) r.call) b c (machine_next m r) ids (λ e. refl) are same stays known_stays

pub touched_known : (p s : ℕ) (image : List ℕ) (turns : List SlotTurn) (b c : Beside) (m : Machine) (ids : ChangeIds) (r : Receipt) → IsKnown p s image turns m ids
    → AreKept p s turns b → AnswersAll p s image b image c r.call r.reply
    → IsKnown p s image (map (touched_turn (rests_on m.shown r) r.call) turns) (machine_next m r) ids
touched_known p s image turns b c m ids r k are all = known_stays p s image turns b c m ids r k are all

pub touched_values : (p s : ℕ) (image : List ℕ) (turns : List SlotTurn) (b c : Beside) (m : Machine) (ids : ChangeIds) (r : Receipt) → IsKnown p s image turns m ids
    → AreKept p s turns b → c.held ≡ b.held → AnswersAll p s image b image c r.call r.reply
    → AreKept p s (map (touched_turn (rests_on m.shown r) r.call) turns) c
touched_values p s image turns b c m ids r k are same all = values_stay p s image turns b c m ids r k are all same
