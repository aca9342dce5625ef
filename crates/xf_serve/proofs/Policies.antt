-- A call that changes policies alone, by a pass with the turn: what its words and its reply make of it.
use Rattle.std.proofs.Common.{◌≡◌, ℕ, ◌+◌, ◌≤◌, ◌&&◌, ◌||◌, ◌==◌, not, cond, Bool, true, false, List, [], ◌∷◌, ◌++◌, length, refl, sym, ap, ◌∙◌, arith, None, Some, inl, slice_index, filter, eq-eqb}
use Rattle.std.specs.List.{list_any}
use Rattle.xf_types.specs.declared.call.Call.{Call}
use Rattle.xf_types.specs.declared.call.Receipt.{Receipt}
use Rattle.xf_types.specs.declared.call.Reply.{Reply}
use Rattle.xf_types.specs.declared.state.Sa.{Sa}
use Rattle.xf_types.specs.ChangeIds.{ChangeIds, ids_after, bucket_ids_after, changes_policies, states_changed, is_listed_as, refreshes, same_flag}
use Rattle.xf_types.specs.Machine.{Machine, Shown}
use Rattle.xf_types.specs.Moves.{is_moving, after_move, state_found}
use Rattle.xf_types.specs.StateList.{has_sid}
use Rattle.xf_types.specs.Steps.{rule_of}
use Rattle.xf_sadimage.specs.States.{StatesStand}
use Rattle.xf_sadimage.proofs.Keeping as states
use Rattle.xf_sad.specs.Places.{KeepsPlaces}
use Rattle.xf_sad.proofs.Places.{keeps_is, keeps_all}
use Rattle.xf_sadidx.specs.Layout.{end_of}
use Rattle.xf_rows.specs.Layouts.{Fits}
use Rattle.xf_rows.specs.Stands.{Stands}
use Rattle.xf_rows.specs.Rows.{entries_in}
use Rattle.xf_rows.specs.Values.{Beside}
use Rattle.xf_views.specs.declared.view.View.{View}
use Rattle.xf_views.specs.declared.entry.Entry.{Entry}
use Rattle.xf_views.specs.declared.view.SlotTurn.{SlotTurn}
use Rattle.xf_invariant.specs.Meaning.{told}
use Rattle.xf_views.specs.Log.{receipt}
use Rattle.xf_legalpart.specs.Honest.{IsForKept}
use Rattle.xf_meaning.specs.Places.{layout_of, states_of, bucket_ids_place, size_of}
use Rattle.xf_meaning.specs.Marks.{bucket_of, AreIds}
use Rattle.xf_meaning.specs.Good.{Good}
use Rattle.xf_meaning.specs.Tells.{lists}
use Rattle.xf_meaning.specs.Beside.{MarksStand}
use Rattle.xf_meaning.specs.Calls.{AreKept, IsKnown, AreMoved}
use Rattle.xf_meaning.proofs.Calling.{known, move_honest}
use Rattle.xf_meaning.proofs.Moving.{move_leads}
use Rattle.xf_meaning.proofs.Keeping.{keeps_slots}
use Rattle.xf_meaning.proofs.GoodWords.{good_marks}
use Rattle.xf_table.specs.Rows.{IsHonestMove}
use Rattle.xf_serve.specs.Changing.{PolicyMove}

-- ---- the ids

-- The call is for no state and leaves all of them as they are, and the policies change.
pub record OnlyPolicies (s : Shown) (e : Entry) : Type 0 where
  pub alone : state_found (rule_of s e.call) ≡ None
  pub counted : (n k : ℕ) → changes_policies s (receipt n k e) ≡ true
  pub states : (after_move s e.call e.reply).states ≡ s.states
  pub fresh : (sid : ℕ) → refreshes e.call e.reply sid ≡ false

pub or_right : (a b : Bool) → b ≡ true → (a || b) ≡ true
or_right true b e = refl
or_right false b e = e

pub or_left : (a b : Bool) → a ≡ true → (a || b) ≡ true
or_left a b e = ap (λ (x : Bool). x || b) e

same_flag_self : (b : Bool) → same_flag b b ≡ true
same_flag_self true = refl
same_flag_self false = refl

-- each element of a list passes what itself passes, so none of them fails it
none_fails : (test : Sa → Sa → Bool) (also : Sa → Bool) → ((x : Sa) → test x x ≡ true) → ((x : Sa) → also x ≡ false) → (whole xs : List Sa)
    → ((g : Sa → Bool) → list_any g xs ≡ true → list_any g whole ≡ true) → filter (λ x. not (list_any (test x) whole) || also x) xs ≡ []
none_fails test also own off whole [] sub = refl
none_fails test also own off whole (x ∷ xs) sub =
    let found : list_any (test x) whole ≡ true = sub (test x) (or_left (test x x) (list_any (test x) xs) (own x)) in
    let rest : List Sa = filter (λ z. not (list_any (test z) whole) || also z) xs in
    ap (λ (b : Bool). cond (not b || also x) (x ∷ rest) rest) found
    ∙ ap (λ (b : Bool). cond b (x ∷ rest) rest) (off x)
    ∙ none_fails test also own off whole xs (λ g e. sub g (or_right (g x) (list_any g xs) e))

none_new : (test : Sa → Sa → Bool) → ((x : Sa) → test x x ≡ true) → (whole xs : List Sa)
    → ((g : Sa → Bool) → list_any g xs ≡ true → list_any g whole ≡ true) → filter (λ x. not (list_any (test x) whole)) xs ≡ []
none_new test own whole [] sub = refl
none_new test own whole (x ∷ xs) sub =
    let found : list_any (test x) whole ≡ true = sub (test x) (or_left (test x x) (list_any (test x) xs) (own x)) in
    let rest : List Sa = filter (λ z. not (list_any (test z) whole)) xs in
    ap (λ (b : Bool). cond (not b) (x ∷ rest) rest) found ∙ none_new test own whole xs (λ g e. sub g (or_right (g x) (list_any g xs) e))

has_own : (x : Sa) → has_sid x.sid x ≡ true
has_own x = eq-eqb x.sid x.sid refl

listed_own : (x : Sa) → (has_sid x.sid x && same_flag x.dying x.dying) ≡ true
listed_own x = ap (λ (b : Bool). b && same_flag x.dying x.dying) (has_own x) ∙ same_flag_self x.dying

module _ (s : Shown) (e : Entry) (only : OnlyPolicies s e) (n k : ℕ) where
  abbrev r : Receipt
  r = receipt n k e

  unchanged : states_changed s r ≡ []
  unchanged =
      ap (λ (xs : List Sa). filter (λ x. not (is_listed_as xs x) || refreshes e.call e.reply x.sid) s.states ++ filter (λ x. not (list_any (has_sid x.sid) s.states)) xs) only.states
      ∙ ap (λ (xs : List Sa). xs ++ filter (λ x. not (list_any (has_sid x.sid) s.states)) s.states)
      (none_fails (λ x y. has_sid x.sid y && same_flag x.dying y.dying) (λ x. refreshes e.call e.reply x.sid) listed_own (λ x. only.fresh x.sid) s.states s.states (λ g q. q))
      ∙ none_new (λ x y. has_sid x.sid y) has_own s.states s.states (λ g q. q)

  buckets_same : (bucket : ℕ) (ids : List ℕ) → bucket_ids_after bucket_of s (r ∷ []) bucket ids ≡ ids
  buckets_same bucket [] = refl
  buckets_same bucket (id ∷ ids) =
      let none : id + (0 + 0) ≡ id = omega arith in
      ap (λ (xs : List Sa). (id + (cond (list_any (λ x. bucket_of x == bucket) xs) 1 0 + 0)) ∷ bucket_ids_after bucket_of s (r ∷ []) (bucket + 1) ids) unchanged
      ∙ ap (λ (x : ℕ). x ∷ bucket_ids_after bucket_of s (r ∷ []) (bucket + 1) ids) none
      ∙ ap (λ (xs : List ℕ). id ∷ xs) (buckets_same (bucket + 1) ids)

  -- one change more of the policies, and none of a bucket
  pub ids_moved : (p t : ℕ) (old new : List ℕ) → PolicyMove p t old new e.call e.reply → (ids : ChangeIds) → AreIds p t old ids
      → AreIds p t new (ids_after bucket_of s ids (r ∷ []))
  ids_moved p t old new move ids are = record {
    of_policies =
        move.id ∙ ap (λ (x : ℕ). x + 1) are.of_policies ∙ sym (ap (λ (b : Bool). ids.of_policies + (cond b 1 0 + 0)) (only.counted n k));
    count = ap (λ (xs : List ℕ). length xs) (buckets_same 0 ids.of_buckets) ∙ are.count;
    of_buckets = λ bucket below.
        move.buckets (bucket_ids_place p t + bucket) (omega arith) ∙ are.of_buckets bucket below
        ∙ sym (ap (λ (xs : List ℕ). slice_index xs bucket) (buckets_same 0 ids.of_buckets));
  }

-- ---- the words

-- all lies in so many words
pub layout_fits : (p s : ℕ) → 1 ≤ p → p ≤ 4096 → 1 ≤ s → s ≤ 8192 → Fits (layout_of p s) (size_of p s)
layout_fits p s a b c d = record {
  policies = record {
    places = record { area = record { base = omega (arith, b, d); some = a; most = b }; after = omega arith; base = omega (arith, b, d) };
    words = omega arith;
    fits = omega (arith, b, d);
  };
  states = record { area = record { base = omega (arith, b, d); some = c; most = d }; words = omega arith; fits = omega (arith, b, d) };
  order = omega arith;
  behind = omega arith;
  clock = omega arith;
}

-- states keep their slots
places_kept : (p s : ℕ) (old new : List ℕ) (c : Call) (r : Reply) (b : Beside) (m : Machine) → Fits (layout_of p s) (length old) → Stands (layout_of p s) old b m
    → PolicyMove p s old new c r → KeepsPlaces (states_of p s) b.held old new
places_kept p s old new c r b m fits st move =
    let behind : end_of (states_of p s) ≤ (layout_of p s).clock = fits.behind in
    let es : List (ℕ × Sa) = entries_in st.rows in
    let now : StatesStand (states_of p s) new m.shown es =
    states.stands_kept (states_of p s) old new m.shown es fits.states (λ q h l. move.states q h (omega (arith, l, behind))) st.on_states in
    keeps_is (states_of p s) b.held old new m.shown m.shown es es st.on_states now (keeps_all b.held es m.shown st.on_states.listed st.machine.shown.states)

-- ---- an honest move

none_found : (turns : List SlotTurn) (s : Shown) (c : Call) → state_found (rule_of s c) ≡ None → IsForKept turns s c
none_found turns s c none x found = absurd (let e : None ≡ Some x = sym none ∙ found in cc)

module _ (v : View) (e : Entry) (b : Beside) (m : Machine) (ids : ChangeIds) (fits : Fits (layout_of v.life.start.policies v.life.start.states) (length v.image.kept))
    (knows : IsKnown v.life.start.policies v.life.start.states v.image.kept v.own.turns m ids) (keeps : AreKept v.life.start.policies v.life.start.states v.own.turns b)
    (moving : is_moving e.reply ≡ true) (move : PolicyMove v.life.start.policies v.life.start.states v.image.kept v.image.words e.call e.reply) (only : OnlyPolicies m.shown e) where
  abbrev p : ℕ
  p = v.life.start.policies

  abbrev s : ℕ
  s = v.life.start.states

  stood : Stands (layout_of p s) v.image.kept b m
  stood = known p s v.image.kept v.own.turns b m ids knows keeps

  marked : MarksStand p s v.image.words
  marked = move.marks (told m.shown ids) b m knows.good refl stood

  clock_same : slice_index v.image.words (layout_of p s).clock ≡ slice_index v.image.kept (layout_of p s).clock
  clock_same = move.states (layout_of p s).clock (omega arith) (omega arith)

  are_moved : (n k : ℕ) → AreMoved p s v.image.kept v.image.words m.shown (receipt n k e)
  are_moved n k = record { size = move.size; marks = marked; ids = ids_moved m.shown e only n k p s v.image.kept v.image.words move }

  pub move_is_honest : IsHonestMove bucket_of Good lists v e
  move_is_honest = record {
    answers = λ n k. move_honest p s v b b m ids (receipt n k e) knows keeps moving (move.answers b) (none_found v.own.turns m.shown e.call only.alone);
    leads = λ n k t is good. move_leads p s v b b m ids (receipt n k e) knows keeps moving (move.answers b) (are_moved n k) t is good;
    slots =
        keeps_slots p s v.image.kept v.image.words v.own.turns b (good_marks p s v.image.kept (told m.shown ids) knows.good) marked keeps
        (places_kept p s v.image.kept v.image.words e.call e.reply b m fits stood move) (inl clock_same);
  }
