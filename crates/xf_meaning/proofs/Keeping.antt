-- Words that keep the places of states keep what the table's slots list.
use Rattle.std.proofs.Common.{◌≡◌, ℕ, ◌+◌, ◌-◌, ◌<◌, Bool, true, false, List, [], ◌∷◌, refl, sym, ap, ◌∙◌, subst, arith, cond, Option, Some, None, option_map, inl, inr, eq-eqb, eqb-true, slice_index}
use Rattle.std.specs.Prelude.{◌==◌, ◌||◌}
use Rattle.std.proofs.lemmas.Option.{same_Some}
use Rattle.std.proofs.lemmas.List.Elements.{All-weaker}
use Rattle.xf_types.specs.declared.state.Sa.{Sa}
use Rattle.xf_chain.specs.Lists.{Misses}
use Rattle.xf_sadidx.specs.Layout.{record_at}
use Rattle.xf_sad.specs.Slots.{is_in, listed_in}
use Rattle.xf_sad.specs.Places.{state_in, KeepsPlaces}
use Rattle.xf_rows.specs.Values.{Beside}
use Rattle.xf_rows.specs.Readings.{state_slots}
use Rattle.xf_views.specs.declared.view.SlotTurn.{SlotTurn}
use Rattle.xf_ownpart.specs.Turns.{IsHeld, KeepsSlots}
use Rattle.xf_meaning.specs.Places.{states_of, layout_of}
use Rattle.xf_meaning.specs.Marks.{is_marked}
use Rattle.xf_meaning.specs.Tells.{state_there, lists}
use Rattle.xf_meaning.specs.Beside.{MarksStand}
use Rattle.xf_meaning.specs.Calls.{AreKept}
use Rattle.xf_meaning.specs.KeepLaws.{MayAge}
use Rattle.xf_meaning.proofs.Entries.{is_one_of, all_one, none_one}
use Rattle.xf_meaning.proofs.Marked.{Marked, marked_is, marked_says, told_true, told_false}

same_test : (k : ℕ) (xs : List ℕ) → is_in k xs ≡ is_one_of xs k
same_test k [] = refl
same_test k (x ∷ xs) = ap (λ (b : Bool). (x == k) || b) (same_test k xs)

-- a state with the time
abbrev with_time : ℕ → Sa → Sa × ℕ
with_time time x = (x, time)

module _ (p s : ℕ) (image : List ℕ) (marks : MarksStand p s image) where
  time : ℕ
  time = slice_index image (layout_of p s).clock

  in_chain : (k : ℕ) → is_in k (listed_in (states_of p s) image) ≡ true → slice_index image (p + k) ≡ 1
  in_chain k is =
      eqb-true (slice_index image (p + k)) 1
      (all_one (λ x. slice_index image (p + x) == 1) (state_slots (states_of p s) image) k
      (All-weaker (λ x. slice_index image (p + x) ≡ 1) (λ x. (slice_index image (p + x) == 1) ≡ true) (λ x e. eq-eqb (slice_index image (p + x)) 1 e)
      (state_slots (states_of p s) image) marks.states.listed)
      (sym (same_test k (state_slots (states_of p s) image)) ∙ is))

  not_in_chain : (k : ℕ) → is_in k (listed_in (states_of p s) image) ≡ false → Misses k (state_slots (states_of p s) image)
  not_in_chain k is = none_one (state_slots (states_of p s) image) k (sym (same_test k (state_slots (states_of p s) image)) ∙ is)

  state_is : (k : ℕ) (b : Bool) → is_in k (listed_in (states_of p s) image) ≡ b
      → state_in (states_of p s) image k ≡ cond b (record_at (states_of p s) image k) None
  unfolding state_in
  state_is k b is = ap (λ (c : Bool). cond c (record_at (states_of p s) image k) None) is

  there : (k : ℕ) → state_there p s image (p + k) ≡ option_map (with_time (slice_index image (layout_of p s).clock)) (record_at (states_of p s) image k)
  there k =
      let e : (p + k) - p ≡ k = omega arith in
      ap (λ (j : ℕ). option_map (with_time (slice_index image (layout_of p s).clock)) (record_at (states_of p s) image j)) e

  pub listed : (k : ℕ) → k < s → lists p s image (p + k) ≡ option_map (with_time (slice_index image (layout_of p s).clock)) (state_in (states_of p s) image k)
  listed k l = by (is_in k (listed_in (states_of p s) image)) refl
    where
      by : (b : Bool) → is_in k (listed_in (states_of p s) image) ≡ b
          → lists p s image (p + k) ≡ option_map (with_time (slice_index image (layout_of p s).clock)) (state_in (states_of p s) image k)
      by true is =
          told_true p s image (state_there p s image) (p + k) (marked_is p s image (p + k) (omega arith) (omega (arith, l)) (in_chain k is)) ∙ there k
          ∙ ap (λ (o : Option Sa). option_map (with_time (slice_index image (layout_of p s).clock)) o) (sym (state_is k true is))
      by false is =
          missing (is_marked p s image (p + k)) refl
          ∙ ap (λ (o : Option Sa). option_map (with_time (slice_index image (layout_of p s).clock)) o) (sym (state_is k false is))
        where
          missing : (b : Bool) → is_marked p s image (p + k) ≡ b → lists p s image (p + k) ≡ None
          missing false m = told_false p s image (state_there p s image) (p + k) m
          missing true m =
              let t : Marked p s image (p + k) = marked_says p s image (p + k) m in
              let same : k ≡ t.number = (let e : p + k ≡ p + t.number = t.is in omega (arith, e)) in
              absurd (marks.states.others k l (not_in_chain k is) (ap (λ (j : ℕ). slice_index image (p + j)) same ∙ t.status))

-- a slot that lists a state is one of a state
listed_number : (p s : ℕ) (image : List ℕ) (slot : ℕ) (x : Sa × ℕ) → lists p s image slot ≡ Some x → Marked p s image slot
listed_number p s image slot x e = by (is_marked p s image slot) refl
  where
    by : (b : Bool) → is_marked p s image slot ≡ b → Marked p s image slot
    by true is = marked_says p s image slot is
    by false is = absurd (let t : None ≡ Some x = sym (told_false p s image (state_there p s image) slot is) ∙ e in cc)

state_of : (time : ℕ) (o : Option Sa) (x : Sa × ℕ) → option_map (with_time time) o ≡ Some x → o ≡ Some x.0
state_of time None x e = absurd cc
state_of time (Some y) x e = ap (λ (z : Sa × ℕ). Some z.0) (same_Some (with_time time y) x e)

module _ (p s : ℕ) (old new : List ℕ) (turns : List SlotTurn) (b : Beside) (before : MarksStand p s old) (after : MarksStand p s new) (are : AreKept p s turns b)
    (places : KeepsPlaces (states_of p s) b.held old new) (age : MayAge p s b.held old new) where
  held_not : (k : ℕ) → k < s → (IsHeld turns (p + k) → ⊥) → b.held k ≡ false
  held_not k l free = by (b.held k) refl
    where
      by : (c : Bool) → b.held k ≡ c → b.held k ≡ false
      by false is = is
      by true is = let e = are.held k l is in absurd (free (e.0, e.1, e.2))

  stays_there : (k : ℕ) → k < s → b.held k ≡ false → lists p s new (p + k) ≡ lists p s old (p + k)
  stays_there k l free =
      listed p s new after k l
      ∙ ap (λ (o : Option Sa). option_map (with_time (slice_index new (layout_of p s).clock)) o) (places.others k free)
      ∙ by age
      ∙ sym (listed p s old before k l)
    where
      by : MayAge p s b.held old new → option_map (with_time (slice_index new (layout_of p s).clock)) (state_in (states_of p s) old k)
          ≡ option_map (with_time (slice_index old (layout_of p s).clock)) (state_in (states_of p s) old k)
      by (inl same) = ap (λ (n : ℕ). option_map (with_time n) (state_in (states_of p s) old k)) same
      by (inr none) =
          ap (λ (o : Option Sa). option_map (with_time (slice_index new (layout_of p s).clock)) o) (none k l free)
          ∙ sym (ap (λ (o : Option Sa). option_map (with_time (slice_index old (layout_of p s).clock)) o) (none k l free))

  others : (slot : ℕ) → (IsHeld turns slot → ⊥) → lists p s new slot ≡ lists p s old slot
  others slot free = by (is_marked p s new slot) refl (is_marked p s old slot) refl
    where
      at : (image : List ℕ) → is_marked p s image slot ≡ true → lists p s new slot ≡ lists p s old slot
      at image is =
          let m : Marked p s image slot = marked_says p s image slot is in
          subst (λ (k : ℕ). lists p s new k ≡ lists p s old k) (sym m.is)
          (stays_there m.number m.below (held_not m.number m.below (λ h. free (subst (λ (k : ℕ). IsHeld turns k) (sym m.is) h))))

      by : (c : Bool) → is_marked p s new slot ≡ c → (d : Bool) → is_marked p s old slot ≡ d → lists p s new slot ≡ lists p s old slot
      by true is d was = at new is
      by false is true was = at old was
      by false is false was = told_false p s new (state_there p s new) slot is ∙ sym (told_false p s old (state_there p s old) slot was)

  stays : (j k : ℕ) (x y : Sa × ℕ) → lists p s old j ≡ Some x → lists p s new k ≡ Some y → x.0.sid ≡ y.0.sid → j ≡ k
  stays j k x y was is same =
      let m : Marked p s old j = listed_number p s old j x was in
      let n : Marked p s new k = listed_number p s new k y is in
      let a : state_in (states_of p s) old m.number ≡ Some x.0 =
      state_of (slice_index old (layout_of p s).clock) (state_in (states_of p s) old m.number) x
      (sym (listed p s old before m.number m.below) ∙ ap (λ (i : ℕ). lists p s old i) (sym m.is) ∙ was) in
      let c : state_in (states_of p s) new n.number ≡ Some y.0 =
      state_of (slice_index new (layout_of p s).clock) (state_in (states_of p s) new n.number) y
      (sym (listed p s new after n.number n.below) ∙ ap (λ (i : ℕ). lists p s new i) (sym n.is) ∙ is) in
      m.is ∙ ap (λ (i : ℕ). p + i) (places.stays m.number n.number x.0 y.0 a c same) ∙ sym n.is

  pub keeps_slots : KeepsSlots (lists p s) turns old new
  keeps_slots = record { others = others; stays = stays }
