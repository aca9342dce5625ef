-- What steps make of the slots whose turns a pass has.
use Rattle.std.proofs.Common.{◌≡◌, ℕ, zero, suc, ◌<◌, ◌≤◌, ◌==◌, ◌||◌, ◌&&◌, not, Bool, true, false, List, [], ◌∷◌, length, map, filter, slice_index, Option, refl, sym, ap, ◌∙◌, subst, arith}
use Rattle.std.specs.List.{remove}
use Rattle.std.proofs.lemmas.Bool.Decides.{nat_tests}
use Rattle.xf_cells.specs.Frees.{is_among, are_apart, AreFree}
use Rattle.xf_cells.proofs.FreeLemmas.{at_most}
use Rattle.xf_views.specs.declared.view.SlotTurn.{SlotTurn}
use Rattle.atomic_table.specs.Table.{Me}
use Rattle.xf_types.specs.declared.call.Receipt.{Receipt}
use Rattle.xf_views.specs.declared.view.View.{View}
use Rattle.xf_views.specs.Views.{view_after_draw}
use Rattle.xf_seats.specs.Opened.{slots_of}
use Rattle.xf_live.specs.Values.{slots_of_turns, slots_in, without, AreHeld}
use Rattle.xf_live.proofs.Parting.{once_in, once_more, among_at, other, flip, same, first_not, rest_not, kept_if, gone_if, map_left, left_among, left_apart}

-- the list without one that isn't in it
none_left : (slot : ℕ) (slots : List ℕ) → is_among slot slots ≡ false → filter (λ s. not (s == slot)) slots ≡ slots
none_left slot [] h = refl
none_left slot (s ∷ slots) h =
    kept_if (s == slot) s (filter (λ s. not (s == slot)) slots) (flip slot s (first_not slot s slots h))
    ∙ ap (λ (l : List ℕ). s ∷ l) (none_left slot slots (rest_not slot s slots h))

-- of slots that stand once, those other than this one are the list without its place
pub removed : (slots : List ℕ) (slot j : ℕ) → are_apart slots ≡ true → j < length slots → slice_index slots j ≡ slot → filter (λ s. not (s == slot)) slots ≡ remove slots j
removed [] slot j a h e = absurd (omega arith)
removed (s ∷ slots) slot zero a h e =
    gone_if (s == slot) s (filter (λ s. not (s == slot)) slots) (ap (λ z. z == slot) e ∙ same slot)
    ∙ none_left slot slots (subst (λ z. is_among z slots ≡ false) e (once_in s slots a))
removed (s ∷ slots) slot (suc j) a h e =
    let there : is_among slot slots ≡ true = subst (λ z. is_among z slots ≡ true) e (among_at slots j (omega arith)) in
    kept_if (s == slot) s (filter (λ s. not (s == slot)) slots) (flip slot s (other slot s slots (once_in s slots a) there))
    ∙ ap (λ (l : List ℕ). s ∷ l) (removed slots slot j (once_more s slots a) (omega arith) e)

both_true : (b c : Bool) → b ≡ false → c ≡ true → (not b && c) ≡ true
both_true b c p q = ap (λ z. not z && c) p ∙ q

mapped : (turns : List SlotTurn) (f : SlotTurn → SlotTurn) → ((e : SlotTurn) → (f e).slot ≡ e.slot) → slots_of_turns (map f turns) ≡ slots_of_turns turns
mapped [] f h = refl
mapped (e ∷ turns) f h = ap (λ s. s ∷ slots_of_turns (map f turns)) (h e) ∙ ap (λ (l : List ℕ). e.slot ∷ l) (mapped turns f h)

module _ {X : Type 0} (slots : ℕ) (hand : List ℕ) (turns : List SlotTurn) (values : List (ℕ × Option X)) (held : List ℕ) (h : AreHeld slots hand turns values held) where
  free_of : (slot : ℕ) → is_among slot (slots_in values) ≡ false → is_among slot held ≡ false
  free_of slot free = subst (λ (l : List ℕ). is_among slot l ≡ false) h.values_are free

  more : (slot : ℕ) → slot < slots → is_among slot (slots_in values) ≡ false → AreFree slots (slot ∷ held)
  more slot inside free = record {
    below = λ s m. case s (s == slot) refl m;
    once = both_true (is_among slot held) (are_apart held) (free_of slot free) h.apart;
  }
    where
      case : (s : ℕ) (b : Bool) → (s == slot) ≡ b → (b || is_among s held) ≡ true → s < slots
      case s true e m = let k : s ≡ slot = grind (arith, nat_tests, e) in subst (λ z. z < slots) (sym k) inside
      case s false e m = h.below s m

  -- there is room for one more
  pub room_for : (slot : ℕ) → slot < slots → is_among slot (slots_in values) ≡ false → length held < slots
  room_for slot inside free = let m : suc (length held) ≤ slots = at_most slots (slot ∷ held) (more slot inside free) in omega arith

  pub took : (slot : ℕ) (t : SlotTurn) (o : Option X) → t.slot ≡ slot → slot < slots → is_among slot (slots_in values) ≡ false → AreHeld slots (slot ∷ hand) (t ∷ turns) ((slot, o) ∷ values) (slot ∷ held)
  took slot t o e inside free =
      let m = more slot inside free in
      record {
        values_are = ap (λ (l : List ℕ). slot ∷ l) h.values_are;
        hand_is = ap (λ (l : List ℕ). slot ∷ l) h.hand_is;
        turns_are = ap (λ s. s ∷ slots_of_turns turns) e ∙ ap (λ (l : List ℕ). slot ∷ l) h.turns_are;
        apart = m.once;
        below = m.below;
      }

  pub exchanged : (new : List (ℕ × Option X)) → slots_in new ≡ slots_in values → AreHeld slots hand turns new held
  exchanged new e = record { values_are = e ∙ h.values_are; hand_is = h.hand_is; turns_are = h.turns_are; apart = h.apart; below = h.below }

  pub touched : (f : SlotTurn → SlotTurn) → ((e : SlotTurn) → (f e).slot ≡ e.slot) → AreHeld slots hand (map f turns) values held
  touched f k = record { values_are = h.values_are; hand_is = h.hand_is; turns_are = mapped turns f k ∙ h.turns_are; apart = h.apart; below = h.below }

  pub gave : (slot j : ℕ) → j < length held → slice_index held j ≡ slot → AreHeld slots (filter (λ j. not (j == slot)) hand) (filter (λ (e : SlotTurn). not (e.slot == slot)) turns) (without values slot) (remove held j)
  gave slot j inside e =
      let r = removed held slot j h.apart inside e in
      record {
        values_are = map_left (λ (x : ℕ × Option X). x.0) slot values ∙ (ap (filter (λ s. not (s == slot))) h.values_are ∙ r);
        hand_is = ap (filter (λ s. not (s == slot))) h.hand_is ∙ r;
        turns_are = map_left (λ (t : SlotTurn). t.slot) slot turns ∙ (ap (filter (λ s. not (s == slot))) h.turns_are ∙ r);
        apart = ap are_apart (sym r) ∙ left_apart slot held h.apart;
        below = λ s m. h.below s (left_among slot s held (ap (is_among s) r ∙ m));
      }

-- what a draw leaves of them: the turns keep other things, at the same slots
pub drawn_held : {X : Type 0} (m : Me (Option X) View) (v : View) (values : List (ℕ × Option X)) (held : List ℕ) (moves : Bool) (all : List Receipt) (r : Receipt) (f : SlotTurn → SlotTurn)
    → ((e : SlotTurn) → (f e).slot ≡ e.slot) → m ≡ (view_after_draw v moves all r (map f v.own.turns), values)
    → AreHeld (slots_of v.life.start) v.hand.slots v.own.turns values held → AreHeld (slots_of m.0.life.start) m.0.hand.slots m.0.own.turns m.1 held
drawn_held {X} m v values held moves all r f same_slot is h =
    subst (λ (m : Me (Option X) View). AreHeld (slots_of m.0.life.start) m.0.hand.slots m.0.own.turns m.1 held) (sym is)
    (touched (slots_of v.life.start) v.hand.slots v.own.turns values held h f same_slot)
