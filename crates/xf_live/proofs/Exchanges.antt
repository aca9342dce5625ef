-- A slot comes first among those that a seat has, its value is replaced or given back, and the others take their places again.
use Rattle.std.proofs.Common.{◌≡◌, ℕ, suc, ◌+◌, ◌-◌, ◌<◌, ◌≤◌, ◌==◌, ◌||◌, if◌then◌else◌, Bool, true, false, List, [], ◌∷◌, ◌++◌, length, take, drop, slice_index, not, filter, Option, Some, None, refl, sym, ap, ◌∙◌, subst, arith, length-append}
use Rattle.std.specs.List.{remove}
use Rattle.std.proofs.lemmas.List.{length-map}
use Rattle.std.proofs.lemmas.Option.{same_Some, none-some}
use Rattle.std.proofs.lemmas.Bool.Decides.{nat_tests}
use Rattle.atomic_table.specs.Table.{Me, rest}
use Rattle.xf_cells.specs.Frees.{is_among, are_apart}
use Rattle.xf_views.specs.declared.view.View.{View}
use Rattle.xf_views.specs.declared.view.SlotTurn.{SlotTurn}
use Rattle.xf_types.specs.Standing.{Standing}
use Rattle.xf_views.specs.Views.{view_after_give}
use Rattle.xf_invariant.specs.PinPart.{Has}
use Rattle.xf_table.specs.Rows.{MayGive}
use Rattle.xf_live.specs.Passes.{PassView}
use Rattle.xf_live.specs.Calls.{Returns}
use Rattle.xf_live.specs.Values.{AreHeld, slots_in, home_at, with_home, without, rotated}
use Rattle.xf_live.proofs.Held.{exchanged, gave}
use Rattle.xf_live.proofs.Parting.{flip, Parted, parted, home_parted, with_parted, left_parted, slots_parted}

take_front : {A : Type 0} (xs ys : List A) → take (length xs) (xs ++ ys) ≡ xs
take_front [] ys = refl
take_front {A} (x ∷ xs) ys = ap (λ (l : List A). x ∷ l) (take_front xs ys)

drop_front : {A : Type 0} (xs ys : List A) → drop (length xs) (xs ++ ys) ≡ ys
drop_front [] ys = refl
drop_front (x ∷ xs) ys = drop_front xs ys

-- the front goes behind the rest
swapped : {A : Type 0} (n : ℕ) (xs ys : List A) → n ≡ length xs → rotated n (xs ++ ys) ≡ ys ++ xs
swapped {A} n xs ys e =
    ap (λ (n : ℕ). rotated n (xs ++ ys)) e
    ∙ (ap (λ (l : List A). l ++ take (length xs) (xs ++ ys)) (drop_front xs ys) ∙ ap (λ (l : List A). ys ++ l) (take_front xs ys))

module _ {X : Type 0} (values : List (ℕ × Option X)) (slot j : ℕ) (p : Parted values slot j) where
  abbrev others : List (ℕ × Option X)
  others = p.behind ++ p.before

  came_first : rotated j values ≡ (slot, p.home) ∷ others
  came_first = ap (λ (l : List (ℕ × Option X)). rotated j l) p.is ∙ swapped j p.before ((slot, p.home) ∷ p.behind) (sym p.count)

  counted : length values ≡ j + (length p.behind + 1)
  counted =
      let e : length values ≡ length (p.before ++ (slot, p.home) ∷ p.behind) = ap (λ (l : List (ℕ × Option X)). length l) p.is in
      let f : length (p.before ++ (slot, p.home) ∷ p.behind) ≡ length p.before + suc (length p.behind) = length-append p.before ((slot, p.home) ∷ p.behind) in
      let k = p.count in
      omega arith

  behind_it : (n : ℕ) → n ≡ length values → (w : Option X) → n - j ≡ length ((slot, w) ∷ p.behind)
  behind_it n e w = let k = counted in omega arith

  went_back : (n : ℕ) (w : Option X) → n ≡ length values → rotated (n - j) ((slot, w) ∷ others) ≡ with_home values slot w
  went_back n w e =
      swapped (n - j) ((slot, w) ∷ p.behind) p.before (behind_it n e w)
      ∙ sym (ap (λ (l : List (ℕ × Option X)). with_home l slot w) p.is ∙ with_parted p.before slot p.home w p.behind p.early p.late)

  left_back : (n : ℕ) → n + 1 ≡ length values → rotated (n - j) others ≡ without values slot
  left_back n e =
      let k = counted in
      let m : n - j ≡ length p.behind = omega arith in
      swapped (n - j) p.behind p.before m
      ∙ sym (ap (λ (l : List (ℕ × Option X)). without l slot) p.is ∙ left_parted (λ (x : ℕ × Option X). x.0) slot p.before (slot, p.home) p.behind refl p.early p.late)

  at_home : home_at values slot ≡ Some p.home
  at_home = ap (λ (l : List (ℕ × Option X)). home_at l slot) p.is ∙ home_parted p.before slot p.home p.behind p.early

tail_of : {A : Type 0} → List A → List A
tail_of [] = []
tail_of (x ∷ xs) = xs

head_or : {X : Type 0} → Option X → List (ℕ × Option X) → Option X
head_or o [] = o
head_or o (x ∷ xs) = x.1

module _ {X : Type 0} (values : List (ℕ × Option X)) (slot j : ℕ) (apart : are_apart (slots_in values) ≡ true) (inside : j < length (slots_in values)) (here : slice_index (slots_in values) j ≡ slot) where
  -- what is at home there comes first
  pub comes_first : (o : Option X) → home_at values slot ≡ Some o → (xs : List (ℕ × Option X)) × (rotated j values ≡ (slot, o) ∷ xs)
  comes_first o e =
      let p = parted values slot j apart inside here in
      let k : p.home ≡ o = same_Some _ _ (sym (at_home values slot j p) ∙ e) in
      (p.behind ++ p.before, came_first values slot j p ∙ ap (λ (o : Option X). (slot, o) ∷ (p.behind ++ p.before)) k)

  -- and what comes first is at home there
  pub was_home : (o : Option X) (xs : List (ℕ × Option X)) → rotated j values ≡ (slot, o) ∷ xs → home_at values slot ≡ Some o
  unfolding head_or
  was_home o xs e =
      let p = parted values slot j apart inside here in
      at_home values slot j p ∙ ap Some (ap (λ (l : List (ℕ × Option X)). head_or o l) (sym (came_first values slot j p) ∙ e))

  -- replaced, it goes back
  pub goes_back : (n : ℕ) (o w : Option X) (xs : List (ℕ × Option X)) → n ≡ length values → rotated j values ≡ (slot, o) ∷ xs
      → (n - j ≤ length ((slot, w) ∷ xs)) × (rotated (n - j) ((slot, w) ∷ xs) ≡ with_home values slot w)
  unfolding tail_of
  goes_back n o w xs k e =
      let p = parted values slot j apart inside here in
      let same : p.behind ++ p.before ≡ xs = ap (λ (l : List (ℕ × Option X)). tail_of l) (sym (came_first values slot j p) ∙ e) in
      let many : length (p.behind ++ p.before) ≡ length p.behind + length p.before = length-append p.behind p.before in
      let few : length xs ≡ length (p.behind ++ p.before) = ap (λ (l : List (ℕ × Option X)). length l) (sym same) in
      let behind = behind_it values slot j p n k w in (
        omega arith,
        ap (λ (l : List (ℕ × Option X)). rotated (n - j) ((slot, w) ∷ l)) (sym same) ∙ went_back values slot j p n w k,
      )

  -- without it, the others go back
  pub others_back : (n : ℕ) → n + 1 ≡ length values → (n - j ≤ length (rest (rotated j values))) × (rotated (n - j) (rest (rotated j values)) ≡ without values slot)
  others_back n k =
      let p = parted values slot j apart inside here in
      let same : rest (rotated j values) ≡ p.behind ++ p.before = ap (λ (l : List (ℕ × Option X)). rest l) (came_first values slot j p) in
      let many : length (p.behind ++ p.before) ≡ length p.behind + length p.before = length-append p.behind p.before in
      let few : length (rest (rotated j values)) ≡ length (p.behind ++ p.before) = ap (λ (l : List (ℕ × Option X)). length l) same in
      let all = counted values slot j p in
      (omega arith, ap (λ (l : List (ℕ × Option X)). rotated (n - j) l) same ∙ left_back values slot j p n k)

  -- another value changes no slot
  pub slots_stay : (w : Option X) → slots_in (with_home values slot w) ≡ slots_in values
  slots_stay w =
      let p = parted values slot j apart inside here in
      ap (λ (l : List (ℕ × Option X)). slots_in l) (ap (λ (l : List (ℕ × Option X)). with_home l slot w) p.is ∙ with_parted p.before slot p.home w p.behind p.early p.late)
      ∙ (slots_parted p.before slot p.home w p.behind ∙ ap (λ (l : List (ℕ × Option X)). slots_in l) (sym p.is))

-- what is at home somewhere is of a slot that is held
pub among_home : {X : Type 0} (values : List (ℕ × Option X)) (slot : ℕ) (o : Option X) → home_at values slot ≡ Some o → is_among slot (slots_in values) ≡ true
among_home [] slot o e = absurd (none-some o e)
among_home (x ∷ xs) slot o e = by (x.0 == slot) (among_home xs slot o) refl e
  where
    by : (b : Bool) → (home_at xs slot ≡ Some o → is_among slot (slots_in xs) ≡ true) → (x.0 == slot) ≡ b → (if b then Some x.1 else home_at xs slot) ≡ Some o
        → is_among slot (slots_in (x ∷ xs)) ≡ true
    by true go t e = let k : (slot == x.0) ≡ true = grind (arith, nat_tests, t) in ap (λ b. b || is_among slot (slots_in xs)) k
    by false go t e = let f : (slot == x.0) ≡ false = flip x.0 slot t in ap (λ b. b || is_among slot (slots_in xs)) f ∙ go e

-- the same of the values of a pass: the slot stands at place j of those that are held
module _ {X : Type 0} (slots : ℕ) (hand : List ℕ) (turns : List SlotTurn) (values : List (ℕ × Option X)) (held : List ℕ) (h : AreHeld slots hand turns values held) (slot : ℕ) where
  pub is_held : (seen : List ℕ) → seen ≡ held → (o : Option X) → home_at values slot ≡ Some o → is_among slot seen ≡ true
  is_held seen same o e = ap (λ (l : List ℕ). is_among slot l) (same ∙ sym h.values_are) ∙ among_home values slot o e

  many : length values ≡ length held
  many = sym (length-map values (λ (x : ℕ × Option X). x.0)) ∙ ap (λ (l : List ℕ). length l) h.values_are

  module _ (j : ℕ) (seen : List ℕ) (same : seen ≡ held) (at : (j < length seen) × (slice_index seen j ≡ slot)) where
    apart : are_apart (slots_in values) ≡ true
    apart = ap are_apart h.values_are ∙ h.apart

    inside : j < length (slots_in values)
    inside = subst (λ (l : List ℕ). j < length l) (same ∙ sym h.values_are) at.0

    here : slice_index (slots_in values) j ≡ slot
    here = ap (λ (l : List ℕ). slice_index l j) (sym (same ∙ sym h.values_are)) ∙ at.1

    pub first_home : (m : Me (Option X) View) (v : View) (o : Option X) → m ≡ (v, rotated j values) → home_at values slot ≡ Some o → (xs : List (ℕ × Option X)) × (m.1 ≡ (slot, o) ∷ xs)
    first_home m v o is e =
        let f = comes_first values slot j apart inside here o e in
        (f.0, ap (λ (m : Me (Option X) View). m.1) is ∙ f.1)

    -- after the first value was exchanged
    module _ (m1 m2 : Me (Option X) View) (v : View) (n : ℕ) (o w : Option X) (xs : List (ℕ × Option X)) (is1 : m1 ≡ (v, rotated j values)) (first : m1.1 ≡ (slot, o) ∷ xs) (is2 : m2 ≡ (m1.0, (slot, w) ∷ xs)) (count : n ≡ length held) where
      back : (n - j ≤ length ((slot, w) ∷ xs)) × (rotated (n - j) ((slot, w) ∷ xs) ≡ with_home values slot w)
      back = goes_back values slot j apart inside here n o w xs (count ∙ sym many) (sym (ap (λ (m : Me (Option X) View). m.1) is1) ∙ first)

      pub home_was : home_at values slot ≡ Some o
      home_was = was_home values slot j apart inside here o xs (sym (ap (λ (m : Me (Option X) View). m.1) is1) ∙ first)

      pub room_back : n - j ≤ length m2.1
      room_back = subst (λ (m : Me (Option X) View). n - j ≤ length m.1) (sym is2) back.0

      pub exchanged_me : (m3 : Me (Option X) View) → m3 ≡ (m2.0, rotated (n - j) m2.1) → m3 ≡ (v, with_home values slot w)
      exchanged_me m3 is3 =
          is3
          ∙ (ap (λ (m : Me (Option X) View). (m.0, rotated (n - j) m.1)) is2
          ∙ (ap (λ (m : Me (Option X) View). (m.0, rotated (n - j) ((slot, w) ∷ xs))) is1 ∙ ap (λ (l : List (ℕ × Option X)). (v, l)) back.1))

      pub exchanged_held : AreHeld slots hand turns (with_home values slot w) held
      exchanged_held = exchanged slots hand turns values held h (with_home values slot w) (slots_stay values slot j apart inside here w)

    -- after its turn was given back
    module _ (m1 m2 : Me (Option X) View) (v : View) (n : ℕ) (is1 : m1 ≡ (v, rotated j values)) (is2 : m2 ≡ (view_after_give m1.0 slot, rest m1.1)) (count : n + 1 ≡ length held) where
      fewer : (n - j ≤ length (rest (rotated j values))) × (rotated (n - j) (rest (rotated j values)) ≡ without values slot)
      fewer = others_back values slot j apart inside here n (count ∙ sym many)

      came : m2 ≡ (view_after_give v slot, rest (rotated j values))
      came = is2 ∙ ap (λ (m : Me (Option X) View). (view_after_give m.0 slot, rest m.1)) is1

      pub room_without : n - j ≤ length m2.1
      room_without = subst (λ (m : Me (Option X) View). n - j ≤ length m.1) (sym came) fewer.0

      pub gave_me : (m3 : Me (Option X) View) → m3 ≡ (m2.0, rotated (n - j) m2.1) → m3 ≡ (view_after_give v slot, without values slot)
      gave_me m3 is3 =
          is3
          ∙ (ap (λ (m : Me (Option X) View). (m.0, rotated (n - j) m.1)) came ∙ ap (λ (l : List (ℕ × Option X)). (view_after_give v slot, l)) fewer.1)

    pub gave_held : AreHeld slots (filter (λ k. not (k == slot)) hand) (filter (λ (e : SlotTurn). not (e.slot == slot)) turns) (without values slot) (remove held j)
    gave_held =
        gave slots hand turns values held h slot j
        (subst (λ (l : List ℕ). j < length l) same at.0)
        (ap (λ (l : List ℕ). slice_index l j) (sym same) ∙ at.1)

-- what a pass that may give a slot's turn back may do at its seat, where the slot comes first
pub may_give : {X : Type 0} (standing : X → Standing) (p : PassView X) (slot : ℕ) (m : Me (Option X) View) (xs : List (ℕ × Option X)) (r : Returns standing p slot)
    → p.view ≡ m.0 → m.1 ≡ (slot, Some r.value) ∷ xs → MayGive standing m.0 m.1 slot
may_give {X} standing p slot m xs r e first = record {
  turn = r.turn;
  value = r.value;
  others = xs;
  held = subst (λ (v : View). Has v.own.turns r.turn) e r.held;
  slot_is = r.slot_is;
  first = first;
  stands = r.stands;
  trialless = subst (λ (v : View). v.hand.trial ≡ None) e r.trialless;
  drew = subst (λ (v : View). v.hand.writing ≡ true → v.hand.drawn ≡ true) e r.drew;
}

-- its slot is one of the table's
pub slot_below : (slots : ℕ) (hand : List ℕ) {X : Type 0} (turns : List SlotTurn) (values : List (ℕ × Option X)) (held : List ℕ) → AreHeld slots hand turns values held → (slot : ℕ)
    → (o : Option X) → home_at values slot ≡ Some o → slot < slots
slot_below slots hand turns values held h slot o e = h.below slot (ap (λ (l : List ℕ). is_among slot l) (sym h.values_are) ∙ among_home values slot o e)
