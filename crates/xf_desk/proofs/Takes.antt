-- One more slot's turn.
use Rattle.std.proofs.Common.{◌≡◌, ◌≢◌, ℕ, ◌+◌, ◌==◌, ◌<◌, ◌||◌, if◌then◌else◌, Bool, true, false, List, ◌∷◌, refl, sym, ap, ◌∙◌, subst, Option, Some, None, eqb-true, eq-eqb, ◌⊎◌, inl, inr}
use Rattle.std.proofs.lemmas.Bool.{ne_eqb, cases_lt}
use Rattle.xf_rows.specs.Values.{at}
use Rattle.xf_views.specs.declared.view.Start.{Start}
use Rattle.xf_values.specs.declared.state_value.StateValue.{StateValue}
use Rattle.xf_live.specs.Passes.{PassView, holding}
use Rattle.xf_live.specs.Values.{holds, home_at, with_home}
use Rattle.xf_desk.specs.Values.{value_or_dead, value_of, beside_of}
use Rattle.xf_desk.specs.Lending.{AllHome, KeepsTurns, IsLent}
use Rattle.xf_desk.proofs.Homes.{shift, same_slots, same_holds, home_put, home_other}
use Rattle.xf_desk.proofs.Besides.{at_slot}
use Rattle.xf_desk.proofs.Values.{value_behind}

module _ {X : Type 0} where
  -- what was held still is
  pub still_held : (x : ℕ × Option X) (xs : List (ℕ × Option X)) (slot : ℕ) → holds xs slot ≡ true → holds (x ∷ xs) slot ≡ true
  still_held x xs slot h = go (slot == x.0)
    where
      go : (b : Bool) → (b || holds xs slot) ≡ true
      go true = refl
      go false = h

  -- another slot's value stays
  pub other_home : (slot : ℕ) (o : Option X) (xs : List (ℕ × Option X)) (other : ℕ) → other ≢ slot → home_at ((slot, o) ∷ xs) other ≡ home_at xs other
  other_home slot o xs other d = ap (λ t. if t then Some o else home_at xs other) (ne_eqb slot other (λ e. d (sym e)))

-- the values stay at home
pub took_home : (slot : ℕ) (v : StateValue) (xs : List (ℕ × Option StateValue)) → AllHome xs → AllHome ((slot, Some v) ∷ xs)
took_home slot v xs home other = go (slot == other)
  where
    go : (b : Bool) → (if b then Some (Some v) else home_at xs other) ≢ Some None
    go true e = absurd cc
    go false e = home other e

-- turns are kept, and no turn that wasn't held before is the same
pub took_turns : (policies : ℕ) (p q r : PassView StateValue) (slot : ℕ) (v : StateValue) → KeepsTurns policies p q → holds q.values (policies + slot) ≡ false
    → r.values ≡ (policies + slot, Some v) ∷ q.values → KeepsTurns policies p r
took_turns policies p q r slot v k free e = record {
  still = λ other h. subst (λ xs. holds xs other ≡ true) (sym e) (still_held (policies + slot, Some v) q.values other (k.still other h));
  same = λ all.
      let now : holds r.values (policies + slot) ≡ true =
      subst (λ xs. holds xs (policies + slot) ≡ true) (sym e) (ap (λ t. t || holds q.values (policies + slot)) (eq-eqb (policies + slot) (policies + slot) refl)) in
      let was : holds q.values (policies + slot) ≡ true = k.still (policies + slot) (sym (all slot) ∙ now) in
      absurd cc;
}

module _ (start : Start) (xs : List (ℕ × Option StateValue)) (slot : ℕ) (v : StateValue) where
  pub took_held : (other : ℕ) → (beside_of start ((start.policies + slot, Some v) ∷ xs)).held other ≡ ((other == slot) || (beside_of start xs).held other)
  took_held other = ap (λ t. t || (beside_of start xs).held other) (shift start.policies other slot)

  took_inside : (other : ℕ) → holds xs (start.policies + slot) ≡ false → (beside_of start xs).held other ≡ true
      → other < start.states → at (beside_of start ((start.policies + slot, Some v) ∷ xs)) other ≡ at (beside_of start xs) other
  took_inside other free held l =
      at_slot start ((start.policies + slot, Some v) ∷ xs) other l
      ∙ ap value_or_dead (other_home (start.policies + slot) (Some v) xs (start.policies + other)
      (λ e. let t : holds xs (start.policies + slot) ≡ true = subst (λ n. holds xs n ≡ true) e held in absurd cc))
      ∙ sym (at_slot start xs other l)

  pub took_at : (other : ℕ) → holds xs (start.policies + slot) ≡ false → (beside_of start xs).held other ≡ true
      → at (beside_of start ((start.policies + slot, Some v) ∷ xs)) other ≡ at (beside_of start xs) other
  took_at other free held = elim (cases_lt other start.states) [
    | inl l ↦ took_inside other free held l
    | inr g ↦ value_behind (value_of ((start.policies + slot, Some v) ∷ xs)) start.policies start.states other g ∙ sym (value_behind (value_of xs) start.policies start.states other g)
  ]

-- A value is put into a slot of a pass that is lent.
module _ (policies : ℕ) (p q : PassView StateValue) (writing : Bool) (slot : ℕ) (v : StateValue) where
  abbrev pub put : PassView StateValue
  put = holding q (with_home q.values slot (Some v))

  put_home : holds q.values slot ≡ true → AllHome q.values → AllHome put.values
  put_home h home other = elim (eq-or-not other slot) [
    | inl same ↦ λ is.
        let now : home_at put.values other ≡ Some (Some v) = ap (λ n. home_at put.values n) same ∙ home_put q.values slot (Some v) h in
        let e : Some (Some v) ≡ Some None = sym now ∙ is in absurd cc
    | inr d ↦ λ is. home other (sym (home_other q.values slot (Some v) other d) ∙ is)
  ]
    where
      eq-or-not : (a b : ℕ) → (a ≡ b) ⊎ (a ≢ b)
      eq-or-not a b = elim (a == b) as (λ t. (a == b) ≡ t → (a ≡ b) ⊎ (a ≢ b)) [
        | true ↦ λ e. inl (eqb-true a b e)
        | false ↦ λ e. inr (λ f. let t = eq-eqb a b f in absurd cc)
      ] refl

  put_turns : KeepsTurns policies p q → KeepsTurns policies p put
  put_turns k = record {
    still = λ other h. same_holds q.values slot (Some v) other ∙ k.still other h;
    same = λ all. let t = k.same (λ other. sym (same_holds q.values slot (Some v) (policies + other)) ∙ all other) in
        (t.0, t.1, same_slots q.values slot (Some v) ∙ t.2);
  }

  pub put_lent : holds q.values slot ≡ true → IsLent policies p q writing → IsLent policies p put writing
  put_lent h lent = record {
    table = lent.table;
    room = lent.room;
    stays = lent.stays;
    turn = lent.turn;
    opened = lent.opened;
    yet = lent.yet;
    before = lent.before;
    after = lent.after;
    turns = put_turns lent.turns;
    home = put_home h lent.home;
  }
