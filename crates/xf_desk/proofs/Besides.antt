-- The values beside the words, after one of them was replaced.
use Rattle.std.proofs.Common.{◌≡◌, ℕ, ◌+◌, ◌<◌, ◌≤◌, ◌^◌, true, List, length, sym, ap, ◌∙◌, subst, arith, Option, Some}
use Rattle.std.proofs.lemmas.List.{get_or-set_same, set-get_or, set-set}
use Rattle.xf_cells.specs.Frees.{is_among}
use Rattle.xf_local.specs.View.{LocalView, Dead}
use Rattle.xf_rows.specs.Values.{Beside, at, value_put}
use Rattle.xf_views.specs.declared.view.Start.{Start}
use Rattle.xf_values.specs.declared.state_value.StateValue.{StateValue}
use Rattle.xf_live.specs.Values.{holds, home_at, with_home}
use Rattle.xf_live.specs.Passes.{LiveView}
use Rattle.xf_seats.specs.Opened.{slots_of}
use Rattle.xf_desk.specs.Lending.{AreSlots}
use Rattle.xf_desk.specs.Values.{value_or_dead, value_of, values_from, beside_of}
use Rattle.xf_desk.proofs.Homes.{same_slots, home_put, home_other}
use Rattle.xf_desk.proofs.Values.{values_length, value_at, values_put}

module _ (start : Start) (xs : List (ℕ × Option StateValue)) where
  pub count : length (beside_of start xs).values ≡ start.states
  count = values_length (value_of xs) start.policies start.states

  pub at_slot : (slot : ℕ) → slot < start.states → at (beside_of start xs) slot ≡ value_of xs (start.policies + slot)
  at_slot slot l = value_at (value_of xs) start.policies start.states slot l

  -- a slot of the states is one of the table's, and its place is small
  pub below : (l : LiveView) (policies states slot : ℕ) → AreSlots l policies states → start ≡ l.start → slot < length (beside_of start xs).values
      → (slot < states) × (policies + slot < slots_of start) × (policies + slot < 2 ^ 32)
  below l policies states slot a e h =
      let n : slot < start.states = subst (λ k. slot < k) count h in
      let s : states ≡ start.states = a.states_are ∙ sym (ap (λ (w : Start). w.states) e) in
      let p : policies ≡ start.policies = a.policies_are ∙ sym (ap (λ (w : Start). w.policies) e) in
      let w : start.policies + start.states ≤ l.count = subst (λ (w : Start). w.policies + w.states ≤ l.count) (sym e) a.words in
      (omega (arith, n, s), omega (arith, n, p), omega (arith, n, p, w, a.small))

  -- a value that is at home is the slot's
  pub at_home : (slot : ℕ) (v : StateValue) → slot < start.states → home_at xs (start.policies + slot) ≡ Some (Some v) → at (beside_of start xs) slot ≡ v.local
  at_home slot v l is = at_slot slot l ∙ ap value_or_dead is

  module _ (slot : ℕ) (o : Option StateValue) (l : slot < start.states) (h : holds xs (start.policies + slot) ≡ true) where
    abbrev pub new : List (ℕ × Option StateValue)
    new = with_home xs (start.policies + slot) o

    pub put_value : values_from (value_of new) start.policies start.states ≡ (value_put (beside_of start xs) slot (value_or_dead (Some o))).values
    put_value =
        values_put (value_of xs) (value_of new) start.policies start.states slot l (λ other d. ap value_or_dead (home_other xs (start.policies + slot) o other d))
        ∙ ap (λ v. (value_put (beside_of start xs) slot v).values) (ap value_or_dead (home_put xs (start.policies + slot) o h))

    pub put_beside : beside_of start new ≡ value_put (beside_of start xs) slot (value_or_dead (Some o))
    put_beside =
        ap (λ (ns : List ℕ). record { held = λ k. is_among (start.policies + k) ns; values = values_from (value_of new) start.policies start.states }) (same_slots xs (start.policies + slot) o)
        ∙ ap (λ (vs : List LocalView). record { held = (beside_of start xs).held; values = vs }) put_value

module _ (b c d : Beside) (slot : ℕ) (v w : LocalView) (l : slot < length b.values) (first : c ≡ value_put b slot v) (then : d ≡ value_put c slot w) where
  -- of two values that were put one after the other the second is left
  pub twice : d ≡ value_put b slot w
  twice =
      then ∙ ap (λ (x : Beside). value_put x slot w) first
      ∙ ap (λ (vs : List LocalView). record { held = b.held; values = vs }) (set-set b.values slot v w)

  pub twice_at : d ≡ value_put b slot (at d slot)
  twice_at =
      let is : at d slot ≡ w = ap (λ (x : Beside). at x slot) twice ∙ get_or-set_same b.values slot w Dead l in
      twice ∙ ap (λ (x : LocalView). value_put b slot x) (sym is)

  -- out and back in
  pub back : w ≡ at b slot → d ≡ b
  back same =
      twice ∙ ap (λ (x : LocalView). value_put b slot x) same
      ∙ ap (λ (vs : List LocalView). record { held = b.held; values = vs }) (set-get_or b.values slot Dead)
