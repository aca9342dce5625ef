-- What slots list with own parts, after a receipt.
use Rattle.std.proofs.Common.{◌≡◌, ℕ, zero, suc, true, false, true≢false, List, [], ◌∷◌, Some, None, Option, refl, sym, ap, ◌∙◌, arith, Contains, eqb-true}
use Rattle.std.specs.Prelude.{◌||◌}
use Rattle.std.specs.Option.{option_map}
use Rattle.std.proofs.lemmas.Option.{same_Some}
use Rattle.xf_types.specs.declared.call.Call.{Call}
use Rattle.xf_types.specs.declared.state.Sa.{Sa}
use Rattle.xf_types.specs.Machine.{Machine, Own}
use Rattle.xf_types.specs.StateList.{has_sid}
use Rattle.xf_types.specs.OwnParts.{own_in}
use Rattle.xf_laws.specs.LeaveLaws.{is_listed}
use Rattle.xf_late.specs.Rests.{own_touched}
use Rattle.xf_views.specs.declared.entry.Listed.{Listed}
use Rattle.xf_ownpart.specs.Lists.{ListsStates}
use Rattle.xf_ownpart.specs.OwnPart.{listing, with_own, listed_at, standing_of}
use Rattle.xf_ownpart.specs.Turns.{touched}

pub nothing : {X Y : Type 0} (y : Y) → None ≡ Some y → X
nothing y e = absurd cc

-- one that is listed stands in the list
pub listed-one : (sid : ℕ) (states : List Sa) → is_listed sid states ≡ true → (y : Sa) × Contains states y × (y.sid ≡ sid)
listed-one sid [] l = absurd (true≢false (sym l))
listed-one sid (x ∷ states) l =
    elim (has_sid sid x) as (λ b. has_sid sid x ≡ b → (b || is_listed sid states) ≡ true → (y : Sa) × Contains (x ∷ states) y × (y.sid ≡ sid)) [
      | true ↦ λ is k. (x, (zero, omega arith, refl), eqb-true x.sid sid is)
      | false ↦ λ is k. let h = listed-one sid states k in (h.0, (suc h.1.0, omega (arith, h.1.1), h.1.2), h.2)
    ] refl l

-- a value stands for one thing
pub standing-one : (a b : Option Listed) → standing_of a ≡ standing_of b → a ≡ b
standing-one None None e = refl
standing-one None (Some l) e = absurd cc
standing-one (Some l) None e = absurd cc
standing-one (Some l) (Some k) e =
    let state : l.state ≡ k.state = cc in
    let time : l.time ≡ k.time = cc in
    let own : l.own ≡ k.own = cc in
    λ i. Some (listing (state i) (time i) (own i))

module _ (lists : List ℕ → ℕ → Option (Sa × ℕ)) where
  -- what is kept is listed
  pub listed-back : (m : Machine) (image : List ℕ) (slot : ℕ) (l : Listed) → listed_at lists m image slot ≡ Some l → (p : Sa × ℕ) × (lists image slot ≡ Some p) × (with_own m p ≡ l)
  listed-back m image slot l = by (lists image slot) refl
    where
      by : (o : Option (Sa × ℕ)) → lists image slot ≡ o → option_map (with_own m) o ≡ Some l → (p : Sa × ℕ) × (lists image slot ≡ Some p) × (with_own m p ≡ l)
      by None e h = nothing l h
      by (Some p) e h = (p, e, same_Some (with_own m p) l h)

  -- a slot that lists the same, with the same own part
  pub same-slot : (last next : Machine) (old new : List ℕ) (slot : ℕ) → lists new slot ≡ lists old slot → ((p : Sa × ℕ) → lists old slot ≡ Some p → own_in next p.0 ≡ own_in last p.0)
      → listed_at lists next new slot ≡ listed_at lists last old slot
  same-slot last next old new slot same own = ap (option_map (with_own next)) same ∙ by (lists old slot) refl
    where
      by : (o : Option (Sa × ℕ)) → lists old slot ≡ o → option_map (with_own next) o ≡ option_map (with_own last) o
      by None e = refl
      by (Some p) e = ap (λ (o : Own). Some (listing p.0 p.1 o)) (own p e)

  -- a slot after a receipt that leaves what is shown
  pub touched-slot : (last next : Machine) (image : List ℕ) (one : Option ℕ) (c : Call) → ListsStates lists image last.shown
      → ((x : Sa) → Contains last.shown.states x → own_in next x ≡ own_touched one c last.shown.time x (own_in last x))
      → (slot : ℕ) → listed_at lists next image slot ≡ option_map (touched one c) (listed_at lists last image slot)
  touched-slot last next image one c well own slot = by (lists image slot) refl
    where
      by : (o : Option (Sa × ℕ)) → lists image slot ≡ o → option_map (with_own next) o ≡ option_map (touched one c) (option_map (with_own last) o)
      by None e = refl
      by (Some p) e =
          let h = well.listed slot p e in
          ap (λ (o : Own). Some (listing p.0 p.1 o)) (own p.0 h.0 ∙ ap (λ (time : ℕ). own_touched one c time p.0 (own_in last p.0)) (sym h.1))
