-- Values of slots whose turns a pass has.
use Rattle.std.proofs.Common.{◌≡◌, ◌≢◌, ℕ, suc, ◌+◌, ◌<◌, ◌==◌, if◌then◌else◌, Bool, true, false, List, [], ◌∷◌, refl, sym, ap, ◌∙◌, subst, Option, Some, None, eqb-true, eq-eqb, ◌||◌}
use Rattle.std.specs.Option.{option_map}
use Rattle.xf_types.specs.declared.state.Sa.{Sa}
use Rattle.xf_types.specs.ChangeIds.{ChangeIds}
use Rattle.xf_types.specs.Machine.{Machine, Shown}
use Rattle.xf_types.specs.OwnParts.{own_in}
use Rattle.xf_local.specs.View.{LocalView, standing_of as value_standing}
use Rattle.xf_views.specs.declared.entry.Listed.{Listed}
use Rattle.xf_views.specs.declared.view.SlotTurn.{SlotTurn}
use Rattle.xf_views.specs.declared.view.Start.{Start}
use Rattle.xf_views.specs.declared.view.LifeView.{LifeView}
use Rattle.xf_invariant.specs.Meaning.{told}
use Rattle.xf_invariant.specs.PinPart.{Has}
use Rattle.xf_ownpart.specs.OwnPart.{standing_of, with_own}
use Rattle.xf_ownpart.proofs.Slots.{listed-back}
use Rattle.xf_legalpart.specs.Honest.{HasKept, ListsKept}
use Rattle.xf_table.specs.Plays.{StandsWith}
use Rattle.xf_values.specs.declared.state_value.StateValue.{StateValue}
use Rattle.xf_live.specs.Passes.{LiveView, PassView, IsHere}
use Rattle.xf_live.specs.Calls.{Took}
use Rattle.xf_live.specs.Values.{holds, home_at}
use Rattle.xf_meaning.specs.Calls.{AreKept, IsKnown}
use Rattle.xf_meaning.specs.Good.{Good}
use Rattle.xf_meaning.specs.Tells.{lists}
use Rattle.xf_desk.specs.Lending.{AllHome}
use Rattle.xf_desk.specs.Turns.{StandsFor, AllStand, HoldsToo}
use Rattle.xf_desk.specs.Values.{beside_of}
use Rattle.xf_desk.specs.TurnLaws.{TurnLaws, stands_for}
use Rattle.xf_desk.proofs.Homes.{held_home}
use Rattle.xf_desk.proofs.Besides.{count, at_home}
use Rattle.xf_desk.proofs.Takes.{took_home, still_held}

none : (p : PassView StateValue) → p.values ≡ [] → AllStand p
none p e = record {
  home = λ slot is. let n : None ≡ Some None = sym (ap (λ xs. home_at xs slot) e) ∙ is in absurd cc;
  each = λ slot some. absurd (some (ap (λ xs. home_at xs slot) e));
}

-- a turn more
further : (t : SlotTurn) (turns : List SlotTurn) (e : SlotTurn) → Has turns e → Has (t ∷ turns) e
further t turns e h = (suc h.0, h.1)

module _ (t : SlotTurn) (v : StateValue) (turns : List SlotTurn) (xs : List (ℕ × Option StateValue)) (stands : stands_for v ≡ standing_of t.listed)
    (each : (slot : ℕ) → home_at xs slot ≢ None → StandsFor turns xs slot) where
  more : (slot : ℕ) → home_at ((t.slot, Some v) ∷ xs) slot ≢ None → StandsFor (t ∷ turns) ((t.slot, Some v) ∷ xs) slot
  more slot = case (t.slot == slot) refl
    where
      case : (b : Bool) → (t.slot == slot) ≡ b → (if b then Some (Some v) else home_at xs slot) ≢ None → StandsFor (t ∷ turns) ((t.slot, Some v) ∷ xs) slot
      case true e d = record {
        turn = t;
        value = v;
        held = (0, refl);
        slot_is = eqb-true t.slot slot e;
        home = ap (λ b. if b then Some (Some v) else home_at xs slot) e;
        stands = stands;
      }
      case false e d =
          let f = each slot d in
          record {
            turn = f.turn;
            value = f.value;
            held = further t turns f.turn f.held;
            slot_is = f.slot_is;
            home = ap (λ b. if b then Some (Some v) else home_at xs slot) e ∙ f.home;
            stands = f.stands;
          }

pub take : (p q : PassView StateValue) (slot : ℕ) → Took Good lists stands_for p slot q → AllStand p → AllStand q
take p q slot took all =
    let t : SlotTurn = record { slot = slot; listed = took.listed; still = true; tried = false } in
    subst (λ (r : PassView StateValue). AllStand r) (sym took.after)
    (record {
      home = took_home slot took.value p.values all.home;
      each = more t took.value p.view.own.turns p.values took.stands all.each;
    })

-- the turn is held with those that were
pub took_too : (p q : PassView StateValue) (slot : ℕ) → Took Good lists stands_for p slot q → HoldsToo p q slot
took_too p q slot took =
    subst (λ (r : PassView StateValue). HoldsToo p r slot) (sym took.after)
    (record {
      held = ap (λ b. b || holds p.values slot) (eq-eqb slot slot refl);
      still = still_held (slot, Some took.value) p.values;
      rest = refl;
      view = refl;
    })

-- the image stands with all of them
pub took_stands : (l : LiveView) (p q : PassView StateValue) (slot : ℕ) → IsHere l p → Took Good lists stands_for p slot q → p.view.hand.has_turn ≡ true
    → p.view.hand.writing ≡ false → StandsWith Good lists l.start q.view.image.words q.view.own.turns
took_stands l p q slot here took turn shut =
    subst (λ (image : List ℕ). StandsWith Good lists l.start image q.view.own.turns) (sym (ap (λ (r : PassView StateValue). r.view.image.words) took.after))
    (subst (λ (start : Start). StandsWith Good lists start p.view.image.words q.view.own.turns) (ap (λ (x : LifeView). x.start) here.life) (took.lists_it turn shut))

not_none : (o : Option (Option StateValue)) (v : StateValue) → o ≡ Some (Some v) → o ≢ None
not_none o v is none = let e : Some (Some v) ≡ None = sym is ∙ none in absurd cc

module _ (start : Start) (xs : List (ℕ × Option StateValue)) (slot : ℕ) where
  -- the value that is at home
  value_there : holds xs (start.policies + slot) ≡ true → AllHome xs → (v : StateValue) × (home_at xs (start.policies + slot) ≡ Some (Some v))
  value_there h home = held_home xs (start.policies + slot) h (home (start.policies + slot))

same_value : (v w : StateValue) → Some (Some v) ≡ Some (Some w) → v ≡ w
same_value v w e = cc

kept : (start : Start) (p : PassView StateValue) → AllStand p → AreKept start.policies start.states p.view.own.turns (beside_of start p.values)
kept start p all = record {
  count = count start p.values;
  held = λ slot l h.
      let v = value_there start p.values slot h all.home in
      let f = all.each (start.policies + slot) (not_none (home_at p.values (start.policies + slot)) v.0 v.1) in
      (f.turn, f.held, f.slot_is, ap (λ (x : LocalView). value_standing x) (at_home start p.values slot f.value l f.home) ∙ f.stands);
}

home : (start : Start) (turns : List SlotTurn) (carried : List (ℕ × Option StateValue)) (slot : ℕ) → AreKept start.policies start.states turns (beside_of start carried)
    → AllHome carried → slot < start.states → holds carried (start.policies + slot) ≡ true → StandsFor turns carried (start.policies + slot)
home start turns carried slot k all l h =
    let v = value_there start carried slot h all in
    let e = k.held slot l h in
    record {
      turn = e.0;
      value = v.0;
      held = e.1;
      slot_is = e.2;
      home = v.1;
      stands = ap (λ (x : LocalView). value_standing x) (sym (at_home start carried slot v.0 l v.1)) ∙ e.3;
    }

module _ (start : Start) (image : List ℕ) (turns : List SlotTurn) (st : StandsWith Good lists start image turns) where
  own_kept : HasKept turns st.machine
  own_kept l k =
      let f = listed-back (lists start.policies start.states) st.machine image k.turn.slot l (st.kept k.turn k.held ∙ k.is) in
      subst (λ (y : Listed). own_in st.machine y.state ≡ y.own) f.2 refl

  both : (o : Option (Sa × ℕ)) → option_map (λ (l : Listed). (l.state, l.time)) (option_map (with_own st.machine) o) ≡ o
  both None = refl
  both (Some x) = refl

  lists_kept : ListsKept (Good start.policies start.states) (lists start.policies start.states) image turns
  lists_kept e h = sym (both (lists start.policies start.states image e.slot)) ∙ ap (λ o. option_map (λ (l : Listed). (l.state, l.time)) o) (st.kept e h)

  known_now : IsKnown start.policies start.states image turns st.machine st.told.ids
  known_now = record {
    good = subst (λ (sh : Shown). Good start.policies start.states image (told sh st.told.ids)) st.shown st.stands;
    machine = st.is;
    kept = own_kept;
    listed = lists_kept;
  }

known : (start : Start) (image : List ℕ) (turns : List SlotTurn) → StandsWith Good lists start image turns
    → (m : Machine) × (ids : ChangeIds) × IsKnown start.policies start.states image turns m ids
known start image turns st = (st.machine, st.told.ids, known_now start image turns st)

pub turn_laws : TurnLaws
turn_laws = record { none = none; take = take; kept = kept; known = known; home = home }
