-- What a pass knows while it waits for the turn, and when the turn came.
use Rattle.std.proofs.Common.{◌≡◌, ℕ, ◌==◌, Bool, true, false, List, [], Option, Some, ap, ◌∙◌, subst, arith}
use Rattle.std.proofs.lemmas.Bool.Decides.{nat_tests}
use Rattle.atomic_table.specs.Table.{Me}
use Rattle.xf_types.specs.declared.state.Sa.{Sa}
use Rattle.xf_views.specs.declared.view.View.{View}
use Rattle.xf_views.specs.Hands.{is_served}
use Rattle.xf_views.specs.Views.{view_after_ticket, view_after_serving}
use Rattle.xf_invariant.specs.Meaning.{Told}
use Rattle.xf_table.specs.Plays.{Enters, Looked}
use Rattle.xf_live.specs.Passes.{PassView, knowing, me_of, IsKept}
use Rattle.xf_live.specs.Calls.{view_waiting, view_entered, Waiting, Entered}

-- with a ticket, and no turn
pub waits : {X : Type 0} (p q : PassView X) (t : ℕ) → p.view.hand.has_turn ≡ false → q ≡ knowing p (view_after_ticket p.view t) → Waiting p t q
waits {X} p q t free is = (
  p.view.image.words,
  p.view.hand.loaded,
  p.view.hand.retired,
  is ∙ ap (λ (b : Bool). record p { view = record (view_after_ticket p.view t) { hand = record (view_after_ticket p.view t).hand { has_turn = b } } }) free,
)

-- a pass from what stays of it, and what its seat knows
whole : {X : Type 0} (p q : PassView X) (v : View) (m : Me (Option X) View) → IsKept p q → me_of q ≡ m → m ≡ (v, p.values) → q ≡ record p { view = v }
whole {X} p q v m k e f =
    let view = ap (λ (m : Me (Option X) View). m.0) (e ∙ f) in
    let values = ap (λ (m : Me (Option X) View). m.1) (e ∙ f) in
    λ i. record { table = k.table i; view = view i; room = k.room i; loads = k.loads i; values = values i }

served : (t n : ℕ) (b : Bool) → (n == t) ≡ b → is_served (Some t) n ≡ b
served t n true h = grind (arith, nat_tests, h)
served t n false h = grind (arith, nat_tests, h)

module _ (good : ℕ → ℕ → List ℕ → Told → Type 0) (lists : ℕ → ℕ → List ℕ → ℕ → Option (Sa × ℕ)) where
  -- what is told to who waited is told of the pass as it was before
  was : (v : View) (t : ℕ) (words image : List ℕ) (loaded retired : List (ℕ × ℕ)) → Enters good lists (view_waiting v t words loaded retired) image → Enters good lists v image
  was v t words image loaded retired e = record {
    size = e.size;
    stands = record {
      machine = e.stands.machine;
      told = e.stands.told;
      is = e.stands.is;
      shown = e.stands.shown;
      stands = e.stands.stands;
      kept = e.stands.kept;
    };
    grown = record { first = e.grown.first; opens = e.grown.opens; within = e.grown.within };
  }

module _ {X : Type 0} (good : ℕ → ℕ → List ℕ → Told → Type 0) (lists : ℕ → ℕ → List ℕ → ℕ → Option (Sa × ℕ)) where
  -- a look at which another ticket is served
  pub waits_on : (p q r : PassView X) (t n : ℕ) → Waiting p t q → (n == t) ≡ false → IsKept q r → Looked good lists n (me_of q) (me_of r) → Waiting p t r
  waits_on p q r t n w not_mine k l =
      let v = view_waiting p.view t w.0 w.1 w.2 in
      let kept : IsKept p r = record { table = k.table ∙ ap (λ (p : PassView X). p.table) w.3; room = k.room ∙ ap (λ (p : PassView X). p.room) w.3; loads = k.loads ∙ ap (λ (p : PassView X). p.loads) w.3 } in
      let seen : me_of r ≡ (view_after_serving v n l.0, p.values) = l.1 ∙ ap (λ (p : PassView X). (view_after_serving p.view n l.0, p.values)) w.3 in
      let now : (view_after_serving v n l.0, p.values) ≡ (view_waiting p.view t l.0 [] [], p.values) = ap (λ (b : Bool). (record (view_waiting p.view t l.0 [] []) { hand = record (view_waiting p.view t l.0 [] []).hand { has_turn = b } }, p.values)) (served t n false not_mine) in
      (l.0, [], [], whole p r (view_waiting p.view t l.0 [] []) (view_after_serving v n l.0, p.values) kept seen now)

  -- a look at which its own is
  pub comes : (p q r : PassView X) (t n : ℕ) → Waiting p t q → (n == t) ≡ true → IsKept q r → Looked good lists n (me_of q) (me_of r) → Entered good lists p r
  comes p q r t n w mine k l =
      let v = view_waiting p.view t w.0 w.1 w.2 in
      let kept : IsKept p r = record { table = k.table ∙ ap (λ (p : PassView X). p.table) w.3; room = k.room ∙ ap (λ (p : PassView X). p.room) w.3; loads = k.loads ∙ ap (λ (p : PassView X). p.loads) w.3 } in
      let seen : me_of r ≡ (view_after_serving v n l.0, p.values) = l.1 ∙ ap (λ (p : PassView X). (view_after_serving p.view n l.0, p.values)) w.3 in
      let is : is_served (Some t) n ≡ true = served t n true mine in
      let now : (view_after_serving v n l.0, p.values) ≡ (view_entered p.view t l.0, p.values) = ap (λ (b : Bool). (record (view_waiting p.view t l.0 [] []) { hand = record (view_waiting p.view t l.0 [] []).hand { has_turn = b } }, p.values)) is in
      let view = ap (λ (p : PassView X). p.view) w.3 in
      record {
        ticket = t;
        image = l.0;
        after = whole p r (view_entered p.view t l.0) (view_after_serving v n l.0, p.values) kept seen now;
        enters = was good lists p.view t w.0 l.0 w.1 w.2 (subst (λ (u : View). Enters good lists u l.0) view (l.2 (ap (λ (u : View). is_served u.hand.ticket n) view ∙ is)));
      }
