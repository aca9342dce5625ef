-- A pass that took the turn of one slot.
use Rattle.std.proofs.Common.{◌≡◌, ℕ, true, [], length, ap, ◌∙◌, subst}
use Rattle.xf_meaning.specs.Calls.{AreKept, IsKnown}
use Rattle.xf_meaning.specs.Good.{Good}
use Rattle.xf_meaning.specs.Tells.{lists}
use Rattle.xf_values.specs.declared.state_value.StateValue.{StateValue}
use Rattle.xf_live.specs.Passes.{LiveView, PassView, IsHere}
use Rattle.xf_live.specs.Calls.{Took}
use Rattle.xf_live.specs.Values.{holds}
use Rattle.xf_desk.specs.Lending.{MayLend}
use Rattle.xf_desk.specs.TurnLaws.{stands_for}
use Rattle.xf_desk.specs.Turns.{AllStand, HoldsToo}
use Rattle.xf_desk.specs.Values.{beside_of}
use Rattle.xf_desk.proofs.TurnLaws.{turn_laws, took_too, took_stands}
use Rattle.xf_serve.specs.Served.{IsTableOf}
use Rattle.xf_move.specs.OnSlot.{KnowsAll}

module _ (l : LiveView) (a q : PassView StateValue) (place : ℕ) (took : Took Good lists stands_for a place q) (may : MayLend l a) (alone : a.values ≡ []) where
  all_stand : AllStand q
  all_stand = turn_laws.take a q place took (turn_laws.none a alone)

  pub took_lends : IsHere l q → MayLend l q
  took_lends here = record {
    here = here;
    turn = ap (λ (x : PassView StateValue). x.view.hand.has_turn) took.after ∙ may.turn;
    shut = ap (λ (x : PassView StateValue). x.view.hand.writing) took.after ∙ may.shut;
    yet = ap (λ (x : PassView StateValue). x.view.hand.drawn) took.after ∙ may.yet;
    size = ap (λ (x : PassView StateValue). length x.view.image.words) took.after ∙ may.size;
    home = all_stand.home;
  }

  pub took_holds : holds q.values place ≡ true
  took_holds = HoldsToo.held (took_too a q place took)

  pub took_knows : (p s : ℕ) → IsTableOf p s l → KnowsAll p s l.start q
  took_knows p s base =
      let k = turn_laws.known l.start q.view.image.words q.view.own.turns (took_stands l a q place may.here took may.turn may.shut) in
      record {
        machine = k.0;
        ids = k.1;
        known =
            subst (λ (n : ℕ). IsKnown n s q.view.image.words q.view.own.turns k.0 k.1) base.policies_are
            (subst (λ (n : ℕ). IsKnown l.start.policies n q.view.image.words q.view.own.turns k.0 k.1) base.states_are k.2);
        kept =
            subst (λ (n : ℕ). AreKept n s q.view.own.turns (beside_of l.start q.values)) base.policies_are
            (subst (λ (n : ℕ). AreKept l.start.policies n q.view.own.turns (beside_of l.start q.values)) base.states_are (turn_laws.kept l.start q all_stand));
      }
