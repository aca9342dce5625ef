-- The part on held turns: each slot's turn that isn't free is held by the seat whose number its word tells.
use Rattle.std.specs.Prelude.{◌≡◌, ℕ, ◌+◌, List}
use mathlib.Core.Option.{some}
use lib.ListN.{get_elem?}
use Rattle.xf_views.specs.declared.view.View.{View}
use Rattle.xf_views.specs.TurnPart.{SomeSeat}
use Rattle.xf_ownpart.specs.Turns.{IsHeld}

pub record HeldPart (turns : List ℕ) (views : List View) : Type 0 where
  pub held : (slot k : ℕ) → get_elem? turns slot ≡ some (k + 1) → SomeSeat views (λ v. (v.worker ≡ k) × IsHeld v.own.turns slot)
