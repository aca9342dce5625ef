-- What the own part says of held turns and free ones.
use Rattle.std.specs.Prelude.{◌≡◌, ℕ, List, Option, Contains}
use mathlib.Core.Option.{some}
use lib.ListN.{get_elem?}
use Rattle.xf_types.specs.declared.state.Sa.{Sa}
use Rattle.xf_types.specs.Machine.{Machine}
use Rattle.xf_types.specs.OwnParts.{own_in}
use Rattle.xf_views.specs.declared.entry.Listed.{Listed}
use Rattle.xf_views.specs.declared.view.View.{View}
use Rattle.xf_views.specs.TurnSays.{IsSeat}
use Rattle.xf_invariant.specs.Meaning.{Told}
use Rattle.xf_ownpart.specs.Lists.{ListsStates}
use Rattle.xf_ownpart.specs.OwnPart.{listed_at, standing_of}
use Rattle.xf_ownpart.specs.Turns.{IsHeld, Keeps}
use Rattle.xf_ownpart.specs.OwnLaws.{Shift, last_of}

-- the machine lists the state, at this time, with this own part
pub record IsListedNow (m : Machine) (l : Listed) : Type 0 where
  pub state : Contains m.shown.states l.state
  pub time : l.time ≡ m.shown.time
  pub own : own_in m l.state ≡ l.own

module _ (bucket_of : Sa → ℕ) (good : List ℕ → Told → Type 0) (lists : List ℕ → ℕ → Option (Sa × ℕ)) where
  pub record OwnSays : Type 0 where
    -- the settled image lists each state of the machine after all receipts at one slot, and nothing else
    pub lists_all : (most : ℕ) (base : List ℕ) (start : Machine) (w : Shift bucket_of good lists most base start)
        → ListsStates lists w.scene.settled (last_of bucket_of good lists most base start w).shown
    -- a held turn keeps a state as that machine has it
    pub kept : (most : ℕ) (base : List ℕ) (start : Machine) (w : Shift bucket_of good lists most base start) (l : Listed) → Keeps w.scene.view.own.turns l
        → IsListedNow (last_of bucket_of good lists most base start w) l
    -- no two seats hold one slot's turn
    pub alone : (most : ℕ) (base : List ℕ) (start : Machine) (w : Shift bucket_of good lists most base start) (j slot : ℕ) (u : View) → IsSeat w.scene.views j u
        → IsHeld w.scene.view.own.turns slot → IsHeld u.own.turns slot → w.scene.seat ≡ j
    -- where the turn is free, the value stands for what that machine has
    pub free : (most : ℕ) (base : List ℕ) (start : Machine) (w : Shift bucket_of good lists most base start) (slot : ℕ) → get_elem? w.turns slot ≡ some 0
        → w.home slot ≡ standing_of (listed_at lists (last_of bucket_of good lists most base start w) w.scene.settled slot)
