-- The part on held states: each is listed at its own slot or nowhere, and its id was given.
use Rattle.std.specs.Prelude.{◌≡◌, ℕ, ◌+◌, ◌<◌, ◌≤◌, true, List, Option, Some, slice_index}
use mathlib.Core.Option.{some}
use lib.ListN.{get_elem?}
use Rattle.xf_types.specs.declared.state.Sa.{Sa}
use Rattle.xf_types.specs.Machine.{Machine, Shown}
use Rattle.xf_types.specs.History.{machine_of}
use Rattle.xf_types.specs.IsMachine.{IsShownPart}
use Rattle.xf_views.specs.declared.view.View.{View}
use Rattle.xf_views.specs.Log.{Mark, receipts_of}
use Rattle.xf_invariant.specs.Meaning.{Told}
use Rattle.xf_invariant.specs.PinPart.{Holds}

-- a state's slot with status 1 lists the state with the id that stands at its place
abbrev pub AreShown : (List ℕ → Told → Type 0) → (List ℕ → ℕ → Option (Sa × ℕ)) → (ℕ → ℕ) → ℕ → ℕ → Type 0
AreShown good lists id_place policies states =
    (image : List ℕ) (t : Told) (slot : ℕ) → IsShownPart t.shown → good image t → policies ≤ slot → slot < policies + states → slice_index image slot ≡ 1
    → (x : Sa × ℕ) × (lists image slot ≡ Some x) × (slice_index image (id_place slot) ≡ x.0.sid)

-- the state id was given, and where the image lists a state with it, it does so at this slot
pub record IsAtHome (lists : List ℕ → ℕ → Option (Sa × ℕ)) (s : Shown) (image : List ℕ) (slot sid : ℕ) : Type 0 where
  pub given : sid < s.next_sid
  pub there : (k : ℕ) (x : Sa × ℕ) → lists image k ≡ Some x → x.0.sid ≡ sid → k ≡ slot

module _ (lists : List ℕ → ℕ → Option (Sa × ℕ)) (id_place : ℕ → ℕ) (policies states : ℕ) where
  -- each state that the seat holds
  abbrev pub IsInStale : Shown → List ℕ → View → Type 0
  IsInStale s settled v = (slot sid : ℕ) → Holds policies (policies + states) id_place v.pins.shows slot sid → IsAtHome lists s settled slot sid

  pub record StalePart (start : Machine) (log : List Mark) (settled : List ℕ) (views : List View) : Type 0 where
    pub each : (i : ℕ) (v : View) → get_elem? views i ≡ some v → v.here ≡ true → IsInStale (machine_of start (receipts_of log)).shown settled v
