-- What the calls on states rest on, and what they leave.
use Rattle.std.specs.Prelude.{◌≡◌, ℕ, ◌<◌, ◌≤◌, Bool, true, false, List, length, slice_index}
use Rattle.xf_types.specs.Machine.{Machine}
use Rattle.xf_sadidx.specs.Layout.{end_of}
use Rattle.xf_rows.specs.declared.layout.Layout.{Layout}
use Rattle.xf_rows.specs.Layouts.{Fits}
use Rattle.xf_rows.specs.Values.{Beside}
use Rattle.xf_rows.specs.Stands.{Stands}

-- All lie in so many words, behind those that are the owner's own, and each slot of the states has a value. The pool can be asked; the turn of each
-- slot that it can give is held.
pub record IsReady (layout : Layout) (size hidden : ℕ) (b : Beside) (spent : Bool) (gives : ℕ → Type 0) : Type 0 where
  pub fits : Fits layout size
  pub behind : hidden ≤ layout.policies.base
  pub count : length b.values ≡ layout.states.slots
  pub asked : spent ≡ false
  pub below : (slot : ℕ) → gives slot → slot < layout.states.slots
  pub turns : (slot : ℕ) → gives slot → b.held slot ≡ true

-- Words and values stand for some machine.
pub record Stood (layout : Layout) (image : List ℕ) (b : Beside) : Type 0 where
  pub machine : Machine
  pub stands : Stands layout image b machine

-- There are as many words, and but for those of the states and the hidden ones they are the same. There are as many values, and the same turns are held.
pub record LeavesOthers (layout : Layout) (hidden : ℕ) (i j : List ℕ) (b c : Beside) : Type 0 where
  pub size : length j ≡ length i
  pub between : (q : ℕ) → hidden ≤ q → q < layout.states.base → slice_index j q ≡ slice_index i q
  pub above : (q : ℕ) → end_of layout.states ≤ q → slice_index j q ≡ slice_index i q
  pub count : length c.values ≡ length b.values
  pub turns : c.held ≡ b.held

-- Words and values are the same, and words may be stored into as before.
pub record IsSame (i j : List ℕ) (b c : Beside) (before after : Bool) : Type 0 where
  pub words : j ≡ i
  pub values : c ≡ b
  pub begun : after ≡ before
