-- What a table gives at its beginning, and what it asks at its end.
use Rattle.std.specs.Prelude.{◌≡◌, ℕ, ◌==◌, if◌then◌else◌, ◌≤◌, List, [], length, map, All, vec_capacity}
use mathlib.Core.Option.{some}
use lib.ListN.{get_elem?}
use Rattle.std.specs.Global.{Global}
use Rattle.std.specs.declared.vec.Vec.{Vec}
use Rattle.xf_types.specs.declared.call.Receipt.{Receipt}
use Rattle.xf_views.specs.Starts.{first_view}
use Rattle.xf_types.specs.Standing.{Standing}
use Rattle.xf_table.specs.declared.table.Table.{Table}
use Rattle.xf_table.specs.Tables.{id_of, first_of}
use Rattle.xf_live.specs.Passes.{LiveView, PassView, IsHere, IsIdle}

module _ {X : Type 0} where
  -- a table as its passes know it
  abbrev pub live_of : (X → Standing) → Table X → LiveView
  live_of standing t = record { table = id_of t; start = first_of standing t; count = t.count }

  -- the pass of worker k, which did nothing yet
  pub record IsNew (l : LiveView) (k : ℕ) (p : PassView X) : Type 0 where
    pub table : p.table ≡ l.table
    pub view : p.view ≡ first_view l.start k (if k == 0 then l.start.seats else 0)
    pub loads : p.loads ≡ 0
    pub values : p.values ≡ []

  -- one for each seat, in their order
  pub record AreNew (l : LiveView) (ps : List (PassView X)) : Type 0 where
    pub count : length ps ≡ l.start.seats
    pub each : (k : ℕ) (p : PassView X) → get_elem? ps k ≡ some p → IsNew l k p

  -- a pass of this table that holds nothing
  pub record IsDone (l : LiveView) (k : ℕ) (p : PassView X) : Type 0 where
    pub here : IsHere l p
    pub worker : p.view.worker ≡ k
    pub idle : IsIdle p.view
    pub values : p.values ≡ []

  pub record AreDone (l : LiveView) (ps : List (PassView X)) : Type 0 where
    pub count : length ps ≡ l.start.seats
    pub each : (k : ℕ) (p : PassView X) → get_elem? ps k ≡ some p → IsDone l k p

  -- the receipts of each pass
  abbrev pub receipts_of_all : List (PassView X) → List (List Receipt)
  receipts_of_all ps = map (λ (p : PassView X). p.view.knows.mine) ps

abbrev pub lists_in : {Z : Type 0} → List (Vec Receipt Z) → List (List Receipt)
lists_in vs = map (λ v. v.items) vs

-- each list is empty, with room for so many elements
abbrev pub AreRooms : ℕ → List (Vec ℕ Global) → Type 0
AreRooms count vs = All (λ (v : Vec ℕ Global). (v.items ≡ []) × (count ≤ vec_capacity v)) vs
