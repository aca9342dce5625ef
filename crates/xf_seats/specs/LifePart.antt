-- The life part of what always holds: what each seat knows of the start, and what it took in of others.
use Rattle.std.specs.Prelude.{◌≡◌, ◌≢◌, ℕ, ◌+◌, ◌<◌, true, List, length}
use mathlib.Core.Option.{some}
use lib.ListN.{get_elem?}
use Rattle.xf_types.specs.declared.call.Receipt.{Receipt}
use Rattle.xf_views.specs.declared.view.View.{View}
use Rattle.xf_views.specs.declared.view.LifeView.{LifeView}
use Rattle.xf_views.specs.declared.view.Start.{Start}
use Rattle.xf_views.specs.Log.{Mark, by_worker}

-- the lists are the receipts of worker 1, of worker 2, and so on
abbrev pub HasGathered : List (List Receipt) → List Mark → Type 0
HasGathered lists log = (k : ℕ) (l : List Receipt) → get_elem? lists k ≡ some l → l ≡ by_worker (k + 1) log

-- what is said of one seat: it knows the start; one that splits off others is worker 0 and knows how many seats were made; what it
-- took in are the others' receipts
pub record FitsLife (made : ℕ) (start : Start) (log : List Mark) (k : ℕ) (life : LifeView) : Type 0 where
  pub start_is : life.start ≡ start
  pub makes : 0 < life.next → (life.next ≡ made) × (k ≡ 0)
  pub took : HasGathered life.gathered log

pub record LifePart (made : ℕ) (start : Start) (log : List Mark) (views : List View) : Type 0 where
  pub each : (i : ℕ) (v : View) → get_elem? views i ≡ some v → v.here ≡ true → FitsLife made start log v.worker v.life
  -- a seat that took in others is worker 0, and took in the next workers: those that are still there are later ones
  pub gone : (i j : ℕ) (v u : View) → get_elem? views i ≡ some v → get_elem? views j ≡ some u → v.here ≡ true → u.here ≡ true → 0 < length v.life.gathered
      → (v.worker ≡ 0) × (j ≢ i → length v.life.gathered < u.worker)
