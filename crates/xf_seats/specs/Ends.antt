-- The end of a table: one seat took in all others, and its lists together are the history.
use Rattle.std.specs.Prelude.{◌≡◌, ℕ, ◌<◌, ◌==◌, List, ◌∷◌, length, filter, All, AllPairs, IsPermutation}
use mathlib.Core.Option.{some}
use lib.ListN.{get_elem?}
use Rattle.xf_types.specs.declared.call.Receipt.{Receipt}
use Rattle.xf_types.specs.History.{IsIncreasing, joined}
use Rattle.xf_views.specs.declared.view.View.{View}
use Rattle.xf_views.specs.Log.{receipts_of}
use Rattle.xf_views.specs.TurnSays.{IsSeat}
use Rattle.xf_seats.specs.LifeLaws.{Age}

-- the receipts of one worker, in their order
abbrev pub of_worker : ℕ → List Receipt → List Receipt
of_worker k history = filter (λ r. r.worker == k) history

-- the lists are the parts of the history: one for each worker, each with all of its receipts
pub record AreParts (history : List Receipt) (lists : List (List Receipt)) : Type 0 where
  pub each : (k : ℕ) (l : List Receipt) → get_elem? lists k ≡ some l → l ≡ of_worker k history
  pub all : All (λ r. r.worker < length lists) history

-- the receipts of a seat, and those that it took in
abbrev pub lists_of : View → List (List Receipt)
lists_of v = v.knows.mine ∷ v.life.gathered

-- a moment at which worker 0 has as many lists as seats were made
pub record Ending (most : ℕ) : Type 0 where
  pub age : Age most
  pub makes : 0 < age.moment.view.life.next
  pub has_all : length (lists_of age.moment.view) ≡ age.moment.view.life.next

-- then its lists are the parts of the history, and no other seat is there
pub record EndSays (most : ℕ) (e : Ending most) : Type 0 where
  pub parts : AreParts (receipts_of e.age.moment.log) (lists_of e.age.moment.view)
  pub alone : (j : ℕ) (u : View) → IsSeat e.age.moment.views j u → j ≡ e.age.moment.seat

abbrev pub EndHasAll : Type 0
EndHasAll = (most : ℕ) (e : Ending most) → EndSays most e

-- the parts together are the history, in another order
abbrev pub PartsAreAll : Type 0
PartsAreAll = (history : List Receipt) (lists : List (List Receipt)) → AreParts history lists → IsPermutation (joined lists) history

-- no two of their receipts have one number
abbrev pub PartsAreApart : Type 0
PartsAreApart =
    (history : List Receipt) (lists : List (List Receipt)) → AreParts history lists → IsIncreasing history
    → AllPairs (λ a b. a.number ≡ b.number → ⊥) (joined lists)

-- so what they are by number is the history
abbrev pub MergedIsHistory : Type 0
MergedIsHistory =
    (history merged : List Receipt) → IsIncreasing history → IsIncreasing merged → IsPermutation merged history → merged ≡ history
