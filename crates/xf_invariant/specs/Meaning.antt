-- What an image tells, and what a read shows of it.
use Rattle.std.specs.Prelude.{◌≡◌, ℕ, List, [], ◌∷◌, slice_index}
use Rattle.xf_types.specs.declared.call.Receipt.{Receipt}
use Rattle.xf_types.specs.declared.state.Sa.{Sa}
use Rattle.xf_types.specs.Machine.{Shown, Machine}
use Rattle.xf_types.specs.IsMachine.{IsMachine}
use Rattle.xf_types.specs.Moves.{after_move}
use Rattle.xf_types.specs.ChangeIds.{ChangeIds, ids_after}

-- what an image tells: what is shown, and the ids of changes. It tells no own part
pub record Told : Type 0 where
  pub shown : Shown
  pub ids : ChangeIds

-- from its two parts
abbrev pub told : Shown → ChangeIds → Told
told s ids = record { shown = s; ids = ids }

-- the image has the loaded word at each loaded place
abbrev pub Agrees : List ℕ → List (ℕ × ℕ) → Type 0
Agrees image [] = Unit {0}
Agrees image (p ∷ ps) = (slice_index image p.0 ≡ p.1) × Agrees image ps

module _ (bucket_of : Sa → ℕ) where
  -- after one move
  abbrev pub told_after : Told → Receipt → Told
  told_after t r = told (after_move t.shown r.call r.reply) (ids_after bucket_of t.shown t.ids (r ∷ []))

  -- after a list of moves
  abbrev pub told_after_moves : Told → List Receipt → Told
  told_after_moves t [] = t
  told_after_moves t (r ∷ rs) = told_after_moves (told_after t r) rs

-- told at the beginning: a machine shows it, and the words at the beginning stand for it
abbrev pub Opens : (List ℕ → Told → Type 0) → List ℕ → Told → Type 0
Opens good base t = (m : Machine) × IsMachine m × (t.shown ≡ m.shown) × good base t
