-- What the closing of a database gives.
use Rattle.std.specs.Prelude.{◌≡◌, ℕ, ◌+◌, ◌<◌, List, [], ◌∷◌, All, length, map}
use Rattle.xf_types.specs.declared.call.Receipt.{Receipt}
use Rattle.xf_types.specs.History.{IsLegalHistory, machine_of}
use Rattle.xf_types.specs.Batch.{receipts_of}
use Rattle.xf_opening.specs.Images.{ImageView, IsWithin}
use Rattle.xf_db.specs.Passes.{DatabaseView, IsOf, PassView}

-- passes of the database, numbered from this number on
abbrev pub AreNumbered : DatabaseView → ℕ → List PassView → Type 0
AreNumbered d number [] = Unit {0}
AreNumbered d number (p ∷ ps) = IsOf d p × (p.number ≡ number) × AreNumbered d (number + 1) ps

-- these are all passes of the database, in order
pub record AreAll (d : DatabaseView) (passes : List PassView) : Type 0 where
  pub all : length passes ≡ d.seats
  pub numbered : AreNumbered d 0 passes

-- how many receipts the passes have
abbrev pub total : List PassView → ℕ
total [] = 0
total (p ∷ ps) = length p.receipts + total ps

-- the receipts of each pass
abbrev pub receipts_of_all : List PassView → List (List Receipt)
receipts_of_all passes = map (λ (p : PassView). p.receipts) passes

-- The history is legal, from the machine of the image that the database was opened over. Each receipt is of one of the passes, and each pass's
-- receipts are its part of the history. The image is that of the machine that it leaves. Each receipt gave at most one number.
pub record Closes (start : ImageView) (passes : List PassView) (history : List Receipt) (end : ImageView) : Type 0 where
  pub legal : IsLegalHistory start.machine history
  pub machine : end.machine ≡ machine_of start.machine history
  pub workers : All (λ r. r.worker < length passes) history
  pub parts : All (λ (p : PassView). receipts_of p.number history ≡ p.receipts) passes
  pub count : length history ≡ total passes
  pub within : (most : ℕ) → IsWithin most start → IsWithin (most + length history) end
