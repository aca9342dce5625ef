-- A table that begins with an image.
use Rattle.std.specs.Prelude.{◌≡◌, ℕ, ◌≤◌, List}
use Rattle.xf_types.specs.Standing.{Standing}
use Rattle.xf_views.specs.declared.view.Start.{Start}
use Rattle.xf_seats.specs.Opened.{Opened, start_machine}
use Rattle.xf_meaning.specs.Marks.{bucket_of}
use Rattle.xf_meaning.specs.Good.{Good}
use Rattle.xf_meaning.specs.Tells.{lists}
use Rattle.xf_meaning.specs.Machines.{machine}
use Rattle.xf_opening.specs.Images.{ImageView, IsAtRest, image_in}

-- the start of a table with so many seats over these words and values
abbrev pub start_of : ℕ → ℕ → ℕ → List ℕ → List Standing → Start
start_of seats p s words homes = record { seats = seats; policies = p; states = s; words = words; homes = homes }

pub record StartLaws : Type 0 where
  -- words and values tell the image that they stand for
  pub tells : (p s : ℕ) (words : List ℕ) (homes : List Standing) (i : ImageView) → IsAtRest p s words homes i → image_in p s words homes ≡ i
  -- they may begin a table of 1 to 16 seats, whose machine is the image's
  pub opens : (seats p s : ℕ) (words : List ℕ) (homes : List Standing) (i : ImageView) → 1 ≤ seats → seats ≤ 16 → IsAtRest p s words homes i
      → Opened bucket_of Good lists machine (start_of seats p s words homes)
  pub begins : (seats p s : ℕ) (words : List ℕ) (homes : List Standing) (i : ImageView) → IsAtRest p s words homes i
      → start_machine machine (start_of seats p s words homes) ≡ i.machine
