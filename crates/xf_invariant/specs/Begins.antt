-- The image part and the pin part at the beginning.
use Rattle.std.specs.Prelude.{ℕ, ◌<◌, ◌≤◌, List, [], replicate, slice_index}
use Rattle.xf_types.specs.declared.state.Sa.{Sa}
use Rattle.xf_views.specs.declared.view.Start.{Start}
use Rattle.xf_views.specs.Starts.{first_views}
use Rattle.xf_invariant.specs.Meaning.{Told}
use Rattle.xf_invariant.specs.ImagePart.{ImagePart}
use Rattle.xf_invariant.specs.PinPart.{PinPart}

-- with the image words that are there at the beginning
abbrev pub ImageBegins : (Sa → ℕ) → (List ℕ → Told → Type 0) → Type 0
ImageBegins bucket_of good =
    (base : List ℕ) (made : ℕ) (start : Start) → ImagePart bucket_of good base 0 [] base base (first_views start made)

-- where each status is 0 or 1, and no seat is pinned
abbrev pub PinsBegin : (ℕ → ℕ) → Type 0
PinsBegin id_place =
    (policies slots : ℕ) (base : List ℕ) (made : ℕ) (start : Start) → ((s : ℕ) → s < slots → slice_index base s ≤ 1)
    → PinPart policies slots id_place 0 base base (replicate made 0) (first_views start made)
