-- How many policies are listed, of any words.
use Rattle.std.specs.Prelude.{ℕ, min, List, slice_index}
use Rattle.xf_image.specs.declared.area.PolicyArea.{PolicyArea}
use Rattle.xf_image.specs.Layout.{count_place}

-- as many as the word says, and at most as many as there are slots
abbrev pub count_in : PolicyArea → List ℕ → ℕ
count_in a image = min (slice_index image (count_place a)) a.slots
