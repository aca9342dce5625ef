-- A change writes words of the area alone, in any words.
use Rattle.std.specs.Prelude.{ℕ, ◌<◌, List, length}
use Rattle.xf_types.specs.declared.policy.Policy.{Policy}
use Rattle.xf_records.specs.Policies.{PolicyFits}
use Rattle.xf_image.specs.declared.area.PolicyArea.{PolicyArea}
use Rattle.xf_image.specs.declared.places.Places.{Places}
use Rattle.xf_image.specs.Frames.{Frame}
use Rattle.xf_image.specs.Layout.{Fits, end_of}
use Rattle.xf_image.specs.Placing.{ArePlaces, places_for, places_of}
use Rattle.xf_image.specs.Writes.{added_words, removed_words, warned_words, set_words}

pub record FrameLaws : Type 0 where
  pub added : (a : PolicyArea) (image : List ℕ) (places : Places) (slot : ℕ) (p : Policy) (index_word : ℕ)
      → Fits a (length image) → ArePlaces a places → slot < a.slots → PolicyFits p → Frame a.base (end_of a) image (added_words a image places slot p index_word)
  pub removed : (a : PolicyArea) (image : List ℕ) (places : Places) (slot : ℕ)
      → Fits a (length image) → ArePlaces a places → Frame a.base (end_of a) image (removed_words a image places slot)
  pub warned : (a : PolicyArea) (image : List ℕ) (slot : ℕ) → slot < a.slots → Frame a.base (end_of a) image (warned_words a image slot)
  pub set : (a : PolicyArea) (image : List ℕ) (h4 h6 : ℕ × ℕ) → Fits a (length image) → Frame a.base (end_of a) image (set_words a image h4 h6)
  -- the places that walks tell are places of the area
  pub places_for : (a : PolicyArea) (image : List ℕ) (h4 h6 : ℕ × ℕ) (p : Policy) → ArePlaces a (places_for a image h4 h6 p)
  pub places_of : (a : PolicyArea) (image : List ℕ) (h4 h6 : ℕ × ℕ) (p : Policy) (slot : ℕ) → ArePlaces a (places_of a image h4 h6 p slot)
