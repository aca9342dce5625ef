-- Which words hold this part.
use Rattle.std.specs.Prelude.{◌≡◌, ℕ, ◌+◌, ◌*◌, ◌<◌, ◌≤◌, not, List, [], filter, length, slice_index}
use Rattle.xf_cells.specs.Words.{zeros}
use Rattle.xf_exact.specs.Parts.{is_in_exact}
use Rattle.xf_trie.specs.Spares.{spare_of}
use Rattle.xf_types.specs.declared.policy.Policy.{Policy}
use Rattle.xf_inexact.specs.declared.inexact.Inexact.{Inexact}
use Rattle.xf_inexact.specs.Holds.{HoldPart}
use Rattle.xf_inexact.specs.Places.{Fits, count_of, end_of, pool_of}

pub record HoldLaws (x : Inexact) : Type 0 where
  -- words of zeros hold a part with no policy
  pub empty : (size : ℕ) (h4 h6 : ℕ × ℕ) → HoldPart x (zeros size) h4 h6 []
  -- a part none of whose words was written stays
  pub stays : (image words : List ℕ) (size : ℕ) (h4 h6 : ℕ × ℕ) (entries : List (ℕ × Policy)) → Fits x size
      → ((place : ℕ) → x.base ≤ place → place < end_of x → slice_index words place ≡ slice_index image place)
      → HoldPart x image h4 h6 entries → HoldPart x words h4 h6 entries
  -- six nodes are free where fewer policies than slots are listed
  pub room : (image : List ℕ) (h4 h6 : ℕ × ℕ) (entries : List (ℕ × Policy)) (h : HoldPart x image h4 h6 entries)
      → length entries < x.area.slots → 6 ≤ length h.trees.free
  -- more exactly, all nodes are free but six for each policy of this part, and so the words tell it
  pub spare : (image : List ℕ) (h4 h6 : ℕ × ℕ) (entries : List (ℕ × Policy)) → HoldPart x image h4 h6 entries
      → count_of x ≤ spare_of (pool_of x) image + 6 * length (filter (λ (e : ℕ × Policy). not (is_in_exact h4 h6 e.1)) entries)
