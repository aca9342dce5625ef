-- The areas lie in the words.
use Rattle.std.specs.Prelude.{ℕ}
use Rattle.xf_chain.specs.Columns.{Spans}
use Rattle.xf_chain.specs.Families.{Lays}
use Rattle.xf_image.specs.declared.area.PolicyArea.{PolicyArea}
use Rattle.xf_image.specs.Layout.{Fits, order_of, back_of, exact_of, indices_of, priorities_of, numbers_of}

-- where all lies in so many words, so do the chains and the columns
pub record LayoutLaws : Type 0 where
  pub order : (a : PolicyArea) (size : ℕ) → Fits a size → Lays (order_of a) size
  pub back : (a : PolicyArea) (size : ℕ) → Fits a size → Lays (back_of a) size
  pub exact : (a : PolicyArea) (size : ℕ) → Fits a size → Lays (exact_of a) size
  pub indices : (a : PolicyArea) (size : ℕ) → Fits a size → Lays (indices_of a) size
  pub priorities : (a : PolicyArea) (size : ℕ) → Fits a size → Spans (priorities_of a) size
  pub numbers : (a : PolicyArea) (size : ℕ) → Fits a size → Spans (numbers_of a) size
