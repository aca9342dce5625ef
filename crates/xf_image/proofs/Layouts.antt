-- The areas lie in a row.
use Rattle.std.proofs.Common.{ℕ, arith}
use Rattle.xf_chain.specs.Columns.{Spans}
use Rattle.xf_chain.specs.Families.{Lays}
use Rattle.xf_image.specs.declared.area.PolicyArea.{PolicyArea}
use Rattle.xf_image.specs.Layout.{Fits, order_of, back_of, exact_of, indices_of, priorities_of, numbers_of}

pub order_lays : (a : PolicyArea) (size : ℕ) → Fits a size → Lays (order_of a) size
order_lays a size f = let w = f.words in record { heads = omega arith; links = omega (arith, w); fits = f.fits }

pub back_lays : (a : PolicyArea) (size : ℕ) → Fits a size → Lays (back_of a) size
back_lays a size f = let w = f.words in record { heads = omega arith; links = omega (arith, w); fits = f.fits }

pub exact_lays : (a : PolicyArea) (size : ℕ) → Fits a size → Lays (exact_of a) size
exact_lays a size f = let w = f.words in record { heads = omega arith; links = omega (arith, w); fits = f.fits }

pub indices_lays : (a : PolicyArea) (size : ℕ) → Fits a size → Lays (indices_of a) size
indices_lays a size f = let w = f.words in record { heads = omega arith; links = omega (arith, w); fits = f.fits }

pub priorities_span : (a : PolicyArea) (size : ℕ) → Fits a size → Spans (priorities_of a) size
priorities_span a size f = let w = f.words in record { words = omega (arith, w); fits = f.fits }

pub numbers_span : (a : PolicyArea) (size : ℕ) → Fits a size → Spans (numbers_of a) size
numbers_span a size f = let w = f.words in record { words = omega (arith, w); fits = f.fits }
