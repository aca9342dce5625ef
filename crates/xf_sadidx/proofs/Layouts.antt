-- The areas lie in a row.
use Rattle.std.proofs.Common.{◌≡◌, ℕ, ◌+◌, ◌≤◌, refl, arith}
use Rattle.xf_chain.specs.Families.{Lays}
use Rattle.xf_sadidx.specs.declared.area.StateArea.{StateArea}
use Rattle.xf_sadidx.specs.declared.kind.Kind.{Kind}
use Rattle.xf_sadidx.specs.declared.kind.Kind.TheVariants.{Spi, Route, Seq}
use Rattle.xf_sadidx.specs.Layout.{Fits, order_of, back_of, chains_of, chains_start, chains_end}

pub order_lays : (a : StateArea) (size : ℕ) → Fits a size → Lays (order_of a) size
order_lays a size f = let w = f.words in record { heads = omega arith; links = omega (arith, w); fits = f.fits }

pub back_lays : (a : StateArea) (size : ℕ) → Fits a size → Lays (back_of a) size
back_lays a size f = let w = f.words in record { heads = omega arith; links = omega (arith, w); fits = f.fits }

pub chains_lay : (a : StateArea) (kind : Kind) (size : ℕ) → Fits a size → Lays (chains_of a kind) size
chains_lay a Spi size f = let w = f.words in record { heads = omega arith; links = omega (arith, w); fits = f.fits }
chains_lay a Route size f = let w = f.words in record { heads = omega arith; links = omega (arith, w); fits = f.fits }
chains_lay a Seq size f = let w = f.words in record { heads = omega arith; links = omega (arith, w); fits = f.fits }

pub chains_slots : (a : StateArea) (kind : Kind) → (chains_of a kind).slots ≡ a.slots
chains_slots a Spi = refl
chains_slots a Route = refl
chains_slots a Seq = refl

pub chains_count : (a : StateArea) (kind : Kind) → (chains_of a kind).count ≡ 4096
chains_count a Spi = refl
chains_count a Route = refl
chains_count a Seq = refl

-- each family lies among the words of all chains
pub chains_from : (a : StateArea) (kind : Kind) → chains_start a ≤ (chains_of a kind).heads
chains_from a Spi = omega arith
chains_from a Route = omega arith
chains_from a Seq = omega arith

pub chains_to : (a : StateArea) (kind : Kind) → (chains_of a kind).links + (chains_of a kind).slots ≤ chains_end a
chains_to a Spi = omega arith
chains_to a Route = omega arith
chains_to a Seq = omega arith
