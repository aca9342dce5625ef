-- Which SPIs of a row are taken, as flags.
use Rattle.std.specs.Prelude.{◌≡◌, ℕ, ◌+◌, ◌<◌, ◌==◌, Bool, false, ◌&&◌, ◌||◌, List, length, get_or}
use Rattle.xf_types.specs.declared.state.AllocSpec.{AllocSpec}
use Rattle.xf_types.specs.declared.state.Sa.{Sa}
use Rattle.xf_types.specs.Same.{same_addr, same_proto}
use Rattle.xf_types.specs.StateRules.{is_spi_taken}

-- the state has the destination and the protocol that are asked for, whatever its mark
abbrev pub is_beside : AllocSpec → Sa → Bool
is_beside spec s = same_addr s.spec.dst spec.dst && same_proto s.spec.proto spec.proto

-- the state takes the SPI
abbrev pub takes_spi : AllocSpec → ℕ → Sa → Bool
takes_spi spec spi s = same_addr s.spec.dst spec.dst && same_proto s.spec.proto spec.proto && (s.spec.spi == spi)

-- a flag of the list
abbrev pub flag_at : List Bool → ℕ → Bool
flag_at flags place = get_or flags place false

-- the flags say of each SPI, from the least one that is asked for on, whether one of the states takes it
abbrev pub AreFlags : AllocSpec → List Sa → List Bool → Type 0
AreFlags spec states flags =
    (place : ℕ) → place < length flags → flag_at flags place ≡ is_spi_taken spec states (spec.min + place)

-- the flags after the one of a state's SPI was set
pub record IsSet (spec : AllocSpec) (s : Sa) (old new : List Bool) : Type 0 where
  pub count : length new ≡ length old
  pub flags : (place : ℕ) → place < length old
      → flag_at new place ≡ (flag_at old place || takes_spi spec (spec.min + place) s)
