-- What the walks along the chains of hashes find, of any words.
use Rattle.std.specs.Prelude.{ℕ, ◌==◌, if◌then◌else◌, List, [], ◌∷◌, Option, None}
use Rattle.xf_types.specs.declared.state.SaId.{SaId}
use Rattle.xf_types.specs.declared.state.SaSpec.{SaSpec}
use Rattle.xf_sadidx.specs.declared.area.StateArea.{StateArea}
use Rattle.xf_sadidx.specs.declared.kind.Kind.TheVariants.{Spi, Seq}
use Rattle.xf_sadidx.specs.declared.query.StateQuery.TheVariants as asked
use Rattle.xf_sadidx.specs.Founds.{hash_chain, found_on}
use Rattle.xf_sadidx.specs.Keys.{hash_of, spi_hash}

-- the slot of the larval state that a new one takes the place of, where its sequence number isn't 0
unfoldable pub replaced_in : StateArea → List ℕ → SaSpec → Option ℕ
replaced_in a image spec =
    if spec.seq == 0 then None else found_on a image (asked.Replaced spec.seq spec.proto spec.dst) (hash_chain a image Seq (hash_of (spec.seq ∷ [])))

-- the slot of the state that an id names
unfoldable pub named_in : StateArea → List ℕ → SaId → Option ℕ
named_in a image id = found_on a image (asked.Named id) (hash_chain a image Spi (spi_hash id.dst id.spi id.proto))
