-- The hashes of a state, by which it stands in chains.
use Rattle.std.specs.Prelude.{ℕ, ◌+◌, ◌==◌, if◌then◌else◌, List, [], ◌∷◌, Option, None, Some, slice_index}
use Rattle.xf_types.specs.declared.network.Addr.{Addr}
use Rattle.xf_types.specs.declared.network.Proto.{Proto}
use Rattle.xf_types.specs.declared.state.Sa.{Sa}
use Rattle.xf_types.specs.Address.{family_of}
use Rattle.xf_types.specs.Same.{proto_number}
use Rattle.xf_cells.specs.Hashing.{hash_from}
use Rattle.xf_records.specs.Codes.{high_word, low_word}
use Rattle.xf_sadidx.specs.declared.kind.Kind.{Kind}
use Rattle.xf_sadidx.specs.declared.kind.Kind.TheVariants.{Spi, Route, Seq}

-- the hash of words
abbrev pub hash_of : List ℕ → ℕ
hash_of words = hash_from 0x9E3779B97F4A7C15 words

-- of what names a state, but the mark
abbrev pub spi_hash : Addr → ℕ → Proto → ℕ
spi_hash dst spi proto = hash_of (family_of dst ∷ high_word dst ∷ low_word dst ∷ spi ∷ proto_number proto ∷ [])

-- of what a template asks for first
abbrev pub route_hash : Addr → ℕ → ℕ
route_hash dst reqid = hash_of (family_of dst ∷ high_word dst ∷ low_word dst ∷ reqid ∷ [])

-- of a sequence number, where it isn't 0
abbrev pub seq_key : ℕ → Option ℕ
seq_key seq = if seq == 0 then None else Some (hash_of (seq ∷ []))

-- the hash of a state, of a kind
abbrev pub key_of : Kind → Sa → Option ℕ
key_of Spi s = Some (spi_hash s.spec.dst s.spec.spi s.spec.proto)
key_of Route s = Some (route_hash s.spec.dst s.spec.reqid)
key_of Seq s = seq_key s.spec.seq

-- the same by the words at the place of its record
unfoldable pub key_at : List ℕ → ℕ → Kind → Option ℕ
key_at image at Spi =
    Some (hash_of (slice_index image at ∷ slice_index image (at + 1) ∷ slice_index image (at + 2) ∷ slice_index image (at + 3) ∷ slice_index image (at + 4) ∷ []))
key_at image at Route =
    Some (hash_of (slice_index image at ∷ slice_index image (at + 1) ∷ slice_index image (at + 2) ∷ slice_index image (at + 7) ∷ []))
key_at image at Seq = seq_key (slice_index image (at + 18))
