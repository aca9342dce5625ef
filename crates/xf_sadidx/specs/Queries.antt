-- What is asked of a state, and what is asked of its words.
use Rattle.std.specs.Prelude.{ℕ, Bool, false, not, ◌&&◌, ◌==◌, List, Option, None, Some}
use Rattle.xf_types.specs.declared.network.Addr.{Addr}
use Rattle.xf_types.specs.declared.network.Proto.{Proto}
use Rattle.xf_types.specs.declared.state.Sa.{Sa}
use Rattle.xf_types.specs.Same.{same_addr, same_proto}
use Rattle.xf_types.specs.StateList.{has_id, has_sid}
use Rattle.xf_types.specs.Candidates.{suits}
use Rattle.xf_records.specs.States.{state_at}
use Rattle.xf_asked.specs.Asked.{has_id_at, suits_at}
use Rattle.xf_asked.specs.Fields.{sid_at, larval_at}
use Rattle.xf_sadidx.specs.declared.area.StateArea.{StateArea}
use Rattle.xf_sadidx.specs.declared.query.StateQuery.{StateQuery}
use Rattle.xf_sadidx.specs.declared.query.StateQuery.TheVariants.{Named, Beside, Candidate, Larval, Replaced, Number, Numbered}
use Rattle.xf_sadidx.specs.Layout.{record_place}

-- a larval state with this sequence number, protocol and destination
abbrev pub is_larval : ℕ → Proto → Addr → Sa → Bool
is_larval seq proto dst s = s.larval && (s.spec.seq == seq) && same_proto s.spec.proto proto && same_addr s.spec.dst dst

-- a state with this destination, SPI and protocol, whatever its mark
abbrev pub has_number : Addr → Proto → ℕ → Sa → Bool
has_number dst proto spi s = same_addr s.spec.dst dst && (s.spec.spi == spi) && same_proto s.spec.proto proto

-- a state with this sequence number
abbrev pub has_seq : ℕ → Sa → Bool
has_seq seq s = s.spec.seq == seq

-- the state is what is asked for
abbrev pub meets : StateQuery → Sa → Bool
meets (Named id) s = has_id id s
meets (Beside id sid) s = has_id id s && not (has_sid sid s)
meets (Candidate t flow src dst) s = suits t flow src dst s && not s.larval
meets (Larval t flow src dst) s = suits t flow src dst s && s.larval
meets (Replaced seq proto dst) s = is_larval seq proto dst s
meets (Number dst proto spi) s = has_number dst proto spi s
meets (Numbered seq) s = has_seq seq s

-- there is a state, and it is
abbrev pub meets_if : StateQuery → Option Sa → Bool
meets_if query None = false
meets_if query (Some s) = meets query s

-- the state at a place is larval and has these
abbrev pub is_larval_at : List ℕ → ℕ → ℕ → Proto → Addr → Bool
is_larval_at image at seq proto dst = meets_if (Replaced seq proto dst) (state_at image at)

-- it has this destination, protocol and SPI
abbrev pub has_number_at : List ℕ → ℕ → Addr → Proto → ℕ → Bool
has_number_at image at dst proto spi = meets_if (Number dst proto spi) (state_at image at)

-- it has this sequence number
abbrev pub has_seq_at : List ℕ → ℕ → ℕ → Bool
has_seq_at image at seq = meets_if (Numbered seq) (state_at image at)

-- the state at a place is what is asked for, by its words
unfoldable pub meets_at : List ℕ → ℕ → StateQuery → Bool
meets_at image at (Named id) = has_id_at image at id
meets_at image at (Beside id sid) = has_id_at image at id && not (sid_at image at == sid)
meets_at image at (Candidate t flow src dst) = suits_at image at t flow src dst && not (larval_at image at)
meets_at image at (Larval t flow src dst) = suits_at image at t flow src dst && larval_at image at
meets_at image at (Replaced seq proto dst) = is_larval_at image at seq proto dst
meets_at image at (Number dst proto spi) = has_number_at image at dst proto spi
meets_at image at (Numbered seq) = has_seq_at image at seq

-- the state in a slot is, by its words
unfoldable pub meets_in : StateArea → List ℕ → StateQuery → ℕ → Bool
meets_in a image query slot = meets_at image (record_place a slot) query
