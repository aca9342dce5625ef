-- What a walk asks of the words of a record, without reading the record: each test reads the words that it names.
use Rattle.std.specs.Prelude.{ℕ, ◌+◌, Bool, not, ◌&&◌, ◌||◌, ◌==◌, List, [], ◌∷◌, ◌++◌, slice_index}
use Rattle.std.specs.Str.{bytes_eq}
use Rattle.xf_types.specs.declared.network.Addr.{Addr}
use Rattle.xf_types.specs.declared.network.Dir.{Dir}
use Rattle.xf_types.specs.declared.network.Flow.{Flow}
use Rattle.xf_types.specs.declared.network.Mark.{Mark}
use Rattle.xf_types.specs.declared.network.Proto.{Proto}
use Rattle.xf_types.specs.declared.network.Ptype.{Ptype}
use Rattle.xf_types.specs.declared.network.Selector.{Selector}
use Rattle.xf_types.specs.declared.policy.Mode.{Mode}
use Rattle.xf_types.specs.declared.policy.Template.{Template}
use Rattle.xf_types.specs.declared.state.SaId.{SaId}
use Rattle.xf_types.specs.Same.{dir_number, ptype_number, same_addr, same_proto, same_mode}
use Rattle.xf_types.specs.Selection.{in_prefix, matches_port}
use Rattle.xf_types.specs.PolicyList.{has_mark}
use Rattle.xf_types.specs.Candidates.{is_zero}
use Rattle.xf_records.specs.Codes.{small_in, byte_in, port_in, flag_in, proto_in, mode_in, addr_in}
use Rattle.xf_records.specs.Blocks.{fetched}
use Rattle.xf_records.specs.Parts.{prefix_in, selector_words}

-- the address at a place
abbrev pub addr_at : List ℕ → ℕ → Addr
addr_at image at = addr_in (slice_index image at) (slice_index image (at + 1)) (slice_index image (at + 2))

-- the mark at a place
abbrev pub mark_at : List ℕ → ℕ → Mark
mark_at image at = record { value = small_in (slice_index image at); mask = small_in (slice_index image (at + 1)) }

-- the mark, masked, is the wanted value
unfoldable pub has_mark_at : List ℕ → ℕ → ℕ → Bool
has_mark_at image at mark = has_mark mark (mark_at image at)

-- direction, ptype and interface are those asked for
unfoldable pub is_scope_at : List ℕ → ℕ → Ptype → Flow → Bool
is_scope_at image at ptype flow =
    (slice_index image at == dir_number flow.dir) && (slice_index image (at + 1) == ptype_number ptype)
    && (slice_index image (at + 2) == flow.if_id)

-- the prefix at a place, of this family, holds the address
unfoldable pub holds_at : List ℕ → ℕ → ℕ → Addr → Bool
holds_at image at family addr =
    in_prefix addr (prefix_in family (slice_index image at) (slice_index image (at + 1)) (slice_index image (at + 2)))

-- the protocol at a place is 0 or equal
unfoldable pub has_proto_at : List ℕ → ℕ → ℕ → Bool
has_proto_at image at proto = (byte_in (slice_index image at) == 0) || (byte_in (slice_index image at) == proto)

-- the port at a place is left out or equal
unfoldable pub has_port_at : List ℕ → ℕ → ℕ → Bool
has_port_at image at port = matches_port (port_in (slice_index image at)) port

-- the selector at a place matches the flow
unfoldable pub matches_at : List ℕ → ℕ → Flow → Bool
matches_at image at flow =
    holds_at image (at + 1) (slice_index image at) flow.src && holds_at image (at + 4) (slice_index image at) flow.dst
    && has_proto_at image (at + 7) flow.proto && has_port_at image (at + 8) flow.sport && has_port_at image (at + 9) flow.dport

-- the policy at a place applies to the flow, asked as one of this ptype
unfoldable pub applies_at : List ℕ → ℕ → Ptype → Flow → Bool
applies_at image at ptype flow =
    is_scope_at image at ptype flow && matches_at image (at + 3) flow && has_mark_at image (at + 13) flow.mark

-- the number at a place is this one
unfoldable pub is_word_at : List ℕ → ℕ → ℕ → Bool
is_word_at image at word = slice_index image at == word

-- these words stand at a place
abbrev pub are_words_at : List ℕ → ℕ → List ℕ → Bool
are_words_at image at words = bytes_eq words (fetched image at words)

-- the words of what a policy is listed under
unfoldable pub under_words : Dir → Ptype → Selector → Mark → ℕ → List ℕ
under_words dir ptype sel mark if_id =
    dir_number dir ∷ ptype_number ptype ∷ if_id ∷ (selector_words sel ++ (mark.value ∷ mark.mask ∷ []))

-- the policy at a place is listed under these
unfoldable pub is_under_at : List ℕ → ℕ → Dir → Ptype → Selector → Mark → ℕ → Bool
is_under_at image at dir ptype sel mark if_id = are_words_at image at (under_words dir ptype sel mark if_id)

-- the policy at a place has this index
unfoldable pub has_index_at : List ℕ → ℕ → ℕ → Bool
has_index_at image at index = is_word_at image (at + 17) index

-- the address at a place is this one
unfoldable pub is_addr_at : List ℕ → ℕ → Addr → Bool
is_addr_at image at addr = same_addr (addr_at image at) addr

-- the protocol at a place is this one
unfoldable pub is_proto_at : List ℕ → ℕ → Proto → Bool
is_proto_at image at proto = same_proto (proto_in (slice_index image at)) proto

-- the mode at a place is this one
unfoldable pub is_mode_at : List ℕ → ℕ → Mode → Bool
is_mode_at image at mode = same_mode (mode_in (slice_index image at)) mode

-- the state at a place is named by the id
unfoldable pub has_id_at : List ℕ → ℕ → SaId → Bool
has_id_at image at id =
    is_addr_at image at id.dst && is_word_at image (at + 3) id.spi && is_proto_at image (at + 4) id.proto
    && has_mark_at image (at + 5) id.mark

-- request, mode, protocol and interface are those of the template and the flow
unfoldable pub is_request_at : List ℕ → ℕ → Template → Flow → Bool
is_request_at image at t flow =
    is_word_at image (at + 7) t.reqid && is_mode_at image (at + 8) t.mode && is_proto_at image (at + 4) t.proto
    && is_word_at image (at + 9) flow.if_id

-- the SPI at a place is the one that is wanted, where one is
unfoldable pub has_spi_at : List ℕ → ℕ → ℕ → Bool
has_spi_at image at spi = (spi == 0) || (spi == slice_index image at)

-- the source at a place is this one, or one of the two is zero
unfoldable pub is_source_at : List ℕ → ℕ → Addr → Bool
is_source_at image at src = same_addr (addr_at image at) src || is_zero (addr_at image at) || is_zero src

-- the selector at a place matches, where there is one
unfoldable pub is_selected_at : List ℕ → ℕ → Flow → Bool
is_selected_at image at flow = (slice_index image at == 0) || matches_at image (at + 1) flow

-- the flag at a place is off
unfoldable pub is_off_at : List ℕ → ℕ → Bool
is_off_at image at = not (flag_in (slice_index image at))

-- destination and source are those that the template is used with, and its SPI, where it gives one
unfoldable pub is_used_at : List ℕ → ℕ → Template → Addr → Addr → Bool
is_used_at image at t src dst =
    is_addr_at image at dst && has_spi_at image (at + 3) t.spi && is_source_at image (at + 10) src

-- mark and selector fit the flow, and the state isn't a wildcard for what comes in
unfoldable pub is_fit_at : List ℕ → ℕ → Flow → Bool
is_fit_at image at flow =
    has_mark_at image (at + 5) flow.mark && is_selected_at image (at + 19) flow && is_off_at image (at + 13)

-- the state at a place suits a template that is used with these addresses
unfoldable pub suits_at : List ℕ → ℕ → Template → Flow → Addr → Addr → Bool
suits_at image at t flow src dst =
    is_request_at image at t flow && is_used_at image at t src dst && is_fit_at image at flow
