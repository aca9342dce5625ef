-- Which chain of the exact part a policy stands in, by its selector alone, and in which one all stand that apply to a flow.
use Rattle.std.specs.Prelude.{ℕ, ◌%◌, ◌&&◌, ◌==◌, Bool, nat_le, if◌then◌else◌, List, [], ◌∷◌, ◌++◌, Option, None, Some}
use Rattle.xf_cells.specs.Hashing.{hash_from}
use Rattle.xf_records.specs.Codes.{high_word, low_word}
use Rattle.xf_types.specs.declared.network.Addr.{Addr}
use Rattle.xf_types.specs.declared.network.Dir.{Dir}
use Rattle.xf_types.specs.declared.network.Dir.TheVariants.{In, Out, Fwd}
use Rattle.xf_types.specs.declared.network.Flow.{Flow}
use Rattle.xf_types.specs.declared.network.Ptype.{Ptype}
use Rattle.xf_types.specs.declared.network.Selector.{Selector}
use Rattle.xf_types.specs.declared.policy.Policy.{Policy}
use Rattle.xf_types.specs.Address.{family_of, cut}
use Rattle.xf_types.specs.ExactPart.{local_prefix, remote_prefix}
use Rattle.xf_types.specs.Same.{dir_number, ptype_number}

-- the thresholds, local and remote, of the address's family
abbrev pub lens_of : ℕ × ℕ → ℕ × ℕ → Addr → ℕ × ℕ
lens_of h4 h6 addr = if family_of addr == 4 then h4 else h6

-- to how many bits a destination is cut: it is local where something comes in
abbrev pub dst_len : Dir → ℕ × ℕ → ℕ
dst_len In lens = lens.0
dst_len Out lens = lens.1
dst_len Fwd lens = lens.0

-- to how many bits a source is cut
abbrev pub src_len : Dir → ℕ × ℕ → ℕ
src_len In lens = lens.1
src_len Out lens = lens.0
src_len Fwd lens = lens.1

-- an address's words: its family, its high 64 bits, its low 64 bits
abbrev pub addr_words : Addr → List ℕ
addr_words addr = family_of addr ∷ high_word addr ∷ low_word addr ∷ []

-- the words that are hashed, for a destination and a source that are cut
unfoldable pub exact_words : Ptype → Dir → ℕ → Addr → Addr → List ℕ
exact_words ptype dir if_id dst src =
    ptype_number ptype ∷ dir_number dir ∷ if_id ∷ (addr_words dst ++ addr_words src)

-- the chain that these words name
abbrev pub words_number : List ℕ → ℕ
words_number words = hash_from 0x9E3779B97F4A7C15 words % 1024

-- the chain of two addresses, which are cut to the thresholds
abbrev pub exact_number : ℕ × ℕ → Ptype → Dir → ℕ → Addr → Addr → ℕ
exact_number lens ptype dir if_id dst src =
    words_number (exact_words ptype dir if_id (cut dst (dst_len dir lens)) (cut src (src_len dir lens)))

-- both prefixes are at least as long as these thresholds
abbrev pub is_exact_for : ℕ × ℕ → Dir → Selector → Bool
is_exact_for lens dir sel = nat_le lens.0 (local_prefix dir sel).len && nat_le lens.1 (remote_prefix dir sel).len

-- the chain of a selector, where the exact part takes it
abbrev pub spec_key : ℕ × ℕ → ℕ × ℕ → Dir → Ptype → ℕ → Selector → Option ℕ
spec_key h4 h6 dir ptype if_id sel =
    let lens = lens_of h4 h6 sel.src.addr in
    if is_exact_for lens dir sel then Some (exact_number lens ptype dir if_id sel.dst.addr sel.src.addr) else None

-- the chain of a policy, where the exact part takes it
abbrev pub exact_key : ℕ × ℕ → ℕ × ℕ → Policy → Option ℕ
exact_key h4 h6 p = spec_key h4 h6 p.spec.dir p.spec.ptype p.spec.if_id p.spec.sel

-- the chain of the exact part in which those policies of this ptype stand that apply to the flow
abbrev pub flow_number : ℕ × ℕ → ℕ × ℕ → Ptype → Flow → ℕ
flow_number h4 h6 ptype flow =
    exact_number (lens_of h4 h6 flow.src) ptype flow.dir flow.if_id flow.dst flow.src
