-- What applies to a flow has the flow's own chain, where the exact part takes it.
use Rattle.std.proofs.Common.{◌≡◌, ℕ, Decides, ◌<◌, ◌≤◌, ◌==◌, Bool, true, false, cond, ◌&&◌, ◌||◌, List, None, Some, refl, ap, sym, ◌∙◌, arith, nat_le, if◌then◌else◌}
use Rattle.std.proofs.lemmas.Bool.{leb-true}
use Rattle.std.proofs.lemmas.Bool.Decides.{Decides-and, Decides-eqb, nat_tests}
use Rattle.xf_types.specs.declared.network.Addr.{Addr}
use Rattle.xf_types.specs.declared.network.Dir.{Dir}
use Rattle.xf_types.specs.declared.network.Dir.TheVariants.{In, Out, Fwd}
use Rattle.xf_types.specs.declared.network.Flow.{Flow}
use Rattle.xf_types.specs.declared.network.Prefix.{Prefix}
use Rattle.xf_types.specs.declared.network.Ptype.{Ptype}
use Rattle.xf_types.specs.declared.network.Mark.{Mark}
use Rattle.xf_types.specs.declared.network.Selector.{Selector}
use Rattle.xf_types.specs.declared.policy.Policy.{Policy}
use Rattle.xf_types.specs.Address.{family_of, first_bits, cut}
use Rattle.xf_types.specs.PolicyList.{AreSame, applies, has_mark, is_under}
use Rattle.xf_types.specs.Same.{same_dir, same_ptype}
use Rattle.xf_types.specs.Selection.{in_prefix, matches, matches_port}
use Rattle.xf_types.proofs.Decisions.{Decides-same_dir, Decides-same_ptype, Decides-is_same}
use Rattle.xf_image.specs.ExactKeys.{lens_of, dst_len, src_len, exact_words, words_number, exact_number, is_exact_for, spec_key, exact_key, flow_number}
use Rattle.xf_image.proofs.CutLaws.{cut_same}

-- an address is in a prefix by family and first bits
is_in : (addr : Addr) (prefix : Prefix)
    → Decides (in_prefix addr prefix) ((family_of prefix.addr ≡ family_of addr) × (first_bits prefix.addr prefix.len ≡ first_bits addr prefix.len))
is_in addr prefix =
    Decides-and (family_of prefix.addr == family_of addr) (first_bits prefix.addr prefix.len == first_bits addr prefix.len)
    (Decides-eqb _ _) (Decides-eqb _ _)

-- an address in a prefix, cut to no more bits than the prefix has
in_cut : (addr : Addr) (prefix : Prefix) (less : ℕ) → in_prefix addr prefix ≡ true → less ≤ prefix.len
    → cut prefix.addr less ≡ cut addr less
in_cut addr prefix less e h =
    let both = (is_in addr prefix).0 e in
    cut_same prefix.addr addr prefix.len less h both.0 both.1

reaches : (a b : ℕ) → Decides (nat_le a b) (a ≤ b)
reaches a b = (λ h. leb-true a b h, λ h. grind (arith, nat_tests))

-- what is exact has prefixes as long as what destination and source are cut to
fits : (lens : ℕ × ℕ) (dir : Dir) (sel : Selector) → is_exact_for lens dir sel ≡ true
    → (dst_len dir lens ≤ sel.dst.len) × (src_len dir lens ≤ sel.src.len)
fits lens In sel e =
    let both = (Decides-and (nat_le lens.0 sel.dst.len) (nat_le lens.1 sel.src.len) (reaches _ _) (reaches _ _)).0 e in
    (both.0, both.1)
fits lens Out sel e =
    let both = (Decides-and (nat_le lens.0 sel.src.len) (nat_le lens.1 sel.dst.len) (reaches _ _) (reaches _ _)).0 e in
    (both.1, both.0)
fits lens Fwd sel e =
    let both = (Decides-and (nat_le lens.0 sel.dst.len) (nat_le lens.1 sel.src.len) (reaches _ _) (reaches _ _)).0 e in
    (both.0, both.1)

-- What a policy and a flow have in common, where the one applies to the other.
pub record Agree (asked : Ptype) (flow : Flow) (p : Policy) : Type 0 where
  pub dir : p.spec.dir ≡ flow.dir
  pub ptype : p.spec.ptype ≡ asked
  pub if_id : p.spec.if_id ≡ flow.if_id
  pub src : in_prefix flow.src p.spec.sel.src ≡ true
  pub dst : in_prefix flow.dst p.spec.sel.dst ≡ true

itself : (b : Bool) → Decides b (b ≡ true)
itself b = (λ h. h, λ h. h)

pub agree : (ptype : Ptype) (flow : Flow) (p : Policy) → applies ptype flow p ≡ true → Agree ptype flow p
agree ptype flow p e =
    let d = same_dir p.spec.dir flow.dir in
    let t = same_ptype p.spec.ptype ptype in
    let i = p.spec.if_id == flow.if_id in
    let src = in_prefix flow.src p.spec.sel.src in
    let dst = in_prefix flow.dst p.spec.sel.dst in
    let proto = (p.spec.sel.proto == 0) || (p.spec.sel.proto == flow.proto) in
    let sport = matches_port p.spec.sel.sport flow.sport in
    let dport = matches_port p.spec.sel.dport flow.dport in
    let sel =
    Decides-and (((src && dst) && proto) && sport) dport
    (Decides-and ((src && dst) && proto) sport
    (Decides-and (src && dst) proto (Decides-and src dst (itself src) (itself dst)) (itself proto)) (itself sport))
    (itself dport) in
    let all =
    (Decides-and (((d && t) && i) && matches p.spec.sel flow) (has_mark flow.mark p.spec.mark)
    (Decides-and ((d && t) && i) (matches p.spec.sel flow)
    (Decides-and (d && t) i (Decides-and d t (Decides-same_dir p.spec.dir flow.dir) (Decides-same_ptype p.spec.ptype ptype)) (Decides-eqb _ _))
    sel)
    (itself (has_mark flow.mark p.spec.mark))).0 e in
    record {
      dir = all.0.0.0.0;
      ptype = all.0.0.0.1;
      if_id = all.0.0.1;
      src = all.0.1.0.0.0.0;
      dst = all.0.1.0.0.0.1;
    }

-- the family of a selector's source is that of the flow's
one_lens : (h4 h6 : ℕ × ℕ) (addr : Addr) (prefix : Prefix) → in_prefix addr prefix ≡ true → lens_of h4 h6 prefix.addr ≡ lens_of h4 h6 addr
one_lens h4 h6 addr prefix e = ap (λ n. if n == 4 then h4 else h6) ((is_in addr prefix).0 e).0

-- the chain of a policy's addresses is that of a flow to which it applies
same_number : (lens : ℕ × ℕ) (ptype : Ptype) (flow : Flow) (p : Policy) → Agree ptype flow p → is_exact_for lens p.spec.dir p.spec.sel ≡ true
    → exact_number lens p.spec.ptype p.spec.dir p.spec.if_id p.spec.sel.dst.addr p.spec.sel.src.addr
    ≡ exact_number lens ptype flow.dir flow.if_id flow.dst flow.src
same_number lens ptype flow p a e =
    let dst : cut p.spec.sel.dst.addr (dst_len p.spec.dir lens) ≡ cut flow.dst (dst_len p.spec.dir lens) =
    in_cut flow.dst p.spec.sel.dst (dst_len p.spec.dir lens) a.dst (fits lens p.spec.dir p.spec.sel e).0 in
    let src : cut p.spec.sel.src.addr (src_len p.spec.dir lens) ≡ cut flow.src (src_len p.spec.dir lens) =
    in_cut flow.src p.spec.sel.src (src_len p.spec.dir lens) a.src (fits lens p.spec.dir p.spec.sel e).1 in
    ap (λ d. words_number (exact_words p.spec.ptype p.spec.dir p.spec.if_id d (cut p.spec.sel.src.addr (src_len p.spec.dir lens)))) dst
    ∙ ap (λ s. words_number (exact_words p.spec.ptype p.spec.dir p.spec.if_id (cut flow.dst (dst_len p.spec.dir lens)) s)) src
    ∙ ap (λ t. words_number (exact_words t p.spec.dir p.spec.if_id (cut flow.dst (dst_len p.spec.dir lens)) (cut flow.src (src_len p.spec.dir lens)))) a.ptype
    ∙ ap (λ i. words_number (exact_words ptype p.spec.dir i (cut flow.dst (dst_len p.spec.dir lens)) (cut flow.src (src_len p.spec.dir lens)))) a.if_id
    ∙ ap (λ d. words_number (exact_words ptype d flow.if_id (cut flow.dst (dst_len d lens)) (cut flow.src (src_len d lens)))) a.dir

key_by : (lens : ℕ × ℕ) (ptype : Ptype) (flow : Flow) (p : Policy) (b : Bool) (k : ℕ) → Agree ptype flow p
    → is_exact_for lens p.spec.dir p.spec.sel ≡ b
    → cond b (Some (exact_number lens p.spec.ptype p.spec.dir p.spec.if_id p.spec.sel.dst.addr p.spec.sel.src.addr)) None ≡ Some k
    → k ≡ exact_number lens ptype flow.dir flow.if_id flow.dst flow.src
key_by lens ptype flow p true k a e h =
    let n : exact_number lens p.spec.ptype p.spec.dir p.spec.if_id p.spec.sel.dst.addr p.spec.sel.src.addr ≡ k = cc in
    sym n ∙ same_number lens ptype flow p a e
key_by lens ptype flow p false k a e h = absurd (cc)

-- what applies to a flow and is exact has the flow's chain
pub flow_key : (h4 h6 : ℕ × ℕ) (ptype : Ptype) (flow : Flow) (p : Policy) (k : ℕ) → applies ptype flow p ≡ true
    → exact_key h4 h6 p ≡ Some k → k ≡ flow_number h4 h6 ptype flow
flow_key h4 h6 ptype flow p k e h =
    let a : Agree ptype flow p = agree ptype flow p e in
    let lens : ℕ × ℕ = lens_of h4 h6 p.spec.sel.src.addr in
    key_by lens ptype flow p (is_exact_for lens p.spec.dir p.spec.sel) k a refl h
    ∙ ap (λ l. exact_number l ptype flow.dir flow.if_id flow.dst flow.src) (one_lens h4 h6 flow.src p.spec.sel.src a.src)

-- no chain's number is past the last one
pub words_below : (words : List ℕ) → words_number words < 1024
words_below words = omega arith

below_by : (b : Bool) (n k : ℕ) → n < 1024 → cond b (Some n) None ≡ Some k → k < 1024
below_by true n k l h = let e : n ≡ k = cc in omega (arith, l, e)
below_by false n k l h = absurd (cc)

pub key_below : (h4 h6 : ℕ × ℕ) (p : Policy) (k : ℕ) → exact_key h4 h6 p ≡ Some k → k < 1024
key_below h4 h6 p k h =
    let lens : ℕ × ℕ = lens_of h4 h6 p.spec.sel.src.addr in
    below_by (is_exact_for lens p.spec.dir p.spec.sel) (exact_number lens p.spec.ptype p.spec.dir p.spec.if_id p.spec.sel.dst.addr p.spec.sel.src.addr) k
    (words_below (exact_words p.spec.ptype p.spec.dir p.spec.if_id (cut p.spec.sel.dst.addr (dst_len p.spec.dir lens)) (cut p.spec.sel.src.addr (src_len p.spec.dir lens)))) h

-- what is listed under a selector has the selector's chain
pub under_key : (h4 h6 : ℕ × ℕ) (dir : Dir) (ptype : Ptype) (sel : Selector) (mark : Mark) (if_id : ℕ) (p : Policy)
    → is_under dir ptype sel mark if_id p.spec ≡ true → exact_key h4 h6 p ≡ spec_key h4 h6 dir ptype if_id sel
under_key h4 h6 dir ptype sel mark if_id p e =
    let asked = record p.spec { dir = dir; ptype = ptype; sel = sel; mark = mark; if_id = if_id } in
    let same : AreSame asked p.spec = (Decides-is_same asked p.spec).0 e in
    ap (λ d. spec_key h4 h6 d p.spec.ptype p.spec.if_id p.spec.sel) (sym same.dir)
    ∙ ap (λ t. spec_key h4 h6 dir t p.spec.if_id p.spec.sel) (sym same.ptype)
    ∙ ap (λ i. spec_key h4 h6 dir ptype i p.spec.sel) (sym same.if_id)
    ∙ ap (λ s. spec_key h4 h6 dir ptype if_id s) (sym same.sel)
