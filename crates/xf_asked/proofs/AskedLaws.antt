-- What a walk asks of the words is what the definitions ask of the record that stands there.
use Rattle.std.proofs.Common.{◌≡◌, ℕ, ◌+◌, ◌<◌, ◌==◌, ◌&&◌, ◌||◌, not, Bool, true, false, List, length, Some, slice_index, refl, ap, ◌∙◌, subst, arith, lit<, lit≤}
use Rattle.std.specs.Str.{bytes_eq}
use Rattle.xf_types.specs.declared.network.Addr.{Addr}
use Rattle.xf_types.specs.declared.network.Dir.{Dir}
use Rattle.xf_types.specs.declared.network.Flow.{Flow}
use Rattle.xf_types.specs.declared.network.Mark.{Mark}
use Rattle.xf_types.specs.declared.network.Ptype.{Ptype}
use Rattle.xf_types.specs.declared.network.Selector.{Selector}
use Rattle.xf_types.specs.declared.policy.Policy.{Policy}
use Rattle.xf_types.specs.declared.policy.Template.{Template}
use Rattle.xf_types.specs.declared.state.Sa.{Sa}
use Rattle.xf_types.specs.declared.state.SaId.{SaId}
use Rattle.xf_types.specs.Same.{same_dir, same_ptype, same_addr, same_proto, same_mode, dir_number, ptype_number}
use Rattle.xf_types.specs.Selection.{matches}
use Rattle.xf_types.specs.PolicyList.{applies, has_mark, is_under, has_index}
use Rattle.xf_types.specs.StateList.{has_id}
use Rattle.xf_types.specs.Candidates.{suits, is_zero, matches_if_given}
use Rattle.xf_types.specs.Address.{family_of}
use Rattle.xf_records.specs.Blocks.{Stands}
use Rattle.xf_records.specs.Parts.{selector_words, selector_of}
use Rattle.xf_records.specs.Policies.{plain_words, PlainFits, policy_at}
use Rattle.xf_records.specs.States.{sel_or, state_words, StateFits, state_at}
use Rattle.xf_asked.specs.Asked.{has_mark_at, is_scope_at, matches_at, applies_at, under_words, is_under_at, has_index_at, has_id_at, is_request_at, is_used_at, is_fit_at, suits_at}
use Rattle.xf_records.proofs.BlockLaws.{fetched_size, stands_front, stands_at, stands_within}
use Rattle.xf_records.proofs.CodeLaws.{selector_back}
use Rattle.xf_records.proofs.PolicyLaws.{policy_fits, policy_read}
use Rattle.xf_records.proofs.StateLaws.{state_fits, state_read}
use Rattle.xf_asked.proofs.WordLaws.{matches_is, mark_is, addr_at_is, is_addr_is, is_word_is, is_proto_is, is_mode_is, has_spi_is, is_source_is, is_off_is, is_selected_is}
use Rattle.xf_asked.proofs.UnderLaws.{under_equal}

-- ---- policies

scope_is : (image : List ℕ) (at : ℕ) (ptype : Ptype) (flow : Flow) (p : Policy) → slice_index image at ≡ dir_number p.spec.dir
    → slice_index image (at + 1) ≡ ptype_number p.spec.ptype → slice_index image (at + 2) ≡ p.spec.if_id
    → is_scope_at image at ptype flow ≡ (same_dir p.spec.dir flow.dir && same_ptype p.spec.ptype ptype && (p.spec.if_id == flow.if_id))
unfolding is_scope_at
scope_is image at ptype flow p d t i = rw (d, t, i) refl

pub policy_asked : (image : List ℕ) (at : ℕ) (ptype : Ptype) (flow : Flow) (p : Policy) → PlainFits p → Stands image at (plain_words p)
    → applies_at image at ptype flow ≡ applies ptype flow p
unfolding applies_at plain_words
policy_asked image at ptype flow p f s =
    let word : (k : ℕ) → k < 34 → slice_index image (at + k) ≡ slice_index (plain_words p) k = stands_at image at (plain_words p) s in
    let first : slice_index image at ≡ dir_number p.spec.dir = ap (slice_index image) (omega arith) ∙ word 0 (lit< tt) in
    let sel : selector_of image (at + 3) ≡ p.spec.sel =
    selector_back image (at + 3) p.spec.sel f.sel (stands_within image at (plain_words p) s 3 (selector_words p.spec.sel) (lit≤ tt) refl) in
    let after : at + 13 + 1 ≡ at + 14 = omega arith in
    let a = scope_is image at ptype flow p first (word 1 (lit< tt)) (word 2 (lit< tt)) in
    let b : matches_at image (at + 3) flow ≡ matches p.spec.sel flow = matches_is image (at + 3) flow ∙ ap (λ q. matches q flow) sel in
    let c : has_mark_at image (at + 13) flow.mark ≡ has_mark flow.mark p.spec.mark =
    mark_is image (at + 13) flow.mark p.spec.mark f.value f.mask (word 13 (lit< tt)) (ap (slice_index image) after ∙ word 14 (lit< tt)) in
    ap (λ x. x && matches_at image (at + 3) flow && has_mark_at image (at + 13) flow.mark) a
    ∙ ap (λ x. same_dir p.spec.dir flow.dir && same_ptype p.spec.ptype ptype && (p.spec.if_id == flow.if_id) && x && has_mark_at image (at + 13) flow.mark) b
    ∙ ap (λ x. same_dir p.spec.dir flow.dir && same_ptype p.spec.ptype ptype && (p.spec.if_id == flow.if_id) && matches p.spec.sel flow && x) c

pub policy_asks : (image : List ℕ) (at : ℕ) (ptype : Ptype) (flow : Flow) (p : Policy) → policy_at image at ≡ Some p
    → applies_at image at ptype flow ≡ applies ptype flow p
policy_asks image at ptype flow p h =
    policy_asked image at ptype flow p (policy_fits image at p h).plain (stands_front image at (plain_words p) _ (policy_read image at p h))

under_stands : (image : List ℕ) (at : ℕ) (p : Policy) → Stands image at (plain_words p)
    → Stands image at (under_words p.spec.dir p.spec.ptype p.spec.sel p.spec.mark p.spec.if_id)
unfolding plain_words under_words
under_stands image at p s =
    let own : List ℕ = under_words p.spec.dir p.spec.ptype p.spec.sel p.spec.mark p.spec.if_id in
    let e : at + 0 ≡ at = omega arith in
    subst (λ q. Stands image q own) e (stands_within image at (plain_words p) s 0 own (lit≤ tt) refl)

under_size : (dir other_dir : Dir) (ptype other_ptype : Ptype) (sel other_sel : Selector) (mark other_mark : Mark) (if_id other_if_id : ℕ)
    → length (under_words dir ptype sel mark if_id) ≡ length (under_words other_dir other_ptype other_sel other_mark other_if_id)
unfolding under_words
under_size dir other_dir ptype other_ptype sel other_sel mark other_mark if_id other_if_id = refl

pub policy_under : (image : List ℕ) (at : ℕ) (dir : Dir) (ptype : Ptype) (sel : Selector) (mark : Mark) (if_id : ℕ) (p : Policy)
    → policy_at image at ≡ Some p → is_under_at image at dir ptype sel mark if_id ≡ is_under dir ptype sel mark if_id p.spec
unfolding is_under_at
policy_under image at dir ptype sel mark if_id p h =
    let own : List ℕ = under_words p.spec.dir p.spec.ptype p.spec.sel p.spec.mark p.spec.if_id in
    let asked : List ℕ = under_words dir ptype sel mark if_id in
    let s : Stands image at own = under_stands image at p (stands_front image at (plain_words p) _ (policy_read image at p h)) in
    let size : length asked ≡ length own = under_size dir p.spec.dir ptype p.spec.ptype sel p.spec.sel mark p.spec.mark if_id p.spec.if_id in
    ap (bytes_eq asked) (fetched_size image at asked own size ∙ s) ∙ under_equal dir ptype sel mark if_id p.spec

pub policy_index : (image : List ℕ) (at index : ℕ) (p : Policy) → policy_at image at ≡ Some p → has_index_at image at index ≡ has_index index p
unfolding has_index_at plain_words
policy_index image at index p h =
    let s : Stands image at (plain_words p) = stands_front image at (plain_words p) _ (policy_read image at p h) in
    is_word_is image (at + 17) index p.index (stands_at image at (plain_words p) s 17 (lit< tt))

-- ---- states

pub state_asked : (image : List ℕ) (at : ℕ) (id : SaId) (s : Sa) → StateFits s → Stands image at (state_words s) → has_id_at image at id ≡ has_id id s
unfolding has_id_at state_words
state_asked image at id s f h =
    let word : (k : ℕ) → k < 46 → slice_index image (at + k) ≡ slice_index (state_words s) k = stands_at image at (state_words s) h in
    let first : slice_index image at ≡ family_of s.spec.dst = ap (slice_index image) (omega arith) ∙ word 0 (lit< tt) in
    let after : at + 5 + 1 ≡ at + 6 = omega arith in
    rw (
      is_addr_is image at s.spec.dst id.dst (addr_at_is image at s.spec.dst f.dst first (word 1 (lit< tt)) (word 2 (lit< tt))),
      is_word_is image (at + 3) id.spi s.spec.spi (word 3 (lit< tt)),
      is_proto_is image (at + 4) s.spec.proto id.proto (word 4 (lit< tt)),
      mark_is image (at + 5) id.mark s.spec.mark f.value f.mask (word 5 (lit< tt)) (ap (slice_index image) after ∙ word 6 (lit< tt)),
    ) refl

-- the ten tests in three groups are the ten tests in a row
in_groups : (r d s c m e o : Bool) → ((r && (d && s && c)) && (m && e && o)) ≡ (r && d && s && c && m && e && o)
in_groups false d s c m e o = refl
in_groups true false s c m e o = refl
in_groups true true false c m e o = refl
in_groups true true true false m e o = refl
in_groups true true true true false e o = refl
in_groups true true true true true e o = refl

pub state_suited : (image : List ℕ) (at : ℕ) (t : Template) (flow : Flow) (src dst : Addr) (s : Sa) → StateFits s → Stands image at (state_words s)
    → suits_at image at t flow src dst ≡ suits t flow src dst s
unfolding suits_at is_request_at is_used_at is_fit_at state_words
state_suited image at t flow src dst s f h =
    let word : (k : ℕ) → k < 46 → slice_index image (at + k) ≡ slice_index (state_words s) k = stands_at image at (state_words s) h in
    let first : slice_index image at ≡ family_of s.spec.dst = ap (slice_index image) (omega arith) ∙ word 0 (lit< tt) in
    let after : at + 5 + 1 ≡ at + 6 = omega arith in
    let after1 : at + 10 + 1 ≡ at + 11 = omega arith in
    let after2 : at + 10 + 2 ≡ at + 12 = omega arith in
    let after3 : at + 20 ≡ at + 19 + 1 = omega arith in
    let sel : Stands image (at + 19 + 1) (selector_words (sel_or s.spec.sel)) =
    subst (λ q. Stands image q (selector_words (sel_or s.spec.sel))) after3
    (stands_within image at (state_words s) h 20 (selector_words (sel_or s.spec.sel)) (lit≤ tt) refl) in
    rw (
      is_word_is image (at + 7) t.reqid s.spec.reqid (word 7 (lit< tt)),
      is_mode_is image (at + 8) s.spec.mode t.mode (word 8 (lit< tt)),
      is_proto_is image (at + 4) s.spec.proto t.proto (word 4 (lit< tt)),
      is_word_is image (at + 9) flow.if_id s.spec.if_id (word 9 (lit< tt)),
      is_addr_is image at s.spec.dst dst (addr_at_is image at s.spec.dst f.dst first (word 1 (lit< tt)) (word 2 (lit< tt))),
      has_spi_is image (at + 3) t.spi s.spec.spi (word 3 (lit< tt)),
      is_source_is image (at + 10) s.spec.src src (addr_at_is image (at + 10) s.spec.src f.src (word 10 (lit< tt))
          (ap (slice_index image) after1 ∙ word 11 (lit< tt)) (ap (slice_index image) after2 ∙ word 12 (lit< tt))),
      mark_is image (at + 5) flow.mark s.spec.mark f.value f.mask (word 5 (lit< tt)) (ap (slice_index image) after ∙ word 6 (lit< tt)),
      is_selected_is image (at + 19) flow s.spec.sel f.sel (word 19 (lit< tt)) sel,
      is_off_is image (at + 13) s.spec.wildrecv (word 13 (lit< tt)),
    )
    (in_groups ((s.spec.reqid == t.reqid) && same_mode s.spec.mode t.mode && same_proto s.spec.proto t.proto && (s.spec.if_id == flow.if_id))
    (same_addr s.spec.dst dst) ((t.spi == 0) || (t.spi == s.spec.spi)) (same_addr s.spec.src src || is_zero s.spec.src || is_zero src)
    (has_mark flow.mark s.spec.mark) (matches_if_given s.spec.sel flow) (not s.spec.wildrecv))

pub state_asks : (image : List ℕ) (at : ℕ) (id : SaId) (s : Sa) → state_at image at ≡ Some s → has_id_at image at id ≡ has_id id s
state_asks image at id s h = state_asked image at id s (state_fits image at s h) (state_read image at s h)

pub state_suits : (image : List ℕ) (at : ℕ) (t : Template) (flow : Flow) (src dst : Addr) (s : Sa) → state_at image at ≡ Some s
    → suits_at image at t flow src dst ≡ suits t flow src dst s
state_suits image at t flow src dst s h = state_suited image at t flow src dst s (state_fits image at s h) (state_read image at s h)
