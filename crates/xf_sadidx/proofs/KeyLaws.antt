-- The hashes of a state, by its words and by what is asked.
use Rattle.std.proofs.Common.{◌≡◌, ◌≢◌, ℕ, ◌+◌, ◌<◌, ◌≤◌, Bool, true, false, not, ◌&&◌, ◌||◌, ◌==◌, cond, List, [], ◌∷◌, None, Some, slice_index, refl, ap, ◌∙◌, arith, lit<}
use Rattle.std.proofs.lemmas.Bool.Decides.{nat_tests}
use Rattle.xf_types.specs.declared.network.Addr.{Addr}
use Rattle.xf_types.specs.declared.network.Addr.TheVariants.{V4, V6}
use Rattle.xf_types.specs.declared.network.Flow.{Flow}
use Rattle.xf_types.specs.declared.network.Proto.{Proto}
use Rattle.xf_types.specs.declared.policy.Template.{Template}
use Rattle.xf_types.specs.declared.state.Sa.{Sa}
use Rattle.xf_types.specs.declared.state.SaId.{SaId}
use Rattle.xf_types.specs.Address.{family_of}
use Rattle.xf_types.specs.Same.{same_addr, same_proto, proto_number, same_mode}
use Rattle.xf_types.specs.StateList.{has_id, has_sid}
use Rattle.xf_types.specs.PolicyList.{has_mark}
use Rattle.xf_types.specs.Candidates.{suits, is_zero, matches_if_given}
use Rattle.xf_records.specs.Codes.{high_word, low_word}
use Rattle.xf_records.specs.States.{state_words, state_at}
use Rattle.xf_records.proofs.BlockLaws.{stands_at}
use Rattle.xf_records.proofs.StateLaws.{state_read}
use Rattle.xf_sadidx.specs.declared.kind.Kind.{Kind}
use Rattle.xf_sadidx.specs.declared.kind.Kind.TheVariants.{Spi, Route, Seq}
use Rattle.xf_sadidx.specs.Keys.{hash_of, spi_hash, route_hash, seq_key, key_of, key_at}
use Rattle.xf_sadidx.specs.Queries.{is_larval, has_number, has_seq}

-- ---- by its words

module _ (image : List ℕ) (at : ℕ) (s : Sa) (e : state_at image at ≡ Some s) where
  word : (k : ℕ) → k < 46 → slice_index image (at + k) ≡ slice_index (state_words s) k
  unfolding state_words
  word k l = stands_at image at (state_words s) (state_read image at s e) k l

  first : slice_index image at ≡ family_of s.spec.dst
  unfolding state_words
  first = ap (λ n. slice_index image n) (let z : at ≡ at + 0 = omega arith in z) ∙ word 0 (lit< tt)

  second : slice_index image (at + 1) ≡ high_word s.spec.dst
  unfolding state_words
  second = word 1 (lit< tt)

  third : slice_index image (at + 2) ≡ low_word s.spec.dst
  unfolding state_words
  third = word 2 (lit< tt)

  spi_word : slice_index image (at + 3) ≡ s.spec.spi
  unfolding state_words
  spi_word = word 3 (lit< tt)

  proto_word : slice_index image (at + 4) ≡ proto_number s.spec.proto
  unfolding state_words
  proto_word = word 4 (lit< tt)

  reqid_word : slice_index image (at + 7) ≡ s.spec.reqid
  unfolding state_words
  reqid_word = word 7 (lit< tt)

  seq_word : slice_index image (at + 18) ≡ s.spec.seq
  unfolding state_words
  seq_word = word 18 (lit< tt)

  pub key_is : (kind : Kind) → key_at image at kind ≡ key_of kind s
  unfolding key_at
  key_is Spi = rw (first, second, third, spi_word, proto_word) refl
  key_is Route = rw (first, second, third, reqid_word) refl
  key_is Seq = ap seq_key seq_word

-- it rests on the record's words alone
pub key_frame : (image words : List ℕ) (at : ℕ) (kind : Kind) → ((q : ℕ) → at ≤ q → q < at + 46 → slice_index words q ≡ slice_index image q)
    → key_at words at kind ≡ key_at image at kind
unfolding key_at
key_frame image words at Spi same =
    rw (
      same at (omega arith) (omega arith),
      same (at + 1) (omega arith) (omega arith),
      same (at + 2) (omega arith) (omega arith),
      same (at + 3) (omega arith) (omega arith),
      same (at + 4) (omega arith) (omega arith),
    ) refl
key_frame image words at Route same =
    rw (
      same at (omega arith) (omega arith),
      same (at + 1) (omega arith) (omega arith),
      same (at + 2) (omega arith) (omega arith),
      same (at + 7) (omega arith) (omega arith),
    ) refl
key_frame image words at Seq same = ap seq_key (same (at + 18) (omega arith) (omega arith))

-- ---- by what is asked

both : (a b : Bool) → (a && b) ≡ true → (a ≡ true) × (b ≡ true)
both true b e = (refl, e)
both false b e = absurd (cc)

pub addr_same : (a b : Addr) → same_addr a b ≡ true → a ≡ b
addr_same (V4 a) (V4 b) e = let n : a ≡ b = grind (arith, nat_tests) in ap V4 n
addr_same (V4 a) (V6 b) e = absurd (cc)
addr_same (V6 a) (V4 b) e = absurd (cc)
addr_same (V6 a) (V6 b) e = let n : a ≡ b = grind (arith, nat_tests) in ap V6 n

same : (a b : ℕ) → (a == b) ≡ true → a ≡ b
same a b e = grind (arith, nat_tests)

spi_same : (dst other : Addr) (spi number : ℕ) (proto kind : Proto) → same_addr dst other ≡ true → (spi == number) ≡ true → same_proto proto kind ≡ true
    → spi_hash dst spi proto ≡ spi_hash other number kind
spi_same dst other spi number proto kind a b c =
    rw (addr_same dst other a, same spi number b, same (proto_number proto) (proto_number kind) c) refl

pub id_key : (id : SaId) (s : Sa) → has_id id s ≡ true → key_of Spi s ≡ Some (spi_hash id.dst id.spi id.proto)
id_key id s e =
    let x = both _ (has_mark id.mark s.spec.mark) e in
    let y = both _ (same_proto s.spec.proto id.proto) x.0 in
    let z = both (same_addr s.spec.dst id.dst) (s.spec.spi == id.spi) y.0 in
    ap (λ h. Some h) (spi_same s.spec.dst id.dst s.spec.spi id.spi s.spec.proto id.proto z.0 z.1 y.1)

pub beside_key : (id : SaId) (sid : ℕ) (s : Sa) → (has_id id s && not (has_sid sid s)) ≡ true → key_of Spi s ≡ Some (spi_hash id.dst id.spi id.proto)
beside_key id sid s e = id_key id s (both (has_id id s) (not (has_sid sid s)) e).0

pub number_key : (dst : Addr) (proto : Proto) (spi : ℕ) (s : Sa) → has_number dst proto spi s ≡ true → key_of Spi s ≡ Some (spi_hash dst spi proto)
number_key dst proto spi s e =
    let x = both _ (same_proto s.spec.proto proto) e in
    let y = both (same_addr s.spec.dst dst) (s.spec.spi == spi) x.0 in
    ap (λ h. Some h) (spi_same s.spec.dst dst s.spec.spi spi s.spec.proto proto y.0 y.1 x.1)

pub suits_key : (t : Template) (flow : Flow) (src dst : Addr) (s : Sa) → suits t flow src dst s ≡ true → key_of Route s ≡ Some (route_hash dst t.reqid)
suits_key t flow src dst s e =
    let fits = both _ (has_mark flow.mark s.spec.mark) (both _ (matches_if_given s.spec.sel flow) (both _ (not s.spec.wildrecv) e).0).0 in
    let used = both _ ((t.spi == 0) || (t.spi == s.spec.spi)) (both _ (same_addr s.spec.src src || is_zero s.spec.src || is_zero src) fits.0).0 in
    let there = both _ (same_addr s.spec.dst dst) used.0 in
    let asked = both (s.spec.reqid == t.reqid) (same_mode s.spec.mode t.mode) (both _ (same_proto s.spec.proto t.proto) (both _ (s.spec.if_id == flow.if_id) there.0).0).0 in
    rw (addr_same s.spec.dst dst there.1, same s.spec.reqid t.reqid asked.0) refl

pub candidate_key : (t : Template) (flow : Flow) (src dst : Addr) (s : Sa) → (suits t flow src dst s && not s.larval) ≡ true
    → key_of Route s ≡ Some (route_hash dst t.reqid)
candidate_key t flow src dst s e = suits_key t flow src dst s (both (suits t flow src dst s) (not s.larval) e).0

pub larval_key : (t : Template) (flow : Flow) (src dst : Addr) (s : Sa) → (suits t flow src dst s && s.larval) ≡ true
    → key_of Route s ≡ Some (route_hash dst t.reqid)
larval_key t flow src dst s e = suits_key t flow src dst s (both (suits t flow src dst s) s.larval e).0

pub seq_is : (seq : ℕ) (s : Sa) → seq ≢ 0 → has_seq seq s ≡ true → key_of Seq s ≡ Some (hash_of (seq ∷ []))
seq_is seq s n e =
    let z : (seq == 0) ≡ false = grind (arith, nat_tests) in
    ap seq_key (same s.spec.seq seq e) ∙ ap (λ (b : Bool). cond b None (Some (hash_of (seq ∷ [])))) z

pub replaced_key : (seq : ℕ) (proto : Proto) (dst : Addr) (s : Sa) → seq ≢ 0 → is_larval seq proto dst s ≡ true → key_of Seq s ≡ Some (hash_of (seq ∷ []))
replaced_key seq proto dst s n e =
    let a = both _ (same_proto s.spec.proto proto) (both _ (same_addr s.spec.dst dst) e).0 in
    let b = both s.larval (s.spec.seq == seq) a.0 in
    seq_is seq s n b.1
