-- The words after nodes were put at a link.
use Rattle.std.proofs.Common.{◌≡◌, ◌≢◌, ℕ, ◌+◌, ◌*◌, ◌<◌, ◌≤◌, List, arith, false, length, slice_index, slice_set, subst, sym, true, ◌∙◌}
use Rattle.xf_trie.specs.declared.trie.Trie.{Trie}
use Rattle.xf_trie.specs.Insertions.{alone_at, branch_at, left_word, written}
use Rattle.xf_trie.specs.Keys.{bit}
use Rattle.xf_trie.specs.Nodes.{Lies, place_of}
use Rattle.xf_trie.specs.Spares.{head_of, took}
use Rattle.xf_trie.proofs.Nodes.{wrote_same}
use Rattle.xf_trie.proofs.Stores.{Wrote, here, length-took, length-written, other, took_out, written_out, wrote}

-- The words of trees of one pool lie apart from the words of the free nodes.
pub record Spread (trie : Trie) : Type 0 where
  pub free : (s k : ℕ) → s < trie.count → k < 8 → place_of trie s + k ≢ trie.free
  pub live : (s k : ℕ) → s < trie.count → k < 8 → place_of trie s + k ≢ trie.free + 1

-- Two nodes can be put at a link.
pub record Room (trie : Trie) (i : List ℕ) (s1 s2 q : ℕ) : Type 0 where
  pub lies : Lies trie (length i)
  pub spread : Spread trie
  pub first : head_of trie i ≡ s1
  pub second : head_of trie (took trie i) ≡ s2
  pub first_below : s1 < trie.count
  pub second_below : s2 < trie.count
  pub differ : s1 ≢ s2
  pub within : q < length i
  pub out_first : (k : ℕ) → k < 8 → q ≢ place_of trie s1 + k
  pub out_second : (k : ℕ) → k < 8 → q ≢ place_of trie s2 + k
  pub out_free : q ≢ trie.free
  pub out_live : q ≢ trie.free + 1

-- the words after one node was put at a link
pub record Alone (trie : Trie) (i j : List ℕ) (s1 key len left right q : ℕ) : Type 0 where
  pub after : (p : ℕ) → p ≢ q → ((k : ℕ) → k < 8 → p ≢ place_of trie s1 + k) → slice_index j p ≡ slice_index (took trie i) p
  pub link : slice_index j q ≡ s1 + 1
  pub wrote : Wrote trie j s1 key len true left right
  pub rest : (p : ℕ) → p ≢ q → ((k : ℕ) → k < 8 → p ≢ place_of trie s1 + k) → p ≢ trie.free → p ≢ trie.free + 1 → slice_index j p ≡ slice_index i p

pub block : (trie : Trie) (s size : ℕ) → Lies trie size → s < trie.count → place_of trie s + 8 ≤ size
block trie s size l b =
    let n : trie.nodes + 8 * trie.count ≤ size = l.nodes in
    omega arith

pub alone : (trie : Trie) (i : List ℕ) (s1 s2 key len left right q : ℕ) → Room trie i s1 s2 q
    → Alone trie i (alone_at trie i key len left right q) s1 key len left right q
unfolding alone_at
alone trie i s1 s2 key len left right q room =
    let a : List ℕ = took trie i in
    let b : List ℕ = written trie a (head_of trie i) key len true left right in
    let la : length a ≡ length i = length-took trie i in
    let lb : length b ≡ length a = length-written trie a (head_of trie i) key len true left right in
    let w : q < length i = room.within in
    let hb : place_of trie s1 + 8 ≤ length i = block trie s1 (length i) room.lies room.first_below in
    let e : head_of trie i ≡ s1 = room.first in
    let made : Alone trie i (slice_set (written trie a s1 key len true left right) q (s1 + 1)) s1 key len left right q = record {
      after = λ p n o. other (written trie a s1 key len true left right) q (s1 + 1) p n ∙ written_out trie a s1 key len true left right p o;
      link = here (written trie a s1 key len true left right) q (s1 + 1) (omega (arith, length-written trie a s1 key len true left right));
      wrote = wrote_same trie (written trie a s1 key len true left right) (slice_set (written trie a s1 key len true left right) q (s1 + 1)) s1 key len true left right
          (λ k c. other (written trie a s1 key len true left right) q (s1 + 1) (place_of trie s1 + k) (λ x. room.out_first k (omega arith) (sym x)))
          (wrote trie a s1 key len true left right (omega arith));
      rest = λ p n o f g. other (written trie a s1 key len true left right) q (s1 + 1) p n ∙ written_out trie a s1 key len true left right p o ∙ took_out trie i p f g;
    } in
    subst (λ (h : ℕ). Alone trie i (slice_set (written trie a h key len true left right) q (h + 1)) s1 key len left right q) (sym e) made

-- the words after a node and a branch were put at a link
pub record Branched (trie : Trie) (i j : List ℕ) (s1 s2 key len shared word q : ℕ) : Type 0 where
  pub after : (p : ℕ) → p ≢ q → ((k : ℕ) → k < 8 → p ≢ place_of trie s1 + k) → ((k : ℕ) → k < 8 → p ≢ place_of trie s2 + k) → slice_index j p ≡ slice_index (took trie (took trie i)) p
  pub link : slice_index j q ≡ s2 + 1
  pub leaf : Wrote trie j s1 key len true 0 0
  pub branch : Wrote trie j s2 key shared false (left_word (bit key shared) (s1 + 1) word) (left_word (bit key shared) word (s1 + 1))
  pub rest : (p : ℕ) → p ≢ q → ((k : ℕ) → k < 8 → p ≢ place_of trie s1 + k) → ((k : ℕ) → k < 8 → p ≢ place_of trie s2 + k) → p ≢ trie.free → p ≢ trie.free + 1
      → slice_index j p ≡ slice_index i p

branch_image : Trie → List ℕ → ℕ → ℕ → ℕ → ℕ → ℕ → ℕ → ℕ → List ℕ
branch_image trie a s1 s2 key len shared word q =
    slice_set (written trie (written trie a s1 key len true 0 0) s2 key shared false (left_word (bit key shared) (s1 + 1) word) (left_word (bit key shared) word (s1 + 1))) q (s2 + 1)

branched_made : (trie : Trie) (i : List ℕ) (s1 s2 key len shared word q : ℕ) → Room trie i s1 s2 q
    → Branched trie i (branch_image trie (took trie (took trie i)) s1 s2 key len shared word q) s1 s2 key len shared word q
unfolding branch_image
branched_made trie i s1 s2 key len shared word q room =
    let a : List ℕ = took trie (took trie i) in
    let left : ℕ = left_word (bit key shared) (s1 + 1) word in
    let right : ℕ = left_word (bit key shared) word (s1 + 1) in
    let b : List ℕ = written trie a s1 key len true 0 0 in
    let c : List ℕ = written trie b s2 key shared false left right in
    let la : length a ≡ length i = length-took trie (took trie i) ∙ length-took trie i in
    let lb : length b ≡ length a = length-written trie a s1 key len true 0 0 in
    let lc : length c ≡ length b = length-written trie b s2 key shared false left right in
    let w : q < length i = room.within in
    let h1 : place_of trie s1 + 8 ≤ length i = block trie s1 (length i) room.lies room.first_below in
    let h2 : place_of trie s2 + 8 ≤ length i = block trie s2 (length i) room.lies room.second_below in
    let d : s1 ≢ s2 = room.differ in
    record {
      after = λ p n o1 o2. other c q (s2 + 1) p n ∙ written_out trie b s2 key shared false left right p o2 ∙ written_out trie a s1 key len true 0 0 p o1;
      link = here c q (s2 + 1) (omega arith);
      leaf = wrote_same trie b (slice_set c q (s2 + 1)) s1 key len true 0 0
          (λ k x. other c q (s2 + 1) (place_of trie s1 + k) (λ e. room.out_first k (omega arith) (sym e))
          ∙ written_out trie b s2 key shared false left right (place_of trie s1 + k) (λ m y e. d (omega arith)))
          (wrote trie a s1 key len true 0 0 (omega arith));
      branch = wrote_same trie c (slice_set c q (s2 + 1)) s2 key shared false left right
          (λ k x. other c q (s2 + 1) (place_of trie s2 + k) (λ e. room.out_second k (omega arith) (sym e)))
          (wrote trie b s2 key shared false left right (omega arith));
      rest = λ p n o1 o2 f g. other c q (s2 + 1) p n ∙ written_out trie b s2 key shared false left right p o2
          ∙ written_out trie a s1 key len true 0 0 p o1 ∙ took_out trie (took trie i) p f g ∙ took_out trie i p f g;
    }

pub branched : (trie : Trie) (i : List ℕ) (s1 s2 key len shared word q : ℕ) → Room trie i s1 s2 q
    → Branched trie i (branch_at trie i key len shared word q) s1 s2 key len shared word q
unfolding branch_at branch_image
branched trie i s1 s2 key len shared word q room =
    subst (λ (x : ℕ). Branched trie i (branch_image trie (took trie (took trie i)) x (head_of trie (took trie i)) key len shared word q) s1 s2 key len shared word q) (sym room.first)
    (subst (λ (y : ℕ). Branched trie i (branch_image trie (took trie (took trie i)) s1 y key len shared word q) s1 s2 key len shared word q) (sym room.second)
    (branched_made trie i s1 s2 key len shared word q room))
