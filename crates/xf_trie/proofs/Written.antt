-- Trees of which a node was written.
use Rattle.std.proofs.Common.{◌≡◌, ◌≢◌, ℕ, ◌+◌, ◌*◌, ◌^◌, ◌<◌, ◌≤◌, Bool, List, Option, Some, ap, arith, false, length, lit<, min, rules, slice_index, slice_set, sym, true, ◌==◌, ◌∙◌}
use Rattle.xf_trie.specs.declared.trie.Node.{Node}
use Rattle.xf_trie.specs.declared.trie.Trie.{Trie}
use Rattle.xf_trie.specs.Insertions.{flag_word, marked_at}
use Rattle.xf_trie.specs.Nodes.{Lies, child_at, place_of, slot_of}
use Rattle.xf_trie.specs.Puts.{node_of, with_mark}
use Rattle.xf_trie.specs.Slots.{Distinct, Misses}
use Rattle.xf_trie.specs.Trees.{Fork, Leaf, Stands, Tree}
use Rattle.xf_trie.proofs.Nodes.{flag_is, named_below, node_parts, node_wrote}
use Rattle.xf_trie.proofs.Rooms.{Alone, Branched, Spread, block}
use Rattle.xf_trie.proofs.Standing.{Inside, OutOf, SameNodes, inside, out_words, stands_at, stands_same}
use Rattle.xf_trie.proofs.Stores.{Wrote, here, other}

pub keep : (trie : Trie) (i j : List ℕ) (s1 s2 q : ℕ) (t : Tree)
    → ((s k : ℕ) → s < trie.count → k < 6 → s ≢ s1 → s ≢ s2 → place_of trie s + k ≢ q → slice_index j (place_of trie s + k) ≡ slice_index i (place_of trie s + k))
    → Inside trie.count t → Misses s1 t → Misses s2 t → OutOf trie q t → SameNodes trie i j t
keep trie i j s1 s2 q Leaf f n m1 m2 o = search rules
keep trie i j s1 s2 q (Fork node l r) f n m1 m2 o = (
  (λ k b. f node.slot k n.0 b (λ e. m1.0 (sym e)) (λ e. m2.0 (sym e)) (λ e. o.0 k (omega arith) (sym e))),
  keep trie i j s1 s2 q l f n.1 m1.1 m2.1 o.1,
  keep trie i j s1 s2 q r f n.2 m1.2 m2.2 o.2,
)

-- a node that was written stands
pub new_stands : (trie : Trie) (j : List ℕ) (s key len : ℕ) (marked : Bool) (left right : ℕ) (at : Option ℕ) (l r : Tree)
    → at ≡ Some s → len ≤ 128 → Wrote trie j s key len marked left right
    → Stands trie j (slot_of trie.count left) l → Stands trie j (slot_of trie.count right) r
    → Stands trie j at (Fork (node_of s key len marked) l r)
new_stands trie j s key len marked left right at l r e h w sl sr = (
  e,
  node_wrote trie j s key len marked left right h w,
  stands_at trie j (slot_of trie.count left) (child_at trie j s false) l (ap (λ x. slot_of trie.count x) w.zeros) sl,
  stands_at trie j (slot_of trie.count right) (child_at trie j s true) r (ap (λ x. slot_of trie.count x) w.ones) sr,
)

pub alone_words : (trie : Trie) (i j : List ℕ) (s1 s2 key len left right q : ℕ) → Spread trie → Alone trie i j s1 key len left right q
    → (s k : ℕ) → s < trie.count → k < 6 → s ≢ s1 → s ≢ s2 → place_of trie s + k ≢ q → slice_index j (place_of trie s + k) ≡ slice_index i (place_of trie s + k)
alone_words trie i j s1 s2 key len left right q sp a s k b c n1 n2 nq =
    a.rest (place_of trie s + k) nq (λ m y e. n1 (omega arith)) (sp.free s k b (omega arith)) (sp.live s k b (omega arith))

pub branched_words : (trie : Trie) (i j : List ℕ) (s1 s2 key len shared word q : ℕ) → Spread trie → Branched trie i j s1 s2 key len shared word q
    → (s k : ℕ) → s < trie.count → k < 6 → s ≢ s1 → s ≢ s2 → place_of trie s + k ≢ q → slice_index j (place_of trie s + k) ≡ slice_index i (place_of trie s + k)
branched_words trie i j s1 s2 key len shared word q sp a s k b c n1 n2 nq =
    a.rest (place_of trie s + k) nq (λ m y e. n1 (omega arith)) (λ m y e. n2 (omega arith)) (sp.free s k b (omega arith)) (sp.live s k b (omega arith))

pub mark_stands : (trie : Trie) (i : List ℕ) (q : ℕ) (node : Node) (l r : Tree) (marked : Bool) → Lies trie (length i)
    → Stands trie i (slot_of trie.count (slice_index i q)) (Fork node l r) → Distinct (Fork node l r) → q ≢ place_of trie node.slot + 3
    → Stands trie (marked_at trie i node.slot marked) (slot_of trie.count (slice_index (marked_at trie i node.slot marked) q)) (Fork (with_mark node marked) l r)
mark_stands trie i q node l r marked lies s d o =
    let P : ℕ = place_of trie node.slot in
    let j : List ℕ = slice_set i (P + 3) (flag_word marked) in
    let b : node.slot < trie.count = named_below trie.count (slice_index i q) node.slot s.0 in
    let w : P + 8 ≤ length i = block trie node.slot (length i) lies b in
    let same : (p : ℕ) → p ≢ P + 3 → slice_index j p ≡ slice_index i p = λ p n. other i (P + 3) (flag_word marked) p n in
    let beside : (s k : ℕ) → s < trie.count → k < 6 → s ≢ node.slot → s ≢ node.slot → place_of trie s + k ≢ P + 3
    → slice_index j (place_of trie s + k) ≡ slice_index i (place_of trie s + k) =
    λ x k h c n m nq. same (place_of trie x + k) nq in (
      ap (λ x. slot_of trie.count x) (same q o) ∙ s.0,
      node_parts node.slot _ _ _ _ node.key node.len 0 marked
          (ap (λ x. x * 2 ^ 64 + slice_index j (P + 1)) (same P (omega arith)) ∙ ap (λ x. slice_index i P * 2 ^ 64 + x) (same (P + 1) (omega arith)) ∙ ap (λ (m : Node). m.key) s.1)
          (ap (λ x. min x 128) (same (P + 2) (omega arith)) ∙ ap (λ (m : Node). m.len) s.1)
          (ap (λ x. x == 1) (here i (P + 3) (flag_word marked) (omega arith)) ∙ flag_is marked),
      stands_at trie j (child_at trie i node.slot false) (child_at trie j node.slot false) l (ap (λ x. slot_of trie.count x) (same (P + 4) (omega arith)))
          (stands_same trie i j (child_at trie i node.slot false) l
          (keep trie i j node.slot node.slot (P + 3) l beside (inside trie i (slice_index i (P + 4)) l s.2) d.0 d.0 (out_words trie node.slot 3 l (lit< tt) d.0)) s.2),
      stands_at trie j (child_at trie i node.slot true) (child_at trie j node.slot true) r (ap (λ x. slot_of trie.count x) (same (P + 5) (omega arith)))
          (stands_same trie i j (child_at trie i node.slot true) r
          (keep trie i j node.slot node.slot (P + 3) r beside (inside trie i (slice_index i (P + 5)) r s.3) d.1 d.1 (out_words trie node.slot 3 r (lit< tt) d.1)) s.3),
    )
