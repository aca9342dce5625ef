-- What a put makes of the tree at its link.
use Rattle.std.proofs.Common.{◌≡◌, ℕ, ◌+◌, ◌<◌, ◌≤◌, Bool, List, None, Some, ap, arith, false, if◌then◌else◌, lit<, min, nat_lt, refl, slice_index, subst, sym, true, ◌&&◌, ◌==◌, ◌∙◌}
use Rattle.xf_trie.specs.declared.trie.Node.{Node}
use Rattle.xf_trie.specs.declared.trie.Trie.{Trie}
use Rattle.xf_trie.specs.Insertions.{alone_at, below_of, branch_at, left_word, marked_at, put_at, put_in, put_node, shared_with}
use Rattle.xf_trie.specs.Keys.{agrees, bit, common}
use Rattle.xf_trie.specs.Nodes.{link_of, slot_of}
use Rattle.xf_trie.specs.Puts.{node_of, put_here, put_tree, with_mark}
use Rattle.xf_trie.specs.Slots.{Distinct, Misses}
use Rattle.xf_trie.specs.Trees.{Fork, Leaf, Stands, Tree}
use Rattle.xf_trie.proofs.Nodes.{names}
use Rattle.xf_trie.proofs.PutPlaces.{put_leaves}
use Rattle.xf_trie.proofs.Rooms.{Alone, Branched, Room, alone, branched}
use Rattle.xf_trie.proofs.Shared.{common_most}
use Rattle.xf_trie.proofs.Standing.{OutOf, SameNodes, inside, stands_same}
use Rattle.xf_trie.proofs.Stores.{Wrote}
use Rattle.xf_trie.proofs.WayChanges.{Ends}
use Rattle.xf_trie.proofs.Ways.{step_of}
use Rattle.xf_trie.proofs.Written.{alone_words, branched_words, keep, mark_stands, new_stands}

above_stands : (trie : Trie) (i j : List ℕ) (s1 s2 key len q : ℕ) (u : Tree) (side : Bool) → Room trie i s1 s2 q → len ≤ 128
    → Alone trie i j s1 key len (left_word side (slice_index i q) 0) (left_word side 0 (slice_index i q)) q
    → Stands trie i (slot_of trie.count (slice_index i q)) u → Misses s1 u → Misses s2 u → OutOf trie q u
    → Stands trie j (slot_of trie.count (slice_index j q)) (if side then Fork (node_of s1 key len true) Leaf u else Fork (node_of s1 key len true) u Leaf)
above_stands trie i j s1 s2 key len q u true room hl a s m1 m2 o =
    let beside : SameNodes trie i j u = keep trie i j s1 s2 q u (alone_words trie i j s1 s2 key len 0 (slice_index i q) q room.spread a) (inside trie i (slice_index i q) u s) m1 m2 o in
    new_stands trie j s1 key len true 0 (slice_index i q) _ Leaf u (ap (λ x. slot_of trie.count x) a.link ∙ names trie.count s1 room.first_below) hl a.wrote
    refl (stands_same trie i j (slot_of trie.count (slice_index i q)) u beside s)
above_stands trie i j s1 s2 key len q u false room hl a s m1 m2 o =
    let beside : SameNodes trie i j u = keep trie i j s1 s2 q u (alone_words trie i j s1 s2 key len (slice_index i q) 0 q room.spread a) (inside trie i (slice_index i q) u s) m1 m2 o in
    new_stands trie j s1 key len true (slice_index i q) 0 _ u Leaf (ap (λ x. slot_of trie.count x) a.link ∙ names trie.count s1 room.first_below) hl a.wrote
    (stands_same trie i j (slot_of trie.count (slice_index i q)) u beside s) refl

leaf_stands : (trie : Trie) (j : List ℕ) (s key len : ℕ) → s < trie.count → len ≤ 128 → Wrote trie j s key len true 0 0
    → Stands trie j (slot_of trie.count (s + 1)) (Fork (node_of s key len true) Leaf Leaf)
leaf_stands trie j s key len b h w = new_stands trie j s key len true 0 0 (slot_of trie.count (s + 1)) Leaf Leaf (names trie.count s b) h w refl refl

branch_stands : (trie : Trie) (i j : List ℕ) (s1 s2 key len shared q : ℕ) (u : Tree) (side : Bool) → Room trie i s1 s2 q → len ≤ 128 → shared ≤ 128
    → bit key shared ≡ side → Branched trie i j s1 s2 key len shared (slice_index i q) q
    → Stands trie i (slot_of trie.count (slice_index i q)) u → Misses s1 u → Misses s2 u → OutOf trie q u
    → Stands trie j (slot_of trie.count (slice_index j q))
    (if side then Fork (node_of s2 key shared false) u (Fork (node_of s1 key len true) Leaf Leaf) else Fork (node_of s2 key shared false) (Fork (node_of s1 key len true) Leaf Leaf) u)
branch_stands trie i j s1 s2 key len shared q u true room hl hs e a s m1 m2 o =
    let beside : SameNodes trie i j u = keep trie i j s1 s2 q u (branched_words trie i j s1 s2 key len shared (slice_index i q) q room.spread a) (inside trie i (slice_index i q) u s) m1 m2 o in
    let w : Wrote trie j s2 key shared false (slice_index i q) (s1 + 1) =
    subst (λ (x : Bool). Wrote trie j s2 key shared false (left_word x (s1 + 1) (slice_index i q)) (left_word x (slice_index i q) (s1 + 1))) e a.branch in
    new_stands trie j s2 key shared false (slice_index i q) (s1 + 1) _ u (Fork (node_of s1 key len true) Leaf Leaf)
    (ap (λ x. slot_of trie.count x) a.link ∙ names trie.count s2 room.second_below) hs w
    (stands_same trie i j (slot_of trie.count (slice_index i q)) u beside s) (leaf_stands trie j s1 key len room.first_below hl a.leaf)
branch_stands trie i j s1 s2 key len shared q u false room hl hs e a s m1 m2 o =
    let beside : SameNodes trie i j u = keep trie i j s1 s2 q u (branched_words trie i j s1 s2 key len shared (slice_index i q) q room.spread a) (inside trie i (slice_index i q) u s) m1 m2 o in
    let w : Wrote trie j s2 key shared false (s1 + 1) (slice_index i q) =
    subst (λ (x : Bool). Wrote trie j s2 key shared false (left_word x (s1 + 1) (slice_index i q)) (left_word x (slice_index i q) (s1 + 1))) e a.branch in
    new_stands trie j s2 key shared false (s1 + 1) (slice_index i q) _ (Fork (node_of s1 key len true) Leaf Leaf) u
    (ap (λ x. slot_of trie.count x) a.link ∙ names trie.count s2 room.second_below) hs w
    (leaf_stands trie j s1 key len room.first_below hl a.leaf) (stands_same trie i j (slot_of trie.count (slice_index i q)) u beside s)

here_stands : (trie : Trie) (i j : List ℕ) (s1 s2 key len q : ℕ) (node : Node) (l r : Tree) (shared : ℕ) (a b : Bool) → Room trie i s1 s2 q
    → len ≤ 128 → shared ≤ 128
    → Stands trie i (slot_of trie.count (slice_index i q)) (Fork node l r)
    → Misses s1 (Fork node l r) → Misses s2 (Fork node l r) → Distinct (Fork node l r) → OutOf trie q (Fork node l r)
    → j ≡ (if a then marked_at trie i node.slot true
    else if b then alone_at trie i key len (left_word (bit node.key len) (slice_index i q) 0) (left_word (bit node.key len) 0 (slice_index i q)) q
    else branch_at trie i key len shared (slice_index i q) q)
    → Stands trie j (slot_of trie.count (slice_index j q))
    (if a then Fork (with_mark node true) l r
    else if b then
    (if bit node.key len then Fork (node_of s1 key len true) Leaf (Fork node l r) else Fork (node_of s1 key len true) (Fork node l r) Leaf)
    else
    (if bit key shared
    then Fork (node_of s2 key shared false) (Fork node l r) (Fork (node_of s1 key len true) Leaf Leaf)
    else Fork (node_of s2 key shared false) (Fork (node_of s1 key len true) Leaf Leaf) (Fork node l r)))
here_stands trie i j s1 s2 key len q node l r shared true b room hl hs s m1 m2 d o e =
    subst (λ (x : List ℕ). Stands trie x (slot_of trie.count (slice_index x q)) (Fork (with_mark node true) l r)) (sym e)
    (mark_stands trie i q node l r true room.lies s d (o.0 3 (lit< tt)))
here_stands trie i j s1 s2 key len q node l r shared false true room hl hs s m1 m2 d o e =
    above_stands trie i j s1 s2 key len q (Fork node l r) (bit node.key len) room hl
    (subst (λ (x : List ℕ). Alone trie i x s1 key len (left_word (bit node.key len) (slice_index i q) 0) (left_word (bit node.key len) 0 (slice_index i q)) q) (sym e)
    (alone trie i s1 s2 key len (left_word (bit node.key len) (slice_index i q) 0) (left_word (bit node.key len) 0 (slice_index i q)) q room))
    s m1 m2 o
here_stands trie i j s1 s2 key len q node l r shared false false room hl hs s m1 m2 d o e =
    branch_stands trie i j s1 s2 key len shared q (Fork node l r) (bit key shared) room hl hs refl
    (subst (λ (x : List ℕ). Branched trie i x s1 s2 key len shared (slice_index i q) q) (sym e) (branched trie i s1 s2 key len shared (slice_index i q) q room))
    s m1 m2 o

-- at the end of a way the test of the node fails, so the tree's put is the one here
pub fork_stop : (trie : Trie) (s1 s2 key len : ℕ) (node : Node) (l r : Tree) (v : Bool) → (agrees node.key key node.len && nat_lt node.len len) ≡ v
    → (if v then Some (link_of trie node.slot (bit key node.len)) else None) ≡ None
    → put_tree s1 s2 key len (Fork node l r) ≡ put_here s1 s2 key len node l r (shared_with node key len)
fork_stop trie s1 s2 key len node l r true e n = absurd (cc)
fork_stop trie s1 s2 key len node l r false e n =
    ap (λ (b : Bool). if b then (if bit key node.len then Fork node l (put_tree s1 s2 key len r) else Fork node (put_tree s1 s2 key len l) r) else put_here s1 s2 key len node l r (shared_with node key len)) e

end_put : (trie : Trie) (i j : List ℕ) (s1 s2 key len q : ℕ) (u : Tree) → Room trie i s1 s2 q → len ≤ 128
    → j ≡ put_in trie i key len q (slot_of trie.count (slice_index i q))
    → Stands trie i (slot_of trie.count (slice_index i q)) u → Misses s1 u → Misses s2 u → Distinct u → OutOf trie q u
    → below_of trie i key len q ≡ None → Stands trie j (slot_of trie.count (slice_index j q)) (put_tree s1 s2 key len u)
end_put trie i j s1 s2 key len q Leaf room hl e s m1 m2 d o b =
    let a : Alone trie i j s1 key len 0 0 q =
    subst (λ (x : List ℕ). Alone trie i x s1 key len 0 0 q) (sym (e ∙ ap (λ x. put_in trie i key len q x) s)) (alone trie i s1 s2 key len 0 0 q room) in
    new_stands trie j s1 key len true 0 0 _ Leaf Leaf (ap (λ x. slot_of trie.count x) a.link ∙ names trie.count s1 room.first_below) hl a.wrote refl refl
end_put trie i j s1 s2 key len q (Fork node l r) room hl e s m1 m2 d o b =
    let shared : ℕ = shared_with node key len in
    let most : common node.key key (min node.len len) ≤ min node.len len = common_most node.key key (min node.len len) in
    let f : j ≡ put_node trie i key len q node (shared_with node key len) =
    e ∙ ap (λ x. put_in trie i key len q x) s.0 ∙ ap (λ (m : Node). put_node trie i key len q m (shared_with m key len)) s.1 in
    let g : put_tree s1 s2 key len (Fork node l r) ≡ put_here s1 s2 key len node l r (shared_with node key len) =
    fork_stop trie s1 s2 key len node l r (agrees node.key key node.len && nat_lt node.len len) refl
    (sym (step_of trie i key len q node.slot node (agrees node.key key node.len && nat_lt node.len len) s.0 s.1 refl) ∙ b) in
    subst (λ (t : Tree). Stands trie j (slot_of trie.count (slice_index j q)) t) (sym g)
    (here_stands trie i j s1 s2 key len q node l r (shared_with node key len) (shared_with node key len == node.len) (shared_with node key len == len)
    room hl (omega arith) s m1 m2 d o f)

pub put_ends : (trie : Trie) (i : List ℕ) (s1 s2 key len q : ℕ) → Room trie i s1 s2 q → len ≤ 128 → Ends trie i (put_at trie i key len q) s1 s2 key len q
unfolding put_at
put_ends trie i s1 s2 key len q room hl = record {
  leaves = put_leaves trie i s1 s2 key len q (slot_of trie.count (slice_index i q)) room refl;
  ends = λ u s m1 m2 d o b. end_put trie i (put_at trie i key len q) s1 s2 key len q u room hl refl s m1 m2 d o b;
}
