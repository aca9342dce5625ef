-- The slots of a tree with one prefix more.
use Rattle.std.proofs.Common.{◌≢◌, ℕ, nat_lt, sym, true, ◌&&◌, ◌==◌}
use Rattle.xf_trie.specs.Insertions.{shared_with}
use Rattle.xf_trie.specs.Keys.{agrees, bit}
use Rattle.xf_trie.specs.Puts.{node_of, put_tree}
use Rattle.xf_trie.specs.Slots.{Disjoint, Distinct, Misses}
use Rattle.xf_trie.specs.Trees.{Fork, Leaf, Tree}
use Rattle.xf_trie.proofs.Slots.{disjoint_sym, pick_tree}

pub misses_put : (s s1 s2 key len : ℕ) (t : Tree) → s ≢ s1 → s ≢ s2 → Misses s t → Misses s (put_tree s1 s2 key len t)
misses_put s s1 s2 key len Leaf n1 n2 m = (n1, tt, tt)
misses_put s s1 s2 key len (Fork node l r) n1 n2 m =
    pick_tree (λ t. Misses s t) (agrees node.key key node.len && nat_lt node.len len) _ _
    (pick_tree (λ t. Misses s t) (bit key node.len) _ _ (m.0, m.1, misses_put s s1 s2 key len r n1 n2 m.2) (m.0, misses_put s s1 s2 key len l n1 n2 m.1, m.2))
    (pick_tree (λ t. Misses s t) (shared_with node key len == node.len) _ _ (m.0, m.1, m.2)
    (pick_tree (λ t. Misses s t) (shared_with node key len == len) _ _
    (pick_tree (λ t. Misses s t) (bit node.key len) _ _ (n1, tt, m) (n1, m, tt))
    (pick_tree (λ t. Misses s t) (bit key (shared_with node key len)) _ _ (n2, m, (n1, tt, tt)) (n2, (n1, tt, tt), m))))

pub disjoint_put : (s1 s2 key len : ℕ) (t u : Tree) → Misses s1 u → Misses s2 u → Disjoint t u → Disjoint (put_tree s1 s2 key len t) u
disjoint_put s1 s2 key len Leaf u m1 m2 d = (m1, tt, tt)
disjoint_put s1 s2 key len (Fork node l r) u m1 m2 d =
    pick_tree (λ t. Disjoint t u) (agrees node.key key node.len && nat_lt node.len len) _ _
    (pick_tree (λ t. Disjoint t u) (bit key node.len) _ _ (d.0, d.1, disjoint_put s1 s2 key len r u m1 m2 d.2) (d.0, disjoint_put s1 s2 key len l u m1 m2 d.1, d.2))
    (pick_tree (λ t. Disjoint t u) (shared_with node key len == node.len) _ _ (d.0, d.1, d.2)
    (pick_tree (λ t. Disjoint t u) (shared_with node key len == len) _ _
    (pick_tree (λ t. Disjoint t u) (bit node.key len) _ _ (m1, tt, d) (m1, d, tt))
    (pick_tree (λ t. Disjoint t u) (bit key (shared_with node key len)) _ _ (m2, d, (m1, tt, tt)) (m2, (m1, tt, tt), d))))

pub distinct_put : (s1 s2 key len : ℕ) (t : Tree) → s1 ≢ s2 → Misses s1 t → Misses s2 t → Distinct t → Distinct (put_tree s1 s2 key len t)
distinct_put s1 s2 key len Leaf n m1 m2 d = (tt, tt, tt, tt, tt)
distinct_put s1 s2 key len (Fork node l r) n m1 m2 d =
    let new : Distinct (Fork (node_of s1 key len true) Leaf Leaf) = (tt, tt, tt, tt, tt) in
    let apart : Disjoint (Fork node l r) (Fork (node_of s1 key len true) Leaf Leaf) = disjoint_sym (Fork (node_of s1 key len true) Leaf Leaf) (Fork node l r) (m1, tt, tt) in
    pick_tree Distinct (agrees node.key key node.len && nat_lt node.len len) _ _
    (pick_tree Distinct (bit key node.len) _ _ (
      d.0,
      misses_put node.slot s1 s2 key len r (λ e. m1.0 (sym e)) (λ e. m2.0 (sym e)) d.1,
      disjoint_sym (put_tree s1 s2 key len r) l (disjoint_put s1 s2 key len r l m1.1 m2.1 (disjoint_sym l r d.2)),
      d.3,
      distinct_put s1 s2 key len r n m1.2 m2.2 d.4,
    ) (
      misses_put node.slot s1 s2 key len l (λ e. m1.0 (sym e)) (λ e. m2.0 (sym e)) d.0,
      d.1,
      disjoint_put s1 s2 key len l r m1.2 m2.2 d.2,
      distinct_put s1 s2 key len l n m1.1 m2.1 d.3,
      d.4,
    ))
    (pick_tree Distinct (shared_with node key len == node.len) _ _ (d.0, d.1, d.2, d.3, d.4)
    (pick_tree Distinct (shared_with node key len == len) _ _
    (pick_tree Distinct (bit node.key len) _ _ (tt, m1, tt, tt, d) (m1, tt, disjoint_sym Leaf (Fork node l r) tt, d, tt))
    (pick_tree Distinct (bit key (shared_with node key len)) _ _
    (m2, ((λ e. n (sym e)), tt, tt), apart, d, new)
    (((λ e. n (sym e)), tt, tt), m2, (m1, tt, tt), new, d))))
