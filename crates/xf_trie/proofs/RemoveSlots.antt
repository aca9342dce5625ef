-- The slots and places of a tree without a prefix.
use Rattle.std.proofs.Common.{◌≢◌, ℕ, false, nat_lt, ◌&&◌}
use Rattle.xf_trie.specs.declared.trie.Node.{Node}
use Rattle.xf_trie.specs.declared.trie.Trie.{Trie}
use Rattle.xf_trie.specs.Keys.{agrees, bit}
use Rattle.xf_trie.specs.Puts.{with_mark}
use Rattle.xf_trie.specs.Slots.{Disjoint, Distinct, Misses}
use Rattle.xf_trie.specs.Takes.{remove_tree, tidy_fork}
use Rattle.xf_trie.specs.Trees.{Fork, Leaf, Tree}
use Rattle.xf_trie.proofs.Slots.{disjoint_sym, pick_tree}
use Rattle.xf_trie.proofs.Standing.{OutOf}

misses_tidy : (s : ℕ) (node : Node) (l r : Tree) → s ≢ node.slot → Misses s l → Misses s r → Misses s (tidy_fork node l r)
misses_tidy s node Leaf r n a b = b
misses_tidy s node (Fork x y z) Leaf n a b = a
misses_tidy s node (Fork x y z) (Fork u v w) n a b = (n, a, b)

out_tidy : (trie : Trie) (p : ℕ) (node : Node) (l r : Tree) → OutOf trie p (Fork node l r) → OutOf trie p (tidy_fork node l r)
out_tidy trie p node Leaf r o = o.2
out_tidy trie p node (Fork x y z) Leaf o = o.1
out_tidy trie p node (Fork x y z) (Fork u v w) o = o

pub misses_remove : (s key len : ℕ) (t : Tree) → Misses s t → Misses s (remove_tree key len t)
misses_remove s key len Leaf m = tt
misses_remove s key len (Fork node l r) m =
    pick_tree (λ t. Misses s t) (agrees node.key key node.len && nat_lt node.len len) _ _
    (pick_tree (λ t. Misses s t) (bit key node.len) _ _
    (pick_tree (λ t. Misses s t) node.marked _ _ (m.0, m.1, misses_remove s key len r m.2) (misses_tidy s node l (remove_tree key len r) m.0 m.1 (misses_remove s key len r m.2)))
    (pick_tree (λ t. Misses s t) node.marked _ _ (m.0, misses_remove s key len l m.1, m.2) (misses_tidy s node (remove_tree key len l) r m.0 (misses_remove s key len l m.1) m.2)))
    (misses_tidy s (with_mark node false) l r m.0 m.1 m.2)

pub out_remove : (trie : Trie) (p key len : ℕ) (t : Tree) → OutOf trie p t → OutOf trie p (remove_tree key len t)
out_remove trie p key len Leaf o = tt
out_remove trie p key len (Fork node l r) o =
    pick_tree (λ t. OutOf trie p t) (agrees node.key key node.len && nat_lt node.len len) _ _
    (pick_tree (λ t. OutOf trie p t) (bit key node.len) _ _
    (pick_tree (λ t. OutOf trie p t) node.marked _ _ (o.0, o.1, out_remove trie p key len r o.2) (out_tidy trie p node l (remove_tree key len r) (o.0, o.1, out_remove trie p key len r o.2)))
    (pick_tree (λ t. OutOf trie p t) node.marked _ _ (o.0, out_remove trie p key len l o.1, o.2) (out_tidy trie p node (remove_tree key len l) r (o.0, out_remove trie p key len l o.1, o.2))))
    (out_tidy trie p (with_mark node false) l r o)

disjoint_tidy : (node : Node) (l r u : Tree) → Misses node.slot u → Disjoint l u → Disjoint r u → Disjoint (tidy_fork node l r) u
disjoint_tidy node Leaf r u m a b = b
disjoint_tidy node (Fork x y z) Leaf u m a b = a
disjoint_tidy node (Fork x y z) (Fork p q s) u m a b = (m, a, b)

pub disjoint_remove : (key len : ℕ) (t u : Tree) → Disjoint t u → Disjoint (remove_tree key len t) u
disjoint_remove key len Leaf u d = tt
disjoint_remove key len (Fork node l r) u d =
    pick_tree (λ t. Disjoint t u) (agrees node.key key node.len && nat_lt node.len len) _ _
    (pick_tree (λ t. Disjoint t u) (bit key node.len) _ _
    (pick_tree (λ t. Disjoint t u) node.marked _ _ (d.0, d.1, disjoint_remove key len r u d.2) (disjoint_tidy node l (remove_tree key len r) u d.0 d.1 (disjoint_remove key len r u d.2)))
    (pick_tree (λ t. Disjoint t u) node.marked _ _ (d.0, disjoint_remove key len l u d.1, d.2) (disjoint_tidy node (remove_tree key len l) r u d.0 (disjoint_remove key len l u d.1) d.2)))
    (disjoint_tidy (with_mark node false) l r u d.0 d.1 d.2)

distinct_tidy : (node : Node) (l r : Tree) → Distinct (Fork node l r) → Distinct (tidy_fork node l r)
distinct_tidy node Leaf r d = d.4
distinct_tidy node (Fork x y z) Leaf d = d.3
distinct_tidy node (Fork x y z) (Fork p q s) d = d

pub distinct_remove : (key len : ℕ) (t : Tree) → Distinct t → Distinct (remove_tree key len t)
distinct_remove key len Leaf d = tt
distinct_remove key len (Fork node l r) d =
    let one : Distinct (Fork node l (remove_tree key len r)) =
    (d.0, misses_remove node.slot key len r d.1, disjoint_sym (remove_tree key len r) l (disjoint_remove key len r l (disjoint_sym l r d.2)), d.3, distinct_remove key len r d.4) in
    let none : Distinct (Fork node (remove_tree key len l) r) =
    (misses_remove node.slot key len l d.0, d.1, disjoint_remove key len l r d.2, distinct_remove key len l d.3, d.4) in
    pick_tree Distinct (agrees node.key key node.len && nat_lt node.len len) _ _
    (pick_tree Distinct (bit key node.len) _ _
    (pick_tree Distinct node.marked _ _ one (distinct_tidy node l (remove_tree key len r) one))
    (pick_tree Distinct node.marked _ _ none (distinct_tidy node (remove_tree key len l) r none)))
    (distinct_tidy (with_mark node false) l r (d.0, d.1, d.2, d.3, d.4))
