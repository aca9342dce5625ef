-- The free nodes after an insertion are in no tree.
use Rattle.std.proofs.Common.{ℕ, Bool, List, [], drop, false, if◌then◌else◌, nat_lt, sym, true, ◌&&◌, ◌==◌, ◌∷◌}
use Rattle.xf_trie.specs.declared.trie.Node.{Node}
use Rattle.xf_trie.specs.Insertions.{shared_with}
use Rattle.xf_trie.specs.Keys.{agrees, bit}
use Rattle.xf_trie.specs.Pools.{Apart, Lacks, Once}
use Rattle.xf_trie.specs.Puts.{node_of, put_tree, put_uses, with_mark}
use Rattle.xf_trie.specs.Trees.{Fork, Leaf, Tree}
use Rattle.xf_trie.proofs.Aparts.{apart_drop, apart_leaf, apart_left, apart_right}
use Rattle.xf_trie.proofs.PutSlots.{misses_put}

apart_put : (s1 s2 key len : ℕ) (t : Tree) (xs : List ℕ) → Lacks s1 xs → Lacks s2 xs → Apart xs t → Apart xs (put_tree s1 s2 key len t)
apart_put s1 s2 key len t [] n m a = tt
apart_put s1 s2 key len t (x ∷ xs) n m a =
    (misses_put x s1 s2 key len t (λ e. n.0 (sym e)) (λ e. m.0 (sym e)) a.0, apart_put s1 s2 key len t xs n.1 m.1 a.1)

apart_one : (xs : List ℕ) (node : Node) (l r u : Tree) → Apart xs (Fork node l r) → Apart xs u → Apart xs (Fork node l u)
apart_one [] node l r u a b = tt
apart_one (x ∷ xs) node l r u a b = ((a.0.0, a.0.1, b.0), apart_one xs node l r u a.1 b.1)

apart_zero : (xs : List ℕ) (node : Node) (l r u : Tree) → Apart xs (Fork node l r) → Apart xs u → Apart xs (Fork node u r)
apart_zero [] node l r u a b = tt
apart_zero (x ∷ xs) node l r u a b = ((a.0.0, b.0, a.0.2), apart_zero xs node l r u a.1 b.1)

apart_new : (s key len : ℕ) (marked : Bool) (xs : List ℕ) (l r : Tree) → Lacks s xs → Apart xs l → Apart xs r → Apart xs (Fork (node_of s key len marked) l r)
apart_new s key len marked [] l r n a b = tt
apart_new s key len marked (x ∷ xs) l r n a b = (((λ e. n.0 (sym e)), a.0, b.0), apart_new s key len marked xs l r n.1 a.1 b.1)

apart_mark : (xs : List ℕ) (node : Node) (l r : Tree) → Apart xs (Fork node l r) → Apart xs (Fork (with_mark node true) l r)
apart_mark [] node l r a = tt
apart_mark (x ∷ xs) node l r a = (a.0, apart_mark xs node l r a.1)

apart_go : (s1 s2 key len : ℕ) (rest : List ℕ) (node : Node) (l r : Tree) (shared : ℕ) (v b a c d e : Bool) → Once (s1 ∷ (s2 ∷ rest))
    → Apart (s1 ∷ (s2 ∷ rest)) (Fork node l r)
    → Apart (drop (put_uses key len l) (s1 ∷ (s2 ∷ rest))) (put_tree s1 s2 key len l)
    → Apart (drop (put_uses key len r) (s1 ∷ (s2 ∷ rest))) (put_tree s1 s2 key len r)
    → Apart (drop (if v then (if b then put_uses key len r else put_uses key len l) else if a then 0 else if c then 1 else 2) (s1 ∷ (s2 ∷ rest)))
    (if v then (if b then Fork node l (put_tree s1 s2 key len r) else Fork node (put_tree s1 s2 key len l) r)
    else if a then Fork (with_mark node true) l r
    else if c then (if d then Fork (node_of s1 key len true) Leaf (Fork node l r) else Fork (node_of s1 key len true) (Fork node l r) Leaf)
    else (if e then Fork (node_of s2 key shared false) (Fork node l r) (Fork (node_of s1 key len true) Leaf Leaf)
    else Fork (node_of s2 key shared false) (Fork (node_of s1 key len true) Leaf Leaf) (Fork node l r)))
apart_go s1 s2 key len rest node l r shared true true a c d e o p pl pr =
    apart_one _ node l r (put_tree s1 s2 key len r) (apart_drop (put_uses key len r) (s1 ∷ (s2 ∷ rest)) (Fork node l r) p) pr
apart_go s1 s2 key len rest node l r shared true false a c d e o p pl pr =
    apart_zero _ node l r (put_tree s1 s2 key len l) (apart_drop (put_uses key len l) (s1 ∷ (s2 ∷ rest)) (Fork node l r) p) pl
apart_go s1 s2 key len rest node l r shared false b true c d e o p pl pr = apart_mark (s1 ∷ (s2 ∷ rest)) node l r p
apart_go s1 s2 key len rest node l r shared false b false true true e o p pl pr =
    apart_new s1 key len true (s2 ∷ rest) Leaf (Fork node l r) o.0 (apart_leaf (s2 ∷ rest)) p.1
apart_go s1 s2 key len rest node l r shared false b false true false e o p pl pr =
    apart_new s1 key len true (s2 ∷ rest) (Fork node l r) Leaf o.0 p.1 (apart_leaf (s2 ∷ rest))
apart_go s1 s2 key len rest node l r shared false b false false d true o p pl pr =
    apart_new s2 key shared false rest (Fork node l r) (Fork (node_of s1 key len true) Leaf Leaf) o.1.0 p.1.1
    (apart_new s1 key len true rest Leaf Leaf o.0.1 (apart_leaf rest) (apart_leaf rest))
apart_go s1 s2 key len rest node l r shared false b false false d false o p pl pr =
    apart_new s2 key shared false rest (Fork (node_of s1 key len true) Leaf Leaf) (Fork node l r) o.1.0
    (apart_new s1 key len true rest Leaf Leaf o.0.1 (apart_leaf rest) (apart_leaf rest)) p.1.1

pub apart_uses : (s1 s2 key len : ℕ) (rest : List ℕ) (t : Tree) → Once (s1 ∷ (s2 ∷ rest)) → Apart (s1 ∷ (s2 ∷ rest)) t
    → Apart (drop (put_uses key len t) (s1 ∷ (s2 ∷ rest))) (put_tree s1 s2 key len t)
apart_uses s1 s2 key len rest Leaf o p = apart_new s1 key len true (s2 ∷ rest) Leaf Leaf o.0 (apart_leaf (s2 ∷ rest)) (apart_leaf (s2 ∷ rest))
apart_uses s1 s2 key len rest (Fork node l r) o p =
    apart_go s1 s2 key len rest node l r (shared_with node key len) (agrees node.key key node.len && nat_lt node.len len) (bit key node.len)
    (shared_with node key len == node.len) (shared_with node key len == len) (bit node.key len) (bit key (shared_with node key len)) o p
    (apart_uses s1 s2 key len rest l o (apart_left (s1 ∷ (s2 ∷ rest)) node l r p)) (apart_uses s1 s2 key len rest r o (apart_right (s1 ∷ (s2 ∷ rest)) node l r p))
