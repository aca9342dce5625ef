-- The nodes that a removal gives back.
use Rattle.std.proofs.Common.{◌≢◌, ℕ, Bool, List, [], false, if◌then◌else◌, nat_lt, true, ◌&&◌, ◌++◌, ◌∷◌}
use Rattle.xf_trie.specs.declared.trie.Node.{Node}
use Rattle.xf_trie.specs.Keys.{agrees, bit}
use Rattle.xf_trie.specs.Pools.{Apart, Lacks}
use Rattle.xf_trie.specs.Puts.{with_mark}
use Rattle.xf_trie.specs.Slots.{Disjoint, Distinct, Misses}
use Rattle.xf_trie.specs.Takes.{fork_frees, remove_frees, remove_tree, tidy_fork, tidy_frees, tidy_tree}
use Rattle.xf_trie.specs.Trees.{Fork, Leaf, Tree}
use Rattle.xf_trie.proofs.Aparts.{apart_append, apart_if, apart_join, apart_left, apart_right}
use Rattle.xf_trie.proofs.RemoveSlots.{misses_remove}
use Rattle.xf_trie.proofs.Slots.{disjoint_sym}

pub lacks_append : (s : ℕ) (xs ys : List ℕ) → Lacks s xs → Lacks s ys → Lacks s (xs ++ ys)
lacks_append s [] ys a b = b
lacks_append s (x ∷ xs) ys a b = (a.0, lacks_append s xs ys a.1 b)

lacks_if : (s : ℕ) (v : Bool) (xs ys : List ℕ) → Lacks s xs → Lacks s ys → Lacks s (if v then xs else ys)
lacks_if s true xs ys a b = a
lacks_if s false xs ys a b = b

lacks_fork : (s : ℕ) (node : Node) (l r : Tree) → s ≢ node.slot → Lacks s (fork_frees node l r)
lacks_fork s node Leaf r n = (n, tt)
lacks_fork s node (Fork x y z) Leaf n = (n, tt)
lacks_fork s node (Fork x y z) (Fork a b c) n = tt

pub lacks_frees : (s key len : ℕ) (t : Tree) → Misses s t → Lacks s (remove_frees key len t)
lacks_frees s key len Leaf m = tt
lacks_frees s key len (Fork node l r) m =
    lacks_if s (agrees node.key key node.len && nat_lt node.len len) _ _
    (lacks_if s (bit key node.len) _ _
    (lacks_append s (tidy_frees node l (remove_tree key len r)) (remove_frees key len r) (lacks_if s node.marked [] (fork_frees node l (remove_tree key len r)) tt (lacks_fork s node l (remove_tree key len r) m.0)) (lacks_frees s key len r m.2))
    (lacks_append s (tidy_frees node (remove_tree key len l) r) (remove_frees key len l) (lacks_if s node.marked [] (fork_frees node (remove_tree key len l) r) tt (lacks_fork s node (remove_tree key len l) r m.0)) (lacks_frees s key len l m.1)))
    (lacks_fork s (with_mark node false) l r m.0)

fork_apart : (node : Node) (l r u : Tree) → Misses node.slot u → Apart (fork_frees node l r) u
fork_apart node Leaf r u m = (m, tt)
fork_apart node (Fork x y z) Leaf u m = (m, tt)
fork_apart node (Fork x y z) (Fork a b c) u m = tt

-- the nodes that go are of the tree
pub frees_apart : (key len : ℕ) (t u : Tree) → Disjoint t u → Apart (remove_frees key len t) u
frees_apart key len Leaf u d = tt
frees_apart key len (Fork node l r) u d =
    apart_if (agrees node.key key node.len && nat_lt node.len len) _ _ u
    (apart_if (bit key node.len) _ _ u
    (apart_append (tidy_frees node l (remove_tree key len r)) (remove_frees key len r) u (apart_if node.marked [] (fork_frees node l (remove_tree key len r)) u tt (fork_apart node l (remove_tree key len r) u d.0)) (frees_apart key len r u d.2))
    (apart_append (tidy_frees node (remove_tree key len l) r) (remove_frees key len l) u (apart_if node.marked [] (fork_frees node (remove_tree key len l) r) u tt (fork_apart node (remove_tree key len l) r u d.0)) (frees_apart key len l u d.1)))
    (fork_apart (with_mark node false) l r u d.0)

apart_tidied : (xs : List ℕ) (node : Node) (l r : Tree) → Apart xs (Fork node l r) → Apart xs (tidy_fork node l r)
apart_tidied xs node Leaf r a = apart_right xs node Leaf r a
apart_tidied xs node (Fork x y z) Leaf a = apart_left xs node (Fork x y z) Leaf a
apart_tidied xs node (Fork x y z) (Fork p q w) a = a

apart_tree : (xs : List ℕ) (node : Node) (l r : Tree) (v : Bool) → Apart xs (Fork node l r) → Apart xs (if v then Fork node l r else tidy_fork node l r)
apart_tree xs node l r true a = a
apart_tree xs node l r false a = apart_tidied xs node l r a

own_apart : (node : Node) (l r : Tree) → Misses node.slot l → Misses node.slot r → Apart (fork_frees node l r) (tidy_fork node l r)
own_apart node Leaf r ml mr = (mr, tt)
own_apart node (Fork x y z) Leaf ml mr = (ml, tt)
own_apart node (Fork x y z) (Fork a b c) ml mr = tt

own_tidy : (node : Node) (l r : Tree) (v : Bool) → Misses node.slot l → Misses node.slot r
    → Apart (if v then [] else fork_frees node l r) (if v then Fork node l r else tidy_fork node l r)
own_tidy node l r true ml mr = tt
own_tidy node l r false ml mr = own_apart node l r ml mr

kept_go : (key len : ℕ) (node : Node) (l r : Tree) (v b : Bool) → Distinct (Fork node l r)
    → Apart (remove_frees key len l) (remove_tree key len l) → Apart (remove_frees key len r) (remove_tree key len r)
    → Apart (if v then (if b then tidy_frees node l (remove_tree key len r) ++ remove_frees key len r else tidy_frees node (remove_tree key len l) r ++ remove_frees key len l)
    else tidy_frees (with_mark node false) l r)
    (if v then (if b then tidy_tree node l (remove_tree key len r) else tidy_tree node (remove_tree key len l) r) else tidy_tree (with_mark node false) l r)
kept_go key len node l r true true d pl pr =
    apart_append (tidy_frees node l (remove_tree key len r)) (remove_frees key len r) (tidy_tree node l (remove_tree key len r))
    (own_tidy node l (remove_tree key len r) node.marked d.0 (misses_remove node.slot key len r d.1))
    (apart_tree (remove_frees key len r) node l (remove_tree key len r) node.marked
    (apart_join (remove_frees key len r) node l (remove_tree key len r) (lacks_frees node.slot key len r d.1) (frees_apart key len r l (disjoint_sym l r d.2)) pr))
kept_go key len node l r true false d pl pr =
    apart_append (tidy_frees node (remove_tree key len l) r) (remove_frees key len l) (tidy_tree node (remove_tree key len l) r)
    (own_tidy node (remove_tree key len l) r node.marked (misses_remove node.slot key len l d.0) d.1)
    (apart_tree (remove_frees key len l) node (remove_tree key len l) r node.marked
    (apart_join (remove_frees key len l) node (remove_tree key len l) r (lacks_frees node.slot key len l d.0) pl (frees_apart key len l r d.2)))
kept_go key len node l r false b d pl pr = own_apart (with_mark node false) l r d.0 d.1

pub kept_apart : (key len : ℕ) (t : Tree) → Distinct t → Apart (remove_frees key len t) (remove_tree key len t)
kept_apart key len Leaf d = tt
kept_apart key len (Fork node l r) d =
    kept_go key len node l r (agrees node.key key node.len && nat_lt node.len len) (bit key node.len) d (kept_apart key len l d.3) (kept_apart key len r d.4)

pub apart_remove : (key len : ℕ) (xs : List ℕ) (t : Tree) → Apart xs t → Apart xs (remove_tree key len t)
apart_remove key len [] t a = tt
apart_remove key len (x ∷ xs) t a = (misses_remove x key len t a.0, apart_remove key len xs t a.1)
