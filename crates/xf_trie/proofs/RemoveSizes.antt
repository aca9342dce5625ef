-- The nodes that a removal gives back are those that leave the tree.
use Rattle.std.proofs.Common.{◌≡◌, ℕ, ◌+◌, Bool, [], arith, false, if◌then◌else◌, length, length-append, nat_lt, refl, true, ◌&&◌, ◌++◌}
use Rattle.xf_trie.specs.declared.trie.Node.{Node}
use Rattle.xf_trie.specs.Keys.{agrees, bit}
use Rattle.xf_trie.specs.Puts.{with_mark}
use Rattle.xf_trie.specs.Takes.{fork_frees, remove_frees, remove_tree, tidy_fork, tidy_frees, tidy_tree}
use Rattle.xf_trie.specs.Trees.{Fork, Leaf, Tree, size_of}

fork_size : (node : Node) (l r : Tree) → size_of (tidy_fork node l r) + length (fork_frees node l r) ≡ size_of l + size_of r + 1
fork_size node Leaf r = omega arith
fork_size node (Fork x y z) Leaf = omega arith
fork_size node (Fork x y z) (Fork a b c) = omega arith

tidy_size_if : (node : Node) (l r : Tree) (v : Bool)
    → size_of (if v then Fork node l r else tidy_fork node l r) + length (if v then [] else fork_frees node l r) ≡ size_of l + size_of r + 1
tidy_size_if node l r true = omega arith
tidy_size_if node l r false = fork_size node l r

tidy_size : (node : Node) (l r : Tree) → size_of (tidy_tree node l r) + length (tidy_frees node l r) ≡ size_of l + size_of r + 1
tidy_size node l r = tidy_size_if node l r node.marked

size_go : (key len : ℕ) (node : Node) (l r : Tree) (v b : Bool)
    → size_of (remove_tree key len l) + length (remove_frees key len l) ≡ size_of l
    → size_of (remove_tree key len r) + length (remove_frees key len r) ≡ size_of r
    → size_of (if v then (if b then tidy_tree node l (remove_tree key len r) else tidy_tree node (remove_tree key len l) r) else tidy_tree (with_mark node false) l r)
    + length (if v then (if b then tidy_frees node l (remove_tree key len r) ++ remove_frees key len r else tidy_frees node (remove_tree key len l) r ++ remove_frees key len l)
    else tidy_frees (with_mark node false) l r)
    ≡ size_of l + size_of r + 1
size_go key len node l r true true el er =
    let e : size_of (tidy_tree node l (remove_tree key len r)) + length (tidy_frees node l (remove_tree key len r)) ≡ size_of l + size_of (remove_tree key len r) + 1 =
    tidy_size node l (remove_tree key len r) in
    let f : length (tidy_frees node l (remove_tree key len r) ++ remove_frees key len r) ≡ length (tidy_frees node l (remove_tree key len r)) + length (remove_frees key len r) =
    length-append (tidy_frees node l (remove_tree key len r)) (remove_frees key len r) in
    omega arith
size_go key len node l r true false el er =
    let e : size_of (tidy_tree node (remove_tree key len l) r) + length (tidy_frees node (remove_tree key len l) r) ≡ size_of (remove_tree key len l) + size_of r + 1 =
    tidy_size node (remove_tree key len l) r in
    let f : length (tidy_frees node (remove_tree key len l) r ++ remove_frees key len l) ≡ length (tidy_frees node (remove_tree key len l) r) + length (remove_frees key len l) =
    length-append (tidy_frees node (remove_tree key len l) r) (remove_frees key len l) in
    omega arith
size_go key len node l r false b el er = fork_size (with_mark node false) l r

pub size_remove : (key len : ℕ) (t : Tree) → size_of (remove_tree key len t) + length (remove_frees key len t) ≡ size_of t
size_remove key len Leaf = refl
size_remove key len (Fork node l r) =
    size_go key len node l r (agrees node.key key node.len && nat_lt node.len len) (bit key node.len) (size_remove key len l) (size_remove key len r)
