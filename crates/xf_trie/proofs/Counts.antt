-- How many nodes a tree has.
use Rattle.std.proofs.Common.{◌≡◌, ℕ, ◌+◌, ◌*◌, ◌<◌, ◌≤◌, Bool, ap, arith, false, if◌then◌else◌, length, length-append, nat_lt, refl, true, ◌&&◌, ◌++◌, ◌==◌, ◌∙◌}
use Rattle.xf_trie.specs.Insertions.{shared_with}
use Rattle.xf_trie.specs.Keys.{agrees, bit}
use Rattle.xf_trie.specs.Puts.{put_tree, put_uses}
use Rattle.xf_trie.specs.Trees.{Fork, IsTree, Leaf, Tree, is_fork, items_of, size_of}
use Rattle.xf_trie.proofs.Items.{items_fork, length_only, only_if}

size_if : (v : Bool) (x y : Tree) (m n k : ℕ) → size_of x ≡ k + m → size_of y ≡ k + n → size_of (if v then x else y) ≡ k + (if v then m else n)
size_if true x y m n k e f = e
size_if false x y m n k e f = f

size_same : (v : Bool) (x y : Tree) (k : ℕ) → size_of x ≡ k → size_of y ≡ k → size_of (if v then x else y) ≡ k
size_same true x y k e f = e
size_same false x y k e f = f

pub size_put : (s1 s2 key len : ℕ) (t : Tree) → size_of (put_tree s1 s2 key len t) ≡ size_of t + put_uses key len t
size_put s1 s2 key len Leaf = refl
size_put s1 s2 key len (Fork node l r) =
    let a : size_of (put_tree s1 s2 key len l) ≡ size_of l + put_uses key len l = size_put s1 s2 key len l in
    let b : size_of (put_tree s1 s2 key len r) ≡ size_of r + put_uses key len r = size_put s1 s2 key len r in
    let n : ℕ = size_of l + size_of r + 1 in
    size_if (agrees node.key key node.len && nat_lt node.len len) _ _ _ _ n
    (size_if (bit key node.len) _ _ _ _ n (omega arith) (omega arith))
    (size_if (shared_with node key len == node.len) _ _ _ _ n (omega arith)
    (size_if (shared_with node key len == len) _ _ 1 2 n
    (size_same (bit node.key len) _ _ (n + 1) (omega arith) (omega arith))
    (size_same (bit key (shared_with node key len)) _ _ (n + 2) (omega arith) (omega arith))))

fork_flag : (t : Tree) → is_fork t ≡ true → 0 < size_of t
fork_flag Leaf e = absurd (cc)
fork_flag (Fork node l r) e = omega arith

bound_step : (m : Bool) (x y n a b : ℕ) → (m ≡ false → (0 < x) × (0 < y)) → n ≡ (if m then 1 else 0) + (a + b)
    → (0 < x → x + 1 ≤ 2 * a) → (0 < y → y + 1 ≤ 2 * b) → x + y + 1 + 1 ≤ 2 * n
bound_step true x y n a b f e p q = grind arith
bound_step false x y n a b f e p q = let h = f refl in let p1 : x + 1 ≤ 2 * a = p h.0 in let q1 : y + 1 ≤ 2 * b = q h.1 in omega arith

-- a tree has fewer than twice as many nodes as inserted prefixes
pub size_bound : (t : Tree) → IsTree t → 0 < size_of t → size_of t + 1 ≤ 2 * length (items_of t)
size_bound Leaf w h = absurd (omega arith)
size_bound (Fork node l r) w h =
    bound_step node.marked (size_of l) (size_of r) (length (items_of (Fork node l r))) (length (items_of l)) (length (items_of r))
    (λ e. (fork_flag l (w.5 e).0, fork_flag r (w.5 e).1))
    (ap length (items_fork node l r) ∙ length-append (only_if node.marked node) (items_of l ++ items_of r)
    ∙ ap (λ n. n + length (items_of l ++ items_of r)) (length_only node.marked node)
    ∙ ap (λ n. (if node.marked then 1 else 0) + n) (length-append (items_of l) (items_of r)))
    (λ k. size_bound l w.3 k) (λ k. size_bound r w.4 k)

-- an insertion takes at most two nodes

small_if : (v : Bool) (m n : ℕ) → m ≤ 2 → n ≤ 2 → (if v then m else n) ≤ 2
small_if true m n h k = h
small_if false m n h k = k

pub uses_small : (key len : ℕ) (t : Tree) → put_uses key len t ≤ 2
uses_small key len Leaf = omega arith
uses_small key len (Fork node l r) =
    small_if (agrees node.key key node.len && nat_lt node.len len) _ _ (small_if (bit key node.len) _ _ (uses_small key len r) (uses_small key len l))
    (small_if (shared_with node key len == node.len) _ _ (omega arith) (small_if (shared_with node key len == len) 1 2 (omega arith) (omega arith)))
