-- The way to a key goes to longer prefixes, so a tree is no higher than there are lengths.
use Rattle.std.proofs.Common.{ℕ, ◌+◌, ◌<◌, ◌≤◌, Bool, List, [], arith, cond, false, filter, if◌then◌else◌, rules, true, ◌∷◌}
use Rattle.xf_trie.specs.declared.trie.Node.{Node}
use Rattle.xf_trie.specs.Keys.{agrees, bit}
use Rattle.xf_trie.specs.Trees.{Fork, IsTree, Leaf, Rises, Tree, Under}
use Rattle.xf_trie.proofs.Paths.{height, tree_path}

height_under : (k n : ℕ) (side : Bool) (t : Tree) → IsTree t → Under k n side t → n ≤ 128 → height t + n ≤ 128
height_under k n side Leaf w u h = omega arith
height_under k n side (Fork node l r) w u h =
    let lens : node.len ≤ 128 = w.0.len in
    let more : n < node.len = u.0 in
    let a : height l + node.len ≤ 128 = height_under node.key node.len false l w.3 w.1 lens in
    let b : height r + node.len ≤ 128 = height_under node.key node.len true r w.4 w.2 lens in
    omega arith

pub height_tree : (t : Tree) → IsTree t → height t ≤ 129
height_tree Leaf w = omega arith
height_tree (Fork node l r) w =
    let lens : node.len ≤ 128 = w.0.len in
    let a : height l + node.len ≤ 128 = height_under node.key node.len false l w.3 w.1 lens in
    let b : height r + node.len ≤ 128 = height_under node.key node.len true r w.4 w.2 lens in
    omega arith

-- the way goes to longer prefixes

rises_side : (n : ℕ) (v b : Bool) (node : Node) (xs ys : List Node) → n ≤ node.len → Rises (node.len + 1) xs → Rises (node.len + 1) ys
    → Rises n (if v then node ∷ (if b then ys else xs) else [])
rises_side n true true node xs ys h a b = (h, b)
rises_side n true false node xs ys h a b = (h, a)
rises_side n false b node xs ys h p q = search rules

pub path_rises : (k n : ℕ) (side : Bool) (key : ℕ) (t : Tree) → IsTree t → Under k n side t → Rises (n + 1) (tree_path key t)
path_rises k n side key Leaf w u = search rules
path_rises k n side key (Fork node l r) w u =
    let more : n < node.len = u.0 in
    rises_side (n + 1) (agrees node.key key node.len) (bit key node.len) node (tree_path key l) (tree_path key r) (omega arith)
    (path_rises node.key node.len false key l w.3 w.1) (path_rises node.key node.len true key r w.4 w.2)

pub tree_rises : (key : ℕ) (t : Tree) → IsTree t → Rises 0 (tree_path key t)
tree_rises key Leaf w = search rules
tree_rises key (Fork node l r) w =
    rises_side 0 (agrees node.key key node.len) (bit key node.len) node (tree_path key l) (tree_path key r) (omega arith)
    (path_rises node.key node.len false key l w.3 w.1) (path_rises node.key node.len true key r w.4 w.2)

-- a list of which some nodes are left out still rises

rises_more : (m n : ℕ) (xs : List Node) → m ≤ n → Rises n xs → Rises m xs
rises_more m n [] h r = tt
rises_more m n (x ∷ xs) h r = let a : n ≤ x.len = r.0 in (omega arith, r.1)

rises_step : (n : ℕ) (x : Node) (xs : List Node) (b : Bool) → n ≤ x.len → Rises (x.len + 1) xs → Rises n (cond b (x ∷ xs) xs)
rises_step n x xs true h r = (h, r)
rises_step n x xs false h r = rises_more n (x.len + 1) xs (omega arith) r

pub rises_filter : (p : Node → Bool) (n : ℕ) (xs : List Node) → Rises n xs → Rises n (filter p xs)
rises_filter p n [] r = tt
rises_filter p n (x ∷ xs) r = rises_step n x (filter p xs) (p x) r.0 (rises_filter p (x.len + 1) xs r.1)
