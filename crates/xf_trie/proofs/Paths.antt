-- The nodes on the way to a key are those of the tree whose prefix holds it.
use Rattle.std.proofs.Common.{◌≡◌, ◌≢◌, ℕ, zero, suc, ◌+◌, ◌≤◌, Bool, List, Option, [], ap, append-nil, arith, cond, false, filter, if◌then◌else◌, max, refl, rules, sym, true, ◌++◌, ◌∙◌, ◌∷◌}
use Rattle.std.specs.Prelude.{⊤}
use Rattle.std.proofs.lemmas.List.Elements.{filter-append}
use Rattle.xf_trie.specs.declared.trie.Node.{Node}
use Rattle.xf_trie.specs.declared.trie.Trie.{Trie}
use Rattle.xf_trie.specs.Keys.{agrees, bit}
use Rattle.xf_trie.specs.Nodes.{child_at}
use Rattle.xf_trie.specs.Trees.{Fork, IsTree, Leaf, Stands, Tree, Under, holds, nodes_of}
use Rattle.xf_trie.specs.Walks.{path_from}
use Rattle.xf_trie.proofs.Agreeing.{miss_below, miss_side}

-- the nodes on the way to a key whose prefix holds it
abbrev pub tree_path : ℕ → Tree → List Node
tree_path key Leaf = []
tree_path key (Fork node left right) =
    if agrees node.key key node.len
    then node ∷ (if bit key node.len then tree_path key right else tree_path key left)
    else []

-- how many nodes stand one below another
abbrev pub height : Tree → ℕ
height Leaf = 0
height (Fork node left right) = max (height left) (height right) + 1

path_side : (trie : Trie) (image : List ℕ) (key n : ℕ) (node : Node) (l r : Tree) (a b : Bool)
    → path_from trie image key n (child_at trie image node.slot false) ≡ tree_path key l
    → path_from trie image key n (child_at trie image node.slot true) ≡ tree_path key r
    → (if a then node ∷ path_from trie image key n (child_at trie image node.slot b) else []) ≡ (if a then node ∷ (if b then tree_path key r else tree_path key l) else [])
path_side trie image key n node l r a true el er = ap (λ xs. if a then node ∷ xs else []) er
path_side trie image key n node l r a false el er = ap (λ xs. if a then node ∷ xs else []) el

-- the words' way is the tree's
pub path_stands : (trie : Trie) (image : List ℕ) (key left : ℕ) (at : Option ℕ) (t : Tree)
    → height t ≤ left → Stands trie image at t → path_from trie image key left at ≡ tree_path key t
path_stands trie image key zero at Leaf h s = refl
path_stands trie image key (suc n) at Leaf h s = ap (λ o. path_from trie image key (suc n) o) s
path_stands trie image key zero at (Fork node l r) h s = absurd (omega arith)
path_stands trie image key (suc n) at (Fork node l r) h s =
    ap (λ o. path_from trie image key (suc n) o) s.0
    ∙ ap (λ (m : Node). if agrees m.key key m.len then m ∷ path_from trie image key n (child_at trie image node.slot (bit key m.len)) else []) s.1
    ∙ path_side trie image key n node l r (agrees node.key key node.len) (bit key node.len)
    (path_stands trie image key n _ l (omega arith) s.2) (path_stands trie image key n _ r (omega arith) s.3)

-- the root's prefix misses a key
abbrev pub MissesRoot : ℕ → Tree → Type 0
MissesRoot key Leaf = ⊤
MissesRoot key (Fork node l r) = agrees node.key key node.len ≡ false

miss_under : (k n : ℕ) (side : Bool) (key : ℕ) (t : Tree) → Under k n side t → agrees k key n ≡ false → MissesRoot key t
miss_under k n side key Leaf u f = search rules
miss_under k n side key (Fork node l r) u f = miss_below k node.key key n node.len (omega (arith, u.0)) u.1 f

miss_other : (k n : ℕ) (side : Bool) (key : ℕ) (t : Tree) → Under k n side t → bit key n ≢ side → MissesRoot key t
miss_other k n side key Leaf u f = search rules
miss_other k n side key (Fork node l r) u f = miss_side node.key key n node.len side u.0 u.2 f

none_hold : (key : ℕ) (t : Tree) → IsTree t → MissesRoot key t → filter (holds key) (nodes_of t) ≡ []
none_hold key Leaf w m = refl
none_hold key (Fork node l r) w m =
    ap (λ (b : Bool). cond b (node ∷ filter (holds key) (nodes_of l ++ nodes_of r)) (filter (holds key) (nodes_of l ++ nodes_of r))) m
    ∙ filter-append (holds key) (nodes_of l) (nodes_of r)
    ∙ ap (λ xs. xs ++ filter (holds key) (nodes_of r)) (none_hold key l w.3 (miss_under node.key node.len false key l w.1 m))
    ∙ none_hold key r w.4 (miss_under node.key node.len true key r w.2 m)

append_none : {A : Type 0} (xs ys : List A) → ys ≡ [] → xs ++ ys ≡ xs
append_none xs ys e = ap (λ zs. xs ++ zs) e ∙ append-nil xs

fork_filter : (key : ℕ) (node : Node) (l r : Tree) (v b : Bool) → IsTree (Fork node l r)
    → agrees node.key key node.len ≡ v → bit key node.len ≡ b
    → tree_path key l ≡ filter (holds key) (nodes_of l) → tree_path key r ≡ filter (holds key) (nodes_of r)
    → (if v then node ∷ (if b then tree_path key r else tree_path key l) else [])
    ≡ cond v (node ∷ filter (holds key) (nodes_of l ++ nodes_of r)) (filter (holds key) (nodes_of l ++ nodes_of r))
fork_filter key node l r false b w ev eb el er =
    sym (filter-append (holds key) (nodes_of l) (nodes_of r)
    ∙ ap (λ xs. xs ++ filter (holds key) (nodes_of r)) (none_hold key l w.3 (miss_under node.key node.len false key l w.1 ev))
    ∙ none_hold key r w.4 (miss_under node.key node.len true key r w.2 ev))
fork_filter key node l r true true w ev eb el er =
    let none : filter (holds key) (nodes_of l) ≡ [] = none_hold key l w.3 (miss_other node.key node.len false key l w.1 (λ e. absurd (cc))) in
    ap (λ xs. node ∷ xs) (er ∙ sym (filter-append (holds key) (nodes_of l) (nodes_of r) ∙ ap (λ xs. xs ++ filter (holds key) (nodes_of r)) none))
fork_filter key node l r true false w ev eb el er =
    let none : filter (holds key) (nodes_of r) ≡ [] = none_hold key r w.4 (miss_other node.key node.len true key r w.2 (λ e. absurd (cc))) in
    ap (λ xs. node ∷ xs) (el ∙ sym (filter-append (holds key) (nodes_of l) (nodes_of r) ∙ append_none (filter (holds key) (nodes_of l)) (filter (holds key) (nodes_of r)) none))

-- the tree's way has just the nodes whose prefix holds the key
pub path_filter : (key : ℕ) (t : Tree) → IsTree t → tree_path key t ≡ filter (holds key) (nodes_of t)
path_filter key Leaf w = refl
path_filter key (Fork node l r) w =
    fork_filter key node l r (agrees node.key key node.len) (bit key node.len) w refl refl (path_filter key l w.3) (path_filter key r w.4)
