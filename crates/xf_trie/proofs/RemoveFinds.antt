-- A prefix that the way finds is there.
use Rattle.std.proofs.Common.{◌≡◌, ℕ, ◌+◌, ◌≤◌, Bool, List, Some, [], ap, arith, cond, false, find, if◌then◌else◌, nat_lt, refl, subst, sym, true, ◌&&◌, ◌==◌, ◌∙◌, ◌∷◌}
use Rattle.std.proofs.lemmas.Bool.{and_from, and_parts, and_right, eqb-true, le-ltb, lt-ltb}
use Rattle.xf_trie.specs.declared.trie.Node.{Node}
use Rattle.xf_trie.specs.Keys.{agrees, bit}
use Rattle.xf_trie.specs.Trees.{Fork, IsTree, Leaf, Rises, Tree, is_prefix}
use Rattle.xf_trie.specs.Walks.{is_of}
use Rattle.xf_trie.proofs.Heights.{path_rises}
use Rattle.xf_trie.proofs.Paths.{tree_path}
use Rattle.xf_trie.proofs.RemoveItems.{has_tree}

long_step : (len least : ℕ) (x : Node) (xs : List Node) (m : Node) (v : Bool) → (x.len == len) ≡ v → (marked : Bool) → Rises least (x ∷ xs)
    → cond (v && marked) (Some x) (find (is_of len) xs) ≡ Some m → (find (is_of len) xs ≡ Some m → x.len + 1 ≤ len) → least ≤ len
long_step len least x xs m true ev marked r e f = let same : x.len ≡ len = eqb-true x.len len ev in let h : least ≤ x.len = r.0 in omega arith
long_step len least x xs m false ev marked r e f = let g : x.len + 1 ≤ len = f e in let h : least ≤ x.len = r.0 in omega arith

find_long : (len least : ℕ) (xs : List Node) (m : Node) → Rises least xs → find (is_of len) xs ≡ Some m → least ≤ len
find_long len least [] m r e = absurd (cc)
find_long len least (x ∷ xs) m r e = long_step len least x xs m (x.len == len) refl x.marked r e (λ f. find_long len (x.len + 1) xs m r.1 f)

here_found : (key len : ℕ) (node : Node) (deep : Bool) → agrees node.key key node.len ≡ true → is_of len node ≡ true
    → (if agrees node.key key node.len && nat_lt node.len len then deep else node.marked && is_prefix key len node) ≡ true
here_found key len node deep ev ec =
    let same : node.len ≡ len = eqb-true node.len len (and_parts _ _ ec).0 in
    ap (λ (x : Bool). if x then deep else node.marked && is_prefix key len node) (and_right _ _ (le-ltb node.len len (omega arith)))
    ∙ and_from node.marked (is_prefix key len node) (and_parts _ _ ec).1
    (and_from (node.len == len) (agrees node.key key len) (and_parts _ _ ec).0 (subst (λ (n : ℕ). agrees node.key key n ≡ true) same ev))

deep_found : (key len : ℕ) (node : Node) (x y b : Bool) → agrees node.key key node.len ≡ true → node.len + 1 ≤ len → bit key node.len ≡ b
    → (if b then y else x) ≡ true
    → (if agrees node.key key node.len && nat_lt node.len len then (if bit key node.len then y else x) else node.marked && is_prefix key len node) ≡ true
deep_found key len node x y b ev h eb e =
    ap (λ (t : Bool). if t then (if bit key node.len then y else x) else node.marked && is_prefix key len node) (and_from _ _ ev (lt-ltb node.len len (omega arith)))
    ∙ ap (λ (t : Bool). if t then y else x) eb ∙ e

has_go : (key len : ℕ) (node : Node) (l r : Tree) (v b c : Bool) (m : Node) → IsTree (Fork node l r)
    → agrees node.key key node.len ≡ v → bit key node.len ≡ b → is_of len node ≡ c
    → (find (is_of len) (tree_path key l) ≡ Some m → has_tree key len l ≡ true)
    → (find (is_of len) (tree_path key r) ≡ Some m → has_tree key len r ≡ true)
    → find (is_of len) (if v then node ∷ (if b then tree_path key r else tree_path key l) else []) ≡ Some m
    → (if agrees node.key key node.len && nat_lt node.len len then (if bit key node.len then has_tree key len r else has_tree key len l) else node.marked && is_prefix key len node) ≡ true
has_go key len node l r false b c m w ev eb ec fl fr e = absurd (cc)
has_go key len node l r true b true m w ev eb ec fl fr e =
    here_found key len node (if bit key node.len then has_tree key len r else has_tree key len l) ev ec
has_go key len node l r true true false m w ev eb ec fl fr e =
    let f : find (is_of len) (tree_path key r) ≡ Some m = sym (ap (λ (x : Bool). cond x (Some node) (find (is_of len) (tree_path key r))) ec) ∙ e in
    deep_found key len node (has_tree key len l) (has_tree key len r) true ev (find_long len (node.len + 1) (tree_path key r) m (path_rises node.key node.len true key r w.4 w.2) f) eb (fr f)
has_go key len node l r true false false m w ev eb ec fl fr e =
    let f : find (is_of len) (tree_path key l) ≡ Some m = sym (ap (λ (x : Bool). cond x (Some node) (find (is_of len) (tree_path key l))) ec) ∙ e in
    deep_found key len node (has_tree key len l) (has_tree key len r) false ev (find_long len (node.len + 1) (tree_path key l) m (path_rises node.key node.len false key l w.3 w.1) f) eb (fl f)

pub has_found : (key len : ℕ) (t : Tree) (m : Node) → IsTree t → find (is_of len) (tree_path key t) ≡ Some m → has_tree key len t ≡ true
has_found key len Leaf m w e = absurd (cc)
has_found key len (Fork node l r) m w e =
    has_go key len node l r (agrees node.key key node.len) (bit key node.len) (is_of len node) m w refl refl refl
    (λ f. has_found key len l m w.3 f) (λ f. has_found key len r m w.4 f) e
