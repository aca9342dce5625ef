-- Slots of trees that are apart.
use Rattle.std.proofs.Common.{Bool, false, if◌then◌else◌, rules, sym, true}
use Rattle.xf_trie.specs.declared.trie.Node.{Node}
use Rattle.xf_trie.specs.Slots.{Disjoint, Misses}
use Rattle.xf_trie.specs.Trees.{Fork, Leaf, Tree}

pub pick_tree : (P : Tree → Type 0) (v : Bool) (x y : Tree) → P x → P y → P (if v then x else y)
pick_tree P true x y p q = p
pick_tree P false x y p q = q

-- disjoint trees

disjoint_root : (t : Tree) (node : Node) (l r : Tree) → Disjoint t (Fork node l r) → Misses node.slot t
disjoint_root Leaf node l r d = search rules
disjoint_root (Fork m a b) node l r d = ((λ e. d.0.0 (sym e)), disjoint_root a node l r d.1, disjoint_root b node l r d.2)

disjoint_zero : (t : Tree) (node : Node) (l r : Tree) → Disjoint t (Fork node l r) → Disjoint t l
disjoint_zero Leaf node l r d = search rules
disjoint_zero (Fork m a b) node l r d = (d.0.1, disjoint_zero a node l r d.1, disjoint_zero b node l r d.2)

disjoint_one : (t : Tree) (node : Node) (l r : Tree) → Disjoint t (Fork node l r) → Disjoint t r
disjoint_one Leaf node l r d = search rules
disjoint_one (Fork m a b) node l r d = (d.0.2, disjoint_one a node l r d.1, disjoint_one b node l r d.2)

pub disjoint_sym : (t u : Tree) → Disjoint t u → Disjoint u t
disjoint_sym t Leaf d = search rules
disjoint_sym t (Fork node l r) d =
    (disjoint_root t node l r d, disjoint_sym t l (disjoint_zero t node l r d), disjoint_sym t r (disjoint_one t node l r d))
