-- A tree without a prefix is a tree.
use Rattle.std.proofs.Common.{◌≡◌, ℕ, ◌<◌, Bool, arith, false, if◌then◌else◌, nat_lt, refl, sym, true, ◌&&◌, ◌∙◌}
use Rattle.xf_trie.specs.declared.trie.Node.{Node}
use Rattle.xf_trie.specs.Keys.{agrees, bit}
use Rattle.xf_trie.specs.Puts.{with_mark}
use Rattle.xf_trie.specs.Takes.{remove_tree, tidy_fork, tidy_tree}
use Rattle.xf_trie.specs.Trees.{Fits, Fork, IsTree, Leaf, Tree, Under}
use Rattle.xf_trie.proofs.Agreeing.{agrees_less, agrees_trans, bit_same}
use Rattle.xf_trie.proofs.Slots.{pick_tree}

under_child : (k n : ℕ) (side next : Bool) (node : Node) (t : Tree) → n < node.len → agrees k node.key n ≡ true → bit node.key n ≡ side
    → Under node.key node.len next t → Under k n side t
under_child k n side next node Leaf h a b u = tt
under_child k n side next node (Fork child x y) h a b u = (
  omega (arith, u.0),
  agrees_trans k node.key child.key n a (agrees_less node.key child.key n node.len (omega arith) u.1),
  sym (bit_same node.key child.key n node.len h u.1) ∙ b,
)

under_tidy : (k n : ℕ) (side : Bool) (node : Node) (l r : Tree) → n < node.len → agrees k node.key n ≡ true → bit node.key n ≡ side
    → Under node.key node.len false l → Under node.key node.len true r → Under k n side (tidy_fork node l r)
under_tidy k n side node Leaf r h a b ul ur = under_child k n side true node r h a b ur
under_tidy k n side node (Fork x y z) Leaf h a b ul ur = under_child k n side false node (Fork x y z) h a b ul
under_tidy k n side node (Fork x y z) (Fork u v w) h a b ul ur = (h, a, b)

-- a tree whose root may lack a child
abbrev pub Nearly : Node → Tree → Tree → Type 0
Nearly node l r = Fits node × Under node.key node.len false l × Under node.key node.len true r × IsTree l × IsTree r

is_tidy_fork : (node : Node) (l r : Tree) → Nearly node l r → IsTree (tidy_fork node l r)
is_tidy_fork node Leaf r w = w.4
is_tidy_fork node (Fork x y z) Leaf w = w.3
is_tidy_fork node (Fork x y z) (Fork a b c) w = (w.0, w.1, w.2, w.3, w.4, (λ e. (refl, refl)))

is_tidy_if : (node : Node) (l r : Tree) (m : Bool) → node.marked ≡ m → Nearly node l r → IsTree (if m then Fork node l r else tidy_fork node l r)
is_tidy_if node l r true e w = (w.0, w.1, w.2, w.3, w.4, (λ f. absurd (cc)))
is_tidy_if node l r false e w = is_tidy_fork node l r w

is_tidy : (node : Node) (l r : Tree) → Nearly node l r → IsTree (tidy_tree node l r)
is_tidy node l r w = is_tidy_if node l r node.marked refl w

pub under_remove : (k n : ℕ) (side : Bool) (key len : ℕ) (t : Tree) → IsTree t → Under k n side t → Under k n side (remove_tree key len t)
under_remove k n side key len Leaf w u = tt
under_remove k n side key len (Fork node l r) w u =
    pick_tree (λ t. Under k n side t) (agrees node.key key node.len && nat_lt node.len len) _ _
    (pick_tree (λ t. Under k n side t) (bit key node.len) _ _
    (pick_tree (λ t. Under k n side t) node.marked _ _ u
    (under_tidy k n side node l (remove_tree key len r) u.0 u.1 u.2 w.1 (under_remove node.key node.len true key len r w.4 w.2)))
    (pick_tree (λ t. Under k n side t) node.marked _ _ u
    (under_tidy k n side node (remove_tree key len l) r u.0 u.1 u.2 (under_remove node.key node.len false key len l w.3 w.1) w.2)))
    (under_tidy k n side (with_mark node false) l r u.0 u.1 u.2 w.1 w.2)

pub is_remove : (key len : ℕ) (t : Tree) → IsTree t → IsTree (remove_tree key len t)
is_remove key len Leaf w = tt
is_remove key len (Fork node l r) w =
    pick_tree IsTree (agrees node.key key node.len && nat_lt node.len len) _ _
    (pick_tree IsTree (bit key node.len) _ _
    (is_tidy node l (remove_tree key len r) (w.0, w.1, under_remove node.key node.len true key len r w.4 w.2, w.3, is_remove key len r w.4))
    (is_tidy node (remove_tree key len l) r (w.0, under_remove node.key node.len false key len l w.3 w.1, w.2, is_remove key len l w.3, w.4)))
    (is_tidy (with_mark node false) l r (record { len = w.0.len; key = w.0.key }, w.1, w.2, w.3, w.4))
