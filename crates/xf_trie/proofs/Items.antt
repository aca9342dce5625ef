-- The inserted prefixes of a tree, in parts.
use Rattle.std.proofs.Common.{◌≡◌, Bool, List, [], ap, append-nil, append_assoc, cond, false, if◌then◌else◌, length, refl, sym, true, ◌++◌, ◌∙◌, ◌∷◌}
use Rattle.std.proofs.lemmas.List.Elements.{filter-append}
use Rattle.xf_trie.specs.declared.trie.Node.{Node}
use Rattle.xf_trie.specs.Nodes.{is_marked}
use Rattle.xf_trie.specs.Trees.{Fork, Tree, items_of, nodes_of}

pub only_if : Bool → Node → List Node
only_if b x = if b then x ∷ [] else []

pub length_only : (b : Bool) (x : Node) → length (only_if b x) ≡ (if b then 1 else 0)
unfolding only_if
length_only true x = refl
length_only false x = refl

pub cond_front : (b : Bool) (x : Node) (xs ys : List Node) → cond b (x ∷ (xs ++ ys)) (xs ++ ys) ≡ only_if b x ++ (xs ++ ys)
unfolding only_if
cond_front true x xs ys = refl
cond_front false x xs ys = refl

pub items_fork : (node : Node) (l r : Tree) → items_of (Fork node l r) ≡ only_if node.marked node ++ (items_of l ++ items_of r)
items_fork node l r =
    ap (λ (xs : List Node). cond node.marked (node ∷ xs) xs) (filter-append is_marked (nodes_of l) (nodes_of r))
    ∙ cond_front node.marked node (items_of l) (items_of r)

pub one_side : (hs bs cs : List Node) → hs ++ (bs ++ cs) ≡ (hs ++ bs) ++ (cs ++ [])
one_side hs bs cs = ap (λ zs. hs ++ (bs ++ zs)) (sym (append-nil cs)) ∙ sym (append_assoc hs bs (cs ++ []))
