-- The prefix goes from those that were inserted.
use Rattle.std.proofs.Common.{◌≡◌, ℕ, Bool, List, [], ap, append-nil, append_assoc, cond, false, filter, if◌then◌else◌, nat_lt, refl, subst, sym, true, ◌&&◌, ◌++◌, ◌∙◌, ◌∷◌}
use Rattle.std.proofs.lemmas.Bool.{and_parts}
use Rattle.xf_trie.specs.declared.trie.Node.{Node}
use Rattle.xf_trie.specs.Keys.{agrees, bit}
use Rattle.xf_trie.specs.Nodes.{is_marked}
use Rattle.xf_trie.specs.Puts.{with_mark}
use Rattle.xf_trie.specs.Takes.{Takes, remove_tree, tidy_fork, tidy_tree}
use Rattle.xf_trie.specs.Trees.{Fork, Leaf, Tree, is_prefix, items_of, nodes_of}
use Rattle.xf_trie.proofs.Items.{items_fork, one_side, only_if}

-- a prefix was inserted, by the way to it
abbrev pub has_tree : ℕ → ℕ → Tree → Bool
has_tree key len Leaf = false
has_tree key len (Fork node left right) =
    if agrees node.key key node.len && nat_lt node.len len
    then (if bit key node.len then has_tree key len right else has_tree key len left)
    else node.marked && is_prefix key len node

items_tidy_fork : (node : Node) (l r : Tree) → node.marked ≡ false → items_of (tidy_fork node l r) ≡ items_of (Fork node l r)
items_tidy_fork node Leaf r e = ap (λ (b : Bool). cond b (node ∷ items_of r) (items_of r)) (sym e)
items_tidy_fork node (Fork x y z) Leaf e =
    sym (ap (λ (xs : List Node). filter is_marked xs) (append-nil (nodes_of (Fork x y z))))
    ∙ ap (λ (b : Bool). cond b (node ∷ filter is_marked (nodes_of (Fork x y z) ++ [])) (filter is_marked (nodes_of (Fork x y z) ++ []))) (sym e)
items_tidy_fork node (Fork x y z) (Fork a b c) e = refl

items_tidy_if : (node : Node) (l r : Tree) (m : Bool) → node.marked ≡ m → items_of (if m then Fork node l r else tidy_fork node l r) ≡ items_of (Fork node l r)
items_tidy_if node l r true e = refl
items_tidy_if node l r false e = items_tidy_fork node l r e

items_tidy : (node : Node) (l r : Tree) → items_of (tidy_tree node l r) ≡ items_of (Fork node l r)
items_tidy node l r = items_tidy_if node l r node.marked refl

regroup : (hs front back bs : List Node) → hs ++ ((front ++ back) ++ bs) ≡ (hs ++ front) ++ (back ++ bs)
regroup hs front back bs = simp append_assoc

takes_between : (key len : ℕ) (hs bs xs ys : List Node) → Takes key len xs ys → Takes key len (hs ++ (xs ++ bs)) (hs ++ (ys ++ bs))
takes_between key len hs bs xs ys p = record {
  front = hs ++ p.front;
  back = p.back ++ bs;
  node = p.node;
  this = p.this;
  was = ap (λ zs. hs ++ (zs ++ bs)) p.was ∙ regroup hs p.front (p.node ∷ p.back) bs;
  now = ap (λ zs. hs ++ (zs ++ bs)) p.now ∙ regroup hs p.front p.back bs;
}

takes_same : (key len : ℕ) (xs ys hs bs : List Node) → hs ≡ xs → bs ≡ ys → Takes key len xs ys → Takes key len hs bs
takes_same key len xs ys hs bs e f p =
    subst (λ (zs : List Node). Takes key len zs bs) (sym e) (subst (λ (zs : List Node). Takes key len xs zs) (sym f) p)

takes_zero : (key len : ℕ) (node : Node) (l r x : Tree) → Takes key len (items_of l) (items_of x) → Takes key len (items_of (Fork node l r)) (items_of (tidy_tree node x r))
takes_zero key len node l r x p =
    takes_same key len _ _ _ _ (items_fork node l r) (items_tidy node x r ∙ items_fork node x r)
    (takes_between key len (only_if node.marked node) (items_of r) (items_of l) (items_of x) p)

takes_one : (key len : ℕ) (node : Node) (l r x : Tree) → Takes key len (items_of r) (items_of x) → Takes key len (items_of (Fork node l r)) (items_of (tidy_tree node l x))
takes_one key len node l r x p =
    takes_same key len _ _ _ _
    (items_fork node l r ∙ one_side (only_if node.marked node) (items_of l) (items_of r))
    (items_tidy node l x ∙ items_fork node l x ∙ one_side (only_if node.marked node) (items_of l) (items_of x))
    (takes_between key len (only_if node.marked node ++ items_of l) [] (items_of r) (items_of x) p)

takes_here : (key len : ℕ) (node : Node) (l r : Tree) → (node.marked && is_prefix key len node) ≡ true
    → Takes key len (items_of (Fork node l r)) (items_of (tidy_tree (with_mark node false) l r))
takes_here key len node l r e = record {
  front = [];
  back = filter is_marked (nodes_of l ++ nodes_of r);
  node = node;
  this = (and_parts _ _ e).1;
  was = ap (λ (b : Bool). cond b (node ∷ filter is_marked (nodes_of l ++ nodes_of r)) (filter is_marked (nodes_of l ++ nodes_of r))) (and_parts _ _ e).0;
  now = items_tidy (with_mark node false) l r;
}

takes_go : (key len : ℕ) (node : Node) (l r : Tree) (v b : Bool)
    → (has_tree key len l ≡ true → Takes key len (items_of l) (items_of (remove_tree key len l)))
    → (has_tree key len r ≡ true → Takes key len (items_of r) (items_of (remove_tree key len r)))
    → (if v then (if b then has_tree key len r else has_tree key len l) else node.marked && is_prefix key len node) ≡ true
    → Takes key len (items_of (Fork node l r))
    (items_of (if v then (if b then tidy_tree node l (remove_tree key len r) else tidy_tree node (remove_tree key len l) r) else tidy_tree (with_mark node false) l r))
takes_go key len node l r true true fl fr e = takes_one key len node l r (remove_tree key len r) (fr e)
takes_go key len node l r true false fl fr e = takes_zero key len node l r (remove_tree key len l) (fl e)
takes_go key len node l r false b fl fr e = takes_here key len node l r e

-- the inserted prefixes are those of before without this one
pub takes_remove : (key len : ℕ) (t : Tree) → has_tree key len t ≡ true → Takes key len (items_of t) (items_of (remove_tree key len t))
takes_remove key len Leaf e = absurd (cc)
takes_remove key len (Fork node l r) e =
    takes_go key len node l r (agrees node.key key node.len && nat_lt node.len len) (bit key node.len) (λ f. takes_remove key len l f) (λ f. takes_remove key len r f) e
