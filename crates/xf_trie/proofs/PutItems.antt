-- The prefix comes to those that were inserted.
use Rattle.std.proofs.Common.{◌≡◌, ℕ, ◌^◌, ◌<◌, ◌≤◌, Bool, List, [], ap, append-nil, append_assoc, arith, cond, eq-eqb, false, filter, if◌then◌else◌, min, nat_lt, refl, subst, sym, true, ◌&&◌, ◌++◌, ◌==◌, ◌∙◌, ◌∷◌}
use Rattle.std.proofs.lemmas.Bool.{eqb-true, ltb-false}
use Rattle.std.proofs.lemmas.List.Elements.{filter-append}
use Rattle.xf_trie.specs.declared.trie.Node.{Node}
use Rattle.xf_trie.specs.Insertions.{shared_with}
use Rattle.xf_trie.specs.Keys.{agrees, bit, common}
use Rattle.xf_trie.specs.Nodes.{is_marked}
use Rattle.xf_trie.specs.Puts.{Puts, node_of, put_here, put_tree, with_mark}
use Rattle.xf_trie.specs.Trees.{Fork, IsTree, Leaf, Tree, is_prefix, items_of, nodes_of}
use Rattle.xf_trie.proofs.Agreeing.{agrees_self}
use Rattle.xf_trie.proofs.Bools.{and_false_one}
use Rattle.xf_trie.proofs.Items.{items_fork, one_side, only_if}
use Rattle.xf_trie.proofs.Shared.{common_agrees, common_most}

-- the node of a prefix after a put
abbrev pub put_answer : ℕ → ℕ → ℕ → Tree → ℕ
put_answer first key len Leaf = first
put_answer first key len (Fork node left right) =
    if agrees node.key key node.len && nat_lt node.len len
    then (if bit key node.len then put_answer first key len right else put_answer first key len left)
    else if shared_with node key len == node.len then node.slot else first

regroup : (hs front bs : List Node) (b : Bool) (x : Node) (back : List Node)
    → hs ++ ((front ++ (if b then x ∷ back else back)) ++ bs) ≡ (hs ++ front) ++ (if b then x ∷ (back ++ bs) else (back ++ bs))
regroup hs front bs true x back = simp append_assoc
regroup hs front bs false x back = simp append_assoc

puts_between : (key len slot : ℕ) (hs bs xs ys : List Node) → Puts key len slot xs ys → Puts key len slot (hs ++ (xs ++ bs)) (hs ++ (ys ++ bs))
puts_between key len slot hs bs xs ys p = record {
  front = hs ++ p.front;
  back = p.back ++ bs;
  node = p.node;
  before = p.before;
  this = p.this;
  marked = p.marked;
  at = p.at;
  was = ap (λ zs. hs ++ (zs ++ bs)) p.was ∙ regroup hs p.front bs p.before p.node p.back;
  now = ap (λ zs. hs ++ (zs ++ bs)) p.now ∙ regroup hs p.front bs true p.node p.back;
}

pub puts_same : (key len slot : ℕ) (xs ys hs bs : List Node) → hs ≡ xs → bs ≡ ys → Puts key len slot xs ys → Puts key len slot hs bs
puts_same key len slot xs ys hs bs e f p =
    subst (λ (zs : List Node). Puts key len slot zs bs) (sym e) (subst (λ (zs : List Node). Puts key len slot xs zs) (sym f) p)

puts_zero : (key len slot : ℕ) (node : Node) (l r x : Tree) → Puts key len slot (items_of l) (items_of x)
    → Puts key len slot (items_of (Fork node l r)) (items_of (Fork node x r))
puts_zero key len slot node l r x p =
    puts_same key len slot _ _ _ _ (items_fork node l r) (items_fork node x r)
    (puts_between key len slot (only_if node.marked node) (items_of r) (items_of l) (items_of x) p)

puts_one : (key len slot : ℕ) (node : Node) (l r x : Tree) → Puts key len slot (items_of r) (items_of x)
    → Puts key len slot (items_of (Fork node l r)) (items_of (Fork node l x))
puts_one key len slot node l r x p =
    puts_same key len slot _ _ _ _
    (items_fork node l r ∙ one_side (only_if node.marked node) (items_of l) (items_of r))
    (items_fork node l x ∙ one_side (only_if node.marked node) (items_of l) (items_of x))
    (puts_between key len slot (only_if node.marked node ++ items_of l) [] (items_of r) (items_of x) p)

this_new : (s key len : ℕ) → is_prefix key len (node_of s key len true) ≡ true
this_new s key len = ap (λ (b : Bool). b && agrees key key len) (eq-eqb len len refl) ∙ agrees_self key len

this_node : (key len : ℕ) (node : Node) → node.len ≡ len → agrees node.key key node.len ≡ true → is_prefix key len node ≡ true
this_node key len node e f = ap (λ (b : Bool). b && agrees node.key key len) (eq-eqb node.len len e) ∙ subst (λ (x : ℕ). agrees node.key key x ≡ true) e f

mark_was : (node : Node) (b : Bool) (xs : List Node) → node.marked ≡ b → cond b (node ∷ xs) xs ≡ (if b then with_mark node true ∷ xs else xs)
mark_was node true xs e = ap (λ (m : Bool). with_mark node m ∷ xs) e
mark_was node false xs e = refl

puts_here : (s1 s2 key len : ℕ) (node : Node) (l r : Tree) (shared : ℕ) (a b c d : Bool)
    → (a ≡ true → (node.len ≡ len) × (agrees node.key key node.len ≡ true))
    → Puts key len (if a then node.slot else s1) (items_of (Fork node l r)) (items_of (if a then Fork (with_mark node true) l r
    else if b then (if c then Fork (node_of s1 key len true) Leaf (Fork node l r) else Fork (node_of s1 key len true) (Fork node l r) Leaf)
    else (if d then Fork (node_of s2 key shared false) (Fork node l r) (Fork (node_of s1 key len true) Leaf Leaf)
    else Fork (node_of s2 key shared false) (Fork (node_of s1 key len true) Leaf Leaf) (Fork node l r))))
puts_here s1 s2 key len node l r shared true b c d f = record {
  front = [];
  back = filter is_marked (nodes_of l ++ nodes_of r);
  node = with_mark node true;
  before = node.marked;
  this = this_node key len node (f refl).0 (f refl).1;
  marked = refl;
  at = refl;
  was = mark_was node node.marked (filter is_marked (nodes_of l ++ nodes_of r)) refl;
  now = refl;
}
puts_here s1 s2 key len node l r shared false true true d f = record {
  front = [];
  back = items_of (Fork node l r);
  node = node_of s1 key len true;
  before = false;
  this = this_new s1 key len;
  marked = refl;
  at = refl;
  was = refl;
  now = refl;
}
puts_here s1 s2 key len node l r shared false true false d f = record {
  front = [];
  back = items_of (Fork node l r);
  node = node_of s1 key len true;
  before = false;
  this = this_new s1 key len;
  marked = refl;
  at = refl;
  was = refl;
  now = ap (λ (xs : List Node). node_of s1 key len true ∷ filter is_marked xs) (append-nil (nodes_of (Fork node l r)));
}
puts_here s1 s2 key len node l r shared false false c true f = record {
  front = items_of (Fork node l r);
  back = [];
  node = node_of s1 key len true;
  before = false;
  this = this_new s1 key len;
  marked = refl;
  at = refl;
  was = sym (append-nil (items_of (Fork node l r)));
  now = filter-append is_marked (nodes_of (Fork node l r)) (node_of s1 key len true ∷ []);
}
puts_here s1 s2 key len node l r shared false false c false f = record {
  front = [];
  back = items_of (Fork node l r);
  node = node_of s1 key len true;
  before = false;
  this = this_new s1 key len;
  marked = refl;
  at = refl;
  was = refl;
  now = refl;
}

puts_go : (s1 s2 key len : ℕ) (node : Node) (l r rest : Tree) (v b : Bool) (x : ℕ)
    → Puts key len (put_answer s1 key len l) (items_of l) (items_of (put_tree s1 s2 key len l))
    → Puts key len (put_answer s1 key len r) (items_of r) (items_of (put_tree s1 s2 key len r))
    → (v ≡ false → Puts key len x (items_of (Fork node l r)) (items_of rest))
    → Puts key len (if v then (if b then put_answer s1 key len r else put_answer s1 key len l) else x) (items_of (Fork node l r))
    (items_of (if v then (if b then Fork node l (put_tree s1 s2 key len r) else Fork node (put_tree s1 s2 key len l) r) else rest))
puts_go s1 s2 key len node l r rest true true x pl pr p = puts_one key len _ node l r (put_tree s1 s2 key len r) pr
puts_go s1 s2 key len node l r rest true false x pl pr p = puts_zero key len _ node l r (put_tree s1 s2 key len l) pl
puts_go s1 s2 key len node l r rest false b x pl pr p = p refl

-- the inserted prefixes are those of before and this one
pub puts_put : (s1 s2 key len : ℕ) (t : Tree) → IsTree t → key < 2 ^ 128
    → Puts key len (put_answer s1 key len t) (items_of t) (items_of (put_tree s1 s2 key len t))
puts_put s1 s2 key len Leaf w hk = record {
  front = [];
  back = [];
  node = node_of s1 key len true;
  before = false;
  this = this_new s1 key len;
  marked = refl;
  at = refl;
  was = refl;
  now = refl;
}
puts_put s1 s2 key len (Fork node l r) w hk =
    let most : common node.key key (min node.len len) ≤ min node.len len = common_most node.key key (min node.len len) in
    puts_go s1 s2 key len node l r (put_here s1 s2 key len node l r (shared_with node key len))
    (agrees node.key key node.len && nat_lt node.len len) (bit key node.len) (if shared_with node key len == node.len then node.slot else s1)
    (puts_put s1 s2 key len l w.3 hk) (puts_put s1 s2 key len r w.4 hk)
    (λ ev. puts_here s1 s2 key len node l r (shared_with node key len) (shared_with node key len == node.len) (shared_with node key len == len)
    (bit node.key len) (bit key (shared_with node key len))
    (λ ea. let same : shared_with node key len ≡ node.len = eqb-true (shared_with node key len) node.len ea in
    let here : agrees node.key key node.len ≡ true =
    subst (λ (x : ℕ). agrees node.key key x ≡ true) same (common_agrees node.key key (min node.len len) w.0.key hk) in
    let past : len ≤ node.len = ltb-false node.len len (and_false_one _ _ ev here) in
    (omega arith, here)))
