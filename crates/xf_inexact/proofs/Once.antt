-- No node is visited twice.
use Rattle.std.proofs.Common.{◌≡◌, ◌≢◌, ℕ, ◌+◌, ◌-◌, ◌<◌, ◌≤◌, ◌++◌, ◌==◌, ◌||◌, Bool, true, false, cond, List, [], ◌∷◌, Option, None, Some, filter, length, map, refl, ap, sym, ◌∙◌, subst, arith}
use Rattle.std.proofs.lemmas.Bool.{eqb-true}
use Rattle.xf_index.specs.Indexes.{is_number, picked}
use Rattle.xf_trie.specs.declared.trie.Node.{Node}
use Rattle.xf_trie.specs.Forests.{Owned}
use Rattle.xf_trie.specs.Keys.{key_of}
use Rattle.xf_trie.specs.Nodes.{Below, is_marked, slot_in}
use Rattle.xf_trie.specs.Pools.{IsTrie}
use Rattle.xf_trie.specs.Slots.{Disjoint, Distinct, Misses}
use Rattle.xf_trie.specs.Trees.{Fork, Leaf, Tree, holds, nodes_of}
use Rattle.xf_trie.specs.Walks.{visit_of}
use Rattle.xf_trie.proofs.Lookups.{visit_is}
use Rattle.xf_trie.proofs.Owners.{not_same}
use Rattle.xf_types.specs.declared.network.Flow.{Flow}
use Rattle.xf_types.specs.declared.policy.Policy.{Policy}
use Rattle.xf_inexact.specs.declared.inexact.Inexact.{Inexact}
use Rattle.xf_inexact.specs.Bounds.{policies_at}
use Rattle.xf_inexact.specs.Holds.{HoldTrees}
use Rattle.xf_inexact.specs.Places.{below_of, below_root, count_of}
use Rattle.xf_inexact.specs.Walks.{all_below, has, stands_in, visited_in}
use Rattle.xf_inexact.proofs.Apart.{below_is}
use Rattle.xf_inexact.proofs.Loads.{root_trie}
use Rattle.xf_inexact.proofs.Visited.{AllBelow, visit_below_count}

abbrev pub one : Bool → ℕ
one true = 1
one false = 0

-- how often a node comes
abbrev pub count : ℕ → List ℕ → ℕ
count n [] = 0
count n (x ∷ xs) = one (n == x) + count n xs

pub count_both : (n : ℕ) (xs ys : List ℕ) → count n (xs ++ ys) ≡ count n xs + count n ys
count_both n [] ys = omega arith
count_both n (x ∷ xs) ys = let h = count_both n xs ys in omega (arith, h)

one_not : (a b : ℕ) → a ≢ b → one (a == b) ≡ 0
one_not a b h = turn (a == b) refl
  where
    turn : (v : Bool) → (a == b) ≡ v → one v ≡ 0
    turn true q = absurd (h (eqb-true a b q))
    turn false q = refl

pub one_small : (v : Bool) → one v ≤ 1
one_small true = omega arith
one_small false = omega arith

-- of a list's inserted prefixes, those that pass
abbrev pub seen : ℕ → (Node → Bool) → List Node → ℕ
seen n p xs = count n (map slot_in (filter p (filter is_marked xs)))

pass_both : (n more : ℕ) (x : Node) (xs ys : List Node) (b : Bool) → count n (map slot_in xs) ≡ count n (map slot_in ys) + more
    → count n (map slot_in (cond b (x ∷ xs) xs)) ≡ count n (map slot_in (cond b (x ∷ ys) ys)) + more
pass_both n more x xs ys true h = omega (arith, h)
pass_both n more x xs ys false h = h

mark_both : (n more : ℕ) (p : Node → Bool) (x : Node) (xs ys : List Node) (b : Bool) → count n (map slot_in (filter p xs)) ≡ count n (map slot_in (filter p ys)) + more
    → count n (map slot_in (filter p (cond b (x ∷ xs) xs))) ≡ count n (map slot_in (filter p (cond b (x ∷ ys) ys))) + more
mark_both n more p x xs ys true h = pass_both n more x (filter p xs) (filter p ys) (p x) h
mark_both n more p x xs ys false h = h

seen_both : (n : ℕ) (p : Node → Bool) (xs ys : List Node) → seen n p (xs ++ ys) ≡ seen n p xs + seen n p ys
seen_both n p [] ys = omega arith
seen_both n p (x ∷ xs) ys = mark_both n (seen n p ys) p x (filter is_marked (xs ++ ys)) (filter is_marked xs) (is_marked x) (seen_both n p xs ys)

pass_root : (n : ℕ) (x : Node) (xs : List Node) (b : Bool) → count n (map slot_in (cond b (x ∷ xs) xs)) ≤ one (n == x.slot) + count n (map slot_in xs)
pass_root n x xs true = omega arith
pass_root n x xs false = omega arith

mark_root : (n : ℕ) (p : Node → Bool) (x : Node) (xs : List Node) (b : Bool)
    → count n (map slot_in (filter p (cond b (x ∷ xs) xs))) ≤ one (n == x.slot) + count n (map slot_in (filter p xs))
mark_root n p x xs true = pass_root n x (filter p xs) (p x)
mark_root n p x xs false = omega arith

seen_fork : (n : ℕ) (p : Node → Bool) (node : Node) (l r : Tree)
    → seen n p (nodes_of (Fork node l r)) ≤ one (n == node.slot) + seen n p (nodes_of l) + seen n p (nodes_of r)
seen_fork n p node l r =
    let a = mark_root n p node (filter is_marked (nodes_of l ++ nodes_of r)) (is_marked node) in
    let b = seen_both n p (nodes_of l) (nodes_of r) in omega (arith, a, b)

-- a node that isn't in a tree
pub seen_none : (n : ℕ) (p : Node → Bool) (t : Tree) → Misses n t → seen n p (nodes_of t) ≤ 0
seen_none n p Leaf m = omega arith
seen_none n p (Fork node l r) m =
    let a = seen_fork n p node l r in
    let b = one_not n node.slot m.0 in
    let c = seen_none n p l m.1 in
    let d = seen_none n p r m.2 in omega (arith, a, b, c, d)

-- a node isn't in both of two trees that are apart
in_one : (n : ℕ) (P : Type 0) (t u : Tree) → Disjoint t u → (Misses n t → P) → (Misses n u → P) → P
in_one n P Leaf u d f g = f tt
in_one n P (Fork node l r) u d f g = turn (n == node.slot) refl (λ h. in_one n P l u d.1 (λ a. in_one n P r u d.2 (λ b. f (h, a, b)) g) g)
  where
    turn : (v : Bool) → (n == node.slot) ≡ v → (n ≢ node.slot → P) → P
    turn true q k = g (subst (λ (s : ℕ). Misses s u) (sym (eqb-true n node.slot q)) d.0)
    turn false q k = k (λ e. not_same n node.slot e q)

-- and comes once at most in a tree
pub seen_once : (n : ℕ) (p : Node → Bool) (t : Tree) → Distinct t → seen n p (nodes_of t) ≤ 1
seen_once n p Leaf d = omega arith
seen_once n p (Fork node l r) d = turn (n == node.slot) refl (seen_fork n p node l r) (seen_once n p l d.3) (seen_once n p r d.4)
  where
    turn : (v : Bool) → (n == node.slot) ≡ v → seen n p (nodes_of (Fork node l r)) ≤ one v + seen n p (nodes_of l) + seen n p (nodes_of r)
        → seen n p (nodes_of l) ≤ 1 → seen n p (nodes_of r) ≤ 1 → seen n p (nodes_of (Fork node l r)) ≤ 1
    turn true q a x y =
        let e : n ≡ node.slot = eqb-true n node.slot q in
        let b = seen_none n p l (subst (λ (s : ℕ). Misses s l) (sym e) d.0) in
        let c = seen_none n p r (subst (λ (s : ℕ). Misses s r) (sym e) d.1) in omega (arith, a, b, c)
    turn false q a x y =
        in_one n (seen n p (nodes_of (Fork node l r)) ≤ 1) l r d.2
        (λ m. let b = seen_none n p l m in omega (arith, a, b, y))
        (λ m. let c = seen_none n p r m in omega (arith, a, c, x))

-- a node of another owner
pub owned_misses : (owner : ℕ → ℕ) (n root : ℕ) (t : Tree) → owner n ≢ root → Owned owner root t → Misses n t
owned_misses owner n root Leaf h o = tt
owned_misses owner n root (Fork node l r) h o =
    ((λ e. h (ap owner e ∙ o.0)), owned_misses owner n root l h o.1, owned_misses owner n root r h o.2)

-- below a node
visit_owner : (x : Inexact) (image : List ℕ) (key d n : ℕ) (h : HoldTrees x image) → d < count_of x
    → count n (visit_of (below_of x d) image key) ≤ one ((h.forest.owner n - (x.base + 64)) == d)
visit_owner x image key d n h b = turn ((h.forest.owner n - (x.base + 64)) == d) refl
  where
    s : IsTrie (below_of x d) image (h.trees (below_root x d)) h.free
    s = root_trie x image (below_root x d) h (below_is x d b)

    same : count n (visit_of (below_of x d) image key) ≡ seen n (holds key) (nodes_of (h.trees (below_root x d)))
    same = ap (λ xs. count n xs) (visit_is (below_of x d) image key (h.trees (below_root x d)) s.ordered s.stands)

    turn : (v : Bool) → ((h.forest.owner n - (x.base + 64)) == d) ≡ v → count n (visit_of (below_of x d) image key) ≤ one v
    turn true q = let a = seen_once n (holds key) (h.trees (below_root x d)) s.once in let e = same in omega (arith, a, e)
    turn false q =
        let a = seen_none n (holds key) (h.trees (below_root x d))
        (owned_misses h.forest.owner n (below_root x d) (h.trees (below_root x d))
        (λ e. not_same (h.forest.owner n - (x.base + 64)) d (omega (arith, e)) q) (h.forest.owned (below_root x d) (below_is x d b))) in
        let e = same in omega (arith, a, e)

all_owner : (x : Inexact) (image : List ℕ) (key n : ℕ) (nodes : List ℕ) (h : HoldTrees x image) → AllBelow (count_of x) nodes
    → count n (all_below x image key nodes) ≤ count (h.forest.owner n - (x.base + 64)) nodes
all_owner x image key n [] h b = omega arith
all_owner x image key n (d ∷ nodes) h b =
    let a = visit_owner x image key d n h b.0 in
    let c = all_owner x image key n nodes h b.1 in
    let e = count_both n (visit_of (below_of x d) image key) (all_below x image key nodes) in omega (arith, a, c, e)

-- no node is visited twice
pub visited_once : (x : Inexact) (image : List ℕ) (flow : Flow) (bin : Option ℕ) (n : ℕ) (h : HoldTrees x image) → Below (count_of x) bin
    → count n (visited_in x image flow bin) ≤ 1
visited_once x image flow None n h b = omega arith
visited_once x image flow (Some bin) n h b =
    let kd : ℕ = key_of flow.dst in
    let owner : ℕ = h.forest.owner n - (x.base + 64) in
    let a = all_owner x image (key_of flow.src) n (visit_of (below_of x bin) image kd) h (visit_below_count (below_of x bin) image kd) in
    let c = visit_owner x image kd bin owner h b in
    let e = one_small ((h.forest.owner owner - (x.base + 64)) == bin) in omega (arith, a, c, e)

-- entries by nodes, and nodes by entries
abbrev pub count_of_key : Option ℕ → List ℕ → ℕ
count_of_key None nodes = 0
count_of_key (Some n) nodes = count n nodes

number_one : (o : Option ℕ) (node : ℕ) (nodes : List ℕ) → count_of_key o (node ∷ nodes) ≡ one (is_number node o) + count_of_key o nodes
number_one None node nodes = omega arith
number_one (Some n) node nodes = omega arith

pick_one : (slot : ℕ) (xs : List ℕ) (b : Bool) → length (cond b (slot ∷ xs) xs) ≡ one b + length xs
pick_one slot xs true = omega arith
pick_one slot xs false = omega arith

at_none : (key : Policy → Option ℕ) (nodes : List ℕ) → policies_at key [] nodes ≡ 0
at_none key [] = refl
at_none key (node ∷ nodes) = let h = at_none key nodes in omega (arith, h)

at_more : (key : Policy → Option ℕ) (e : ℕ × Policy) (es : List (ℕ × Policy)) (nodes : List ℕ)
    → policies_at key (e ∷ es) nodes ≡ count_of_key (key e.1) nodes + policies_at key es nodes
at_more key e es [] = sum_none (key e.1)
  where
    sum_none : (o : Option ℕ) → 0 ≡ count_of_key o [] + 0
    sum_none None = omega arith
    sum_none (Some n) = omega arith
at_more key e es (node ∷ nodes) =
    let a = pick_one e.0 (picked key node es) (is_number node (key e.1)) in
    let b = at_more key e es nodes in
    let c = number_one (key e.1) node nodes in omega (arith, a, b, c)

count_has : (n : ℕ) (nodes : List ℕ) → has n nodes ≡ false → count n nodes ≡ 0
count_has n [] e = refl
count_has n (x ∷ xs) e = turn (n == x) e (λ h. count_has n xs h)
  where
    turn : (v : Bool) → (v || has n xs) ≡ false → (has n xs ≡ false → count n xs ≡ 0) → one v + count n xs ≡ 0
    turn true q k = absurd (cc)
    turn false q k = let h = k q in omega (arith, h)

key_one : (o : Option ℕ) (nodes : List ℕ) → ((n : ℕ) → count n nodes ≤ 1) → count_of_key o nodes ≤ one (stands_in nodes o)
key_one None nodes f = omega arith
key_one (Some n) nodes f = turn (has n nodes) refl
  where
    turn : (v : Bool) → has n nodes ≡ v → count n nodes ≤ one v
    turn true q = f n
    turn false q = let h = count_has n nodes q in omega (arith, h)

pub stands_one : (e : ℕ × Policy) (es : List (ℕ × Policy)) (b : Bool) → length (cond b (e ∷ es) es) ≡ one b + length es
stands_one e es true = omega arith
stands_one e es false = omega arith

-- where no node comes twice, each entry is counted once
pub at_once : (key : Policy → Option ℕ) (es : List (ℕ × Policy)) (nodes : List ℕ) → ((n : ℕ) → count n nodes ≤ 1)
    → policies_at key es nodes ≤ length (filter (λ (e : ℕ × Policy). stands_in nodes (key e.1)) es)
at_once key [] nodes f = let h = at_none key nodes in omega (arith, h)
at_once key (e ∷ es) nodes f =
    let a = at_more key e es nodes in
    let b = key_one (key e.1) nodes f in
    let c = at_once key es nodes f in
    let d = stands_one e (filter (λ (e : ℕ × Policy). stands_in nodes (key e.1)) es) (stands_in nodes (key e.1)) in omega (arith, a, b, c, d)
