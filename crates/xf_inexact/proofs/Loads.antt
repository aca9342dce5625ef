-- What a lookup loads at most, by the trees.
use Rattle.std.proofs.Common.{◌≡◌, ℕ, suc, ◌+◌, ◌*◌, ◌<◌, ◌≤◌, Bool, true, false, cond, List, [], ◌∷◌, Option, None, Some, filter, length, length-append, map, refl, ap, sym, ◌∙◌, subst, arith}
use Rattle.xf_chain.specs.Chains.{slots_of}
use Rattle.xf_chain.specs.Families.{chain_at}
use Rattle.xf_index.specs.Indexes.{Indexed, picked}
use Rattle.xf_index.proofs.Walked.{walk_picked}
use Rattle.xf_trie.specs.declared.trie.Node.{Node}
use Rattle.xf_trie.specs.declared.trie.Trie.{Trie}
use Rattle.xf_trie.specs.Keys.{key_of}
use Rattle.xf_trie.specs.Nodes.{Below, is_marked, root_of, slot_in}
use Rattle.xf_trie.specs.Pools.{IsTrie}
use Rattle.xf_trie.specs.Trees.{Fork, IsTree, Leaf, Tree, holds, items_of, nodes_of, size_of}
use Rattle.xf_trie.specs.Walks.{path_of, visit_of}
use Rattle.xf_trie.proofs.Counts.{size_bound}
use Rattle.xf_trie.proofs.Heights.{height_tree}
use Rattle.xf_trie.proofs.Lookups.{visit_is}
use Rattle.xf_trie.proofs.Paths.{path_filter, path_stands}
use Rattle.xf_trie.proofs.Woods.{trie_of}
use Rattle.xf_types.specs.declared.network.Flow.{Flow}
use Rattle.xf_types.specs.declared.network.Ptype.{Ptype}
use Rattle.xf_types.specs.declared.policy.Policy.{Policy}
use Rattle.xf_types.specs.Address.{family_of}
use Rattle.xf_inexact.specs.declared.inexact.Inexact.{Inexact}
use Rattle.xf_inexact.specs.Bounds.{bins_met, destinations, flow_nodes, nodes_met, nodes_under, policies_at}
use Rattle.xf_inexact.specs.Holds.{HoldPart, HoldTrees, inexact_key}
use Rattle.xf_inexact.specs.Keys.{bin_bucket, bin_cost, bin_key}
use Rattle.xf_inexact.specs.Places.{below_of, below_root, bucket_root, chains_of, count_of, is_root, pool_of, tree_at}
use Rattle.xf_inexact.specs.Walks.{all_below, bin_walks_cost, chains_cost, first_cost, flow_bin, visited, visited_in, walk_cost, walks_cost}
use Rattle.xf_inexact.proofs.Apart.{below_is, bucket_is, trees_lay}
use Rattle.xf_inexact.proofs.Bests.{in_all}
use Rattle.xf_inexact.proofs.Levels.{flow_bin_below}
use Rattle.xf_inexact.proofs.NodeLaws.{bucket_small}
use Rattle.xf_inexact.proofs.Visited.{AllBelow, visit_below_count}

-- a filter leaves no more
fewer_step : (b : Bool) (x : Node) (m n : List Node) → length m ≤ length n → length (cond b (x ∷ m) m) ≤ length (x ∷ n)
fewer_step true x m n h = omega arith
fewer_step false x m n h = omega arith

fewer : (p : Node → Bool) (xs : List Node) → length (filter p xs) ≤ length xs
fewer p [] = omega arith
fewer p (x ∷ xs) = fewer_step (p x) x (filter p xs) xs (fewer p xs)

-- and no more of those that another one leaves
fewer_both : (p q : Node → Bool) (xs : List Node) → length (filter p (filter q xs)) ≤ length (filter p xs)
fewer_both p q [] = omega arith
fewer_both p q (x ∷ xs) = turn (q x) (p x) refl (fewer_both p q xs)
  where
    turn : (b c : Bool) → p x ≡ c → length (filter p (filter q xs)) ≤ length (filter p xs)
        → length (filter p (cond b (x ∷ filter q xs) (filter q xs))) ≤ length (cond c (x ∷ filter p xs) (filter p xs))
    turn true true e h =
        subst (λ (v : Bool). length (cond v (x ∷ filter p (filter q xs)) (filter p (filter q xs))) ≤ length (x ∷ filter p xs)) (sym e) (omega (arith, h))
    turn true false e h = subst (λ (v : Bool). length (cond v (x ∷ filter p (filter q xs)) (filter p (filter q xs))) ≤ length (filter p xs)) (sym e) h
    turn false true e h = omega (arith, h)
    turn false false e h = h

pub slots_many : (xs : List Node) → length (map slot_in xs) ≡ length xs
slots_many [] = refl
slots_many (x ∷ xs) = ap (λ n. suc n) (slots_many xs)

tree_many : (t : Tree) → length (nodes_of t) ≡ size_of t
tree_many Leaf = refl
tree_many (Fork node l r) =
    let a = tree_many l in let b = tree_many r in let c = length-append (nodes_of l) (nodes_of r) in omega (arith, a, b, c)

-- a tree has at most twice as many nodes as prefixes
pub twice : (t : Tree) → IsTree t → size_of t ≤ 2 * length (items_of t)
twice Leaf w = omega arith
twice (Fork node l r) w = let h = size_bound (Fork node l r) w (omega arith) in omega (arith, h)

pub root_trie : (x : Inexact) (image : List ℕ) (root : ℕ) (h : HoldTrees x image) → is_root x root ≡ true → IsTrie (tree_at x root) image (h.trees root) h.free
root_trie x image root h e = trie_of (pool_of x) image (is_root x) h.trees h.free root (trees_lay x) h.forest e

path_many : (trie : Trie) (image : List ℕ) (key : ℕ) (t : Tree) (free : List ℕ) → IsTrie trie image t free → length (path_of trie image key) ≡ nodes_met t key
unfolding path_of
path_many trie image key t free s =
    ap length (path_stands trie image key 129 (root_of trie image) t (height_tree t s.ordered) s.stands ∙ path_filter key t s.ordered)

visit_many : (trie : Trie) (image : List ℕ) (key : ℕ) (t : Tree) (free : List ℕ) → IsTrie trie image t free → length (visit_of trie image key) ≤ nodes_met t key
visit_many trie image key t free s =
    let a : length (visit_of trie image key) ≡ length (filter (holds key) (items_of t)) =
    ap length (visit_is trie image key t s.ordered s.stands) ∙ slots_many (filter (holds key) (items_of t)) in
    let b = fewer_both (holds key) is_marked (nodes_of t) in omega (arith, a, b)

-- the search for the bin
bin_loads : (x : Inexact) (image : List ℕ) (ptype : Ptype) (flow : Flow) (h : HoldTrees x image)
    → bin_cost x image ptype (family_of flow.dst) flow.dir flow.if_id ≤ 6 + 10 * bins_met x h.trees ptype flow
unfolding bin_cost
bin_loads x image ptype flow h =
    let bucket : ℕ = bin_bucket ptype (family_of flow.dst) flow.dir flow.if_id in
    let key : ℕ = bin_key ptype (family_of flow.dst) flow.dir flow.if_id in
    let root : ℕ = bucket_root x bucket in
    let s : IsTrie (tree_at x root) image (h.trees root) h.free =
    root_trie x image root h (bucket_is x bucket (bucket_small ptype (family_of flow.dst) flow.dir flow.if_id)) in
    let a = path_many (tree_at x root) image key (h.trees root) h.free s in
    let b = fewer (holds key) (nodes_of (h.trees root)) in
    let c = tree_many (h.trees root) in
    let d = twice (h.trees root) s.ordered in
    omega (arith, a, b, c, d)

-- a walk below a node
walk_loads : (x : Inexact) (image : List ℕ) (key node : ℕ) (h : HoldTrees x image) → node < count_of x
    → walk_cost x image key node ≡ 6 + 5 * nodes_met (h.trees (below_root x node)) key
unfolding walk_cost
walk_loads x image key node h n =
    ap (λ m. 6 + 5 * m) (path_many (below_of x node) image key (h.trees (below_root x node)) h.free (root_trie x image (below_root x node) h (below_is x node n)))

walks_loads : (x : Inexact) (image : List ℕ) (key : ℕ) (nodes : List ℕ) (h : HoldTrees x image) → AllBelow (count_of x) nodes
    → walks_cost x image key nodes ≡ 6 * length nodes + 5 * nodes_under x h.trees key nodes
walks_loads x image key [] h n = omega arith
walks_loads x image key (node ∷ nodes) h n =
    let a = walk_loads x image key node h n.0 in let b = walks_loads x image key nodes h n.1 in omega (arith, a, b)

-- how many nodes are visited below some
below_many : (x : Inexact) (image : List ℕ) (key : ℕ) (nodes : List ℕ) (h : HoldTrees x image) → AllBelow (count_of x) nodes
    → length (all_below x image key nodes) ≤ nodes_under x h.trees key nodes
below_many x image key [] h n = omega arith
below_many x image key (node ∷ nodes) h n =
    let a = visit_many (below_of x node) image key (h.trees (below_root x node)) h.free (root_trie x image (below_root x node) h (below_is x node n.0)) in
    let b = below_many x image key nodes h n.1 in
    let c = length-append (visit_of (below_of x node) image key) (all_below x image key nodes) in
    omega (arith, a, b, c)

-- the chains of some nodes
chains_loads : (x : Inexact) (image : List ℕ) (key : Policy → Option ℕ) (es : List (ℕ × Policy)) (nodes : List ℕ) → AllBelow (count_of x) nodes
    → Indexed (chains_of x) image key es → chains_cost x image nodes ≡ 4 * length nodes + 16 * policies_at key es nodes
chains_loads x image key es [] n is = omega arith
chains_loads x image key es (node ∷ nodes) n is =
    let a : length (slots_of (chain_at (chains_of x) node) image) ≡ length (picked key node es) = ap length (walk_picked (chains_of x) image key node es n.0 is) in
    let b = chains_loads x image key es nodes n.1 is in omega (arith, a, b)

-- both levels of a bin
both_loads : (x : Inexact) (image : List ℕ) (flow : Flow) (bin : Option ℕ) (h : HoldTrees x image) → Below (count_of x) bin
    → bin_walks_cost x image flow bin + 4 * length (visited_in x image flow bin) ≤ 6 + 11 * flow_nodes x h.trees flow bin
both_loads x image flow None h b = omega arith
both_loads x image flow (Some bin) h b =
    let kd : ℕ = key_of flow.dst in
    let ks : ℕ = key_of flow.src in
    let s : IsTrie (below_of x bin) image (h.trees (below_root x bin)) h.free = root_trie x image (below_root x bin) h (below_is x bin b) in
    let seen : visit_of (below_of x bin) image kd ≡ destinations x h.trees flow bin =
    visit_is (below_of x bin) image kd (h.trees (below_root x bin)) s.ordered s.stands in
    let all : AllBelow (count_of x) (visit_of (below_of x bin) image kd) = visit_below_count (below_of x bin) image kd in
    let a = walk_loads x image kd bin h b in
    let c = walks_loads x image ks (visit_of (below_of x bin) image kd) h all in
    let d = visit_many (below_of x bin) image kd (h.trees (below_root x bin)) h.free s in
    let e = below_many x image ks (visit_of (below_of x bin) image kd) h all in
    let f : nodes_under x h.trees ks (visit_of (below_of x bin) image kd) ≡ nodes_under x h.trees ks (destinations x h.trees flow bin) =
    ap (λ (nodes : List ℕ). nodes_under x h.trees ks nodes) seen in
    omega (arith, a, c, d, e, f)

pub first_loads : (x : Inexact) (image : List ℕ) (h4 h6 : ℕ × ℕ) (ptype : Ptype) (flow : Flow) (es : List (ℕ × Policy)) (h : HoldPart x image h4 h6 es)
    → first_cost x image ptype flow
    ≤ 12 + 16 * (bins_met x h.trees.trees ptype flow + flow_nodes x h.trees.trees flow (flow_bin x image ptype flow)
    + policies_at (inexact_key x image h4 h6) es (visited x image ptype flow))
first_loads x image h4 h6 ptype flow es h =
    let a = bin_loads x image ptype flow h.trees in
    let b = both_loads x image flow (flow_bin x image ptype flow) h.trees (flow_bin_below x image ptype flow) in
    let c = chains_loads x image (inexact_key x image h4 h6) es (visited x image ptype flow) (in_all x image flow (flow_bin x image ptype flow)) h.chains in
    omega (arith, a, b, c)
