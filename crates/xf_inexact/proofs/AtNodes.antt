-- What stands in the words of a node that is found or visited, and whose the node is.
use Rattle.std.proofs.Common.{◌≡◌, ℕ, ◌++◌, ◌||◌, ◌==◌, Bool, true, false, cond, List, [], ◌∷◌, Option, Some, filter, find, map, refl, ap, sym, ◌∙◌, subst}
use Rattle.std.proofs.lemmas.Bool.{eqb-true}
use Rattle.std.specs.Prelude.{⊤}
use Rattle.xf_trie.specs.declared.trie.Node.{Node}
use Rattle.xf_trie.specs.Forests.{Owned}
use Rattle.xf_trie.specs.Nodes.{is_marked, node_at, slot_in}
use Rattle.xf_trie.specs.Pools.{IsTrie}
use Rattle.xf_trie.specs.Trees.{Fork, Leaf, Stands, Tree, holds, is_prefix, items_of, nodes_of}
use Rattle.xf_trie.specs.Walks.{find_of, slot_found, visit_of}
use Rattle.xf_trie.proofs.Lookups.{find_is, visit_is}
use Rattle.xf_inexact.specs.declared.inexact.Inexact.{Inexact}
use Rattle.xf_inexact.specs.Holds.{HoldTrees}
use Rattle.xf_inexact.specs.Places.{is_root, pool_of, tree_at}
use Rattle.xf_inexact.specs.Walks.{has}
use Rattle.xf_inexact.proofs.Loads.{root_trie}

-- what stands in a node's words, and whose the node is
pub record IsAt (x : Inexact) (image : List ℕ) (owner : ℕ → ℕ) (root : ℕ) (test : Node → Bool) (slot : ℕ) : Type 0 where
  pub passes : test (node_at (pool_of x) image slot) ≡ true
  pub owned : owner slot ≡ root

-- so for each of some nodes
abbrev pub AllAt : Inexact → List ℕ → (ℕ → ℕ) → ℕ → List Node → Type 0
AllAt x image owner root [] = ⊤
AllAt x image owner root (n ∷ ns) = (node_at (pool_of x) image n.slot ≡ n) × (owner n.slot ≡ root) × AllAt x image owner root ns

at_both : (x : Inexact) (image : List ℕ) (owner : ℕ → ℕ) (root : ℕ) (ns ms : List Node) → AllAt x image owner root ns → AllAt x image owner root ms
    → AllAt x image owner root (ns ++ ms)
at_both x image owner root [] ms a b = b
at_both x image owner root (n ∷ ns) ms a b = (a.0, a.1, at_both x image owner root ns ms a.2 b)

at_pick : (x : Inexact) (image : List ℕ) (owner : ℕ → ℕ) (root : ℕ) (n : Node) (ns : List Node) (b : Bool) → node_at (pool_of x) image n.slot ≡ n → owner n.slot ≡ root
    → AllAt x image owner root ns → AllAt x image owner root (cond b (n ∷ ns) ns)
at_pick x image owner root n ns true e o a = (e, o, a)
at_pick x image owner root n ns false e o a = a

at_filter : (x : Inexact) (image : List ℕ) (owner : ℕ → ℕ) (root : ℕ) (test : Node → Bool) (ns : List Node) → AllAt x image owner root ns
    → AllAt x image owner root (filter test ns)
at_filter x image owner root test [] a = tt
at_filter x image owner root test (n ∷ ns) a =
    at_pick x image owner root n (filter test ns) (test n) a.0 a.1 (at_filter x image owner root test ns a.2)

at_tree : (x : Inexact) (image : List ℕ) (owner : ℕ → ℕ) (root : ℕ) (t : Tree) (o : Option ℕ) → Stands (pool_of x) image o t → Owned owner root t
    → AllAt x image owner root (nodes_of t)
at_tree x image owner root Leaf o s w = tt
at_tree x image owner root (Fork node l r) o s w =
    (s.1, w.0, at_both x image owner root (nodes_of l) (nodes_of r) (at_tree x image owner root l _ s.2 w.1) (at_tree x image owner root r _ s.3 w.2))

pick_found : (x : Inexact) (image : List ℕ) (owner : ℕ → ℕ) (root : ℕ) (test : Node → Bool) (slot : ℕ) (n : Node) (ns : List Node) (b : Bool)
    → test n ≡ b → node_at (pool_of x) image n.slot ≡ n → owner n.slot ≡ root
    → slot_found (cond b (Some n) (find test ns)) ≡ Some slot → (slot_found (find test ns) ≡ Some slot → IsAt x image owner root test slot)
    → IsAt x image owner root test slot
pick_found x image owner root test slot n ns true p e o f k =
    let s : n.slot ≡ slot = cc in
    subst (λ (m : ℕ). IsAt x image owner root test m) s (record { passes = ap test e ∙ p; owned = o })
pick_found x image owner root test slot n ns false p e o f k = k f

-- what is found among them
at_found : (x : Inexact) (image : List ℕ) (owner : ℕ → ℕ) (root : ℕ) (test : Node → Bool) (slot : ℕ) (ns : List Node) → AllAt x image owner root ns
    → slot_found (find test ns) ≡ Some slot → IsAt x image owner root test slot
at_found x image owner root test slot [] a f = absurd (cc)
at_found x image owner root test slot (n ∷ ns) a f =
    pick_found x image owner root test slot n ns (test n) refl a.0 a.1 f (λ g. at_found x image owner root test slot ns a.2 g)

pick_has : (x : Inexact) (image : List ℕ) (owner : ℕ → ℕ) (root : ℕ) (test : Node → Bool) (slot : ℕ) (n : Node) (ns : List Node) (b : Bool)
    → test n ≡ b → node_at (pool_of x) image n.slot ≡ n → owner n.slot ≡ root
    → has slot (map slot_in (cond b (n ∷ filter test ns) (filter test ns))) ≡ true
    → (has slot (map slot_in (filter test ns)) ≡ true → IsAt x image owner root test slot) → IsAt x image owner root test slot
pick_has x image owner root test slot n ns true p e o h k = turn (slot == n.slot) refl h
  where
    turn : (v : Bool) → (slot == n.slot) ≡ v → (v || has slot (map slot_in (filter test ns))) ≡ true → IsAt x image owner root test slot
    turn true q g = subst (λ (m : ℕ). IsAt x image owner root test m) (sym (eqb-true slot n.slot q)) (record { passes = ap test e ∙ p; owned = o })
    turn false q g = k g
pick_has x image owner root test slot n ns false p e o h k = k h

-- and what is visited
at_visited : (x : Inexact) (image : List ℕ) (owner : ℕ → ℕ) (root : ℕ) (test : Node → Bool) (slot : ℕ) (ns : List Node) → AllAt x image owner root ns
    → has slot (map slot_in (filter test ns)) ≡ true → IsAt x image owner root test slot
at_visited x image owner root test slot [] a h = absurd (cc)
at_visited x image owner root test slot (n ∷ ns) a h =
    pick_has x image owner root test slot n ns (test n) refl a.0 a.1 h (λ g. at_visited x image owner root test slot ns a.2 g)

items_at : (x : Inexact) (image : List ℕ) (root : ℕ) (h : HoldTrees x image) → is_root x root ≡ true → AllAt x image h.forest.owner root (items_of (h.trees root))
items_at x image root h e =
    at_filter x image h.forest.owner root is_marked (nodes_of (h.trees root))
    (at_tree x image h.forest.owner root (h.trees root) _ (h.forest.stands root e) (h.forest.owned root e))

pub found_at : (x : Inexact) (image : List ℕ) (root key len slot : ℕ) (h : HoldTrees x image) → is_root x root ≡ true
    → find_of (tree_at x root) image key len ≡ Some slot → IsAt x image h.forest.owner root (is_prefix key len) slot
found_at x image root key len slot h e f =
    let s : IsTrie (tree_at x root) image (h.trees root) h.free = root_trie x image root h e in
    at_found x image h.forest.owner root (is_prefix key len) slot (items_of (h.trees root)) (items_at x image root h e)
    (sym (find_is (tree_at x root) image key len (h.trees root) s.ordered s.stands) ∙ f)

pub visited_at : (x : Inexact) (image : List ℕ) (root key slot : ℕ) (h : HoldTrees x image) → is_root x root ≡ true
    → has slot (visit_of (tree_at x root) image key) ≡ true → IsAt x image h.forest.owner root (holds key) slot
visited_at x image root key slot h e v =
    let s : IsTrie (tree_at x root) image (h.trees root) h.free = root_trie x image root h e in
    at_visited x image h.forest.owner root (holds key) slot (items_of (h.trees root)) (items_at x image root h e)
    (sym (ap (λ xs. has slot xs) (visit_is (tree_at x root) image key (h.trees root) s.ordered s.stands)) ∙ v)
