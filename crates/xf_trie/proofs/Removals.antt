-- What a removal leaves.
use Rattle.std.proofs.Common.{◌≡◌, ℕ, ◌+◌, List, None, Option, Some, ap, arith, find, length, lit<, refl, rules, slice_index, subst, sym, true, ◌++◌}
use Rattle.std.specs.Prelude.{IsSome}
use Rattle.xf_trie.specs.declared.trie.Node.{Node}
use Rattle.xf_trie.specs.declared.trie.Trie.{Trie}
use Rattle.xf_trie.specs.Nodes.{Lies, named_at, place_of, slot_of}
use Rattle.xf_trie.specs.Pools.{Beside, IsTrie, Layout}
use Rattle.xf_trie.specs.Promises.{Removes}
use Rattle.xf_trie.specs.Removals.{removed}
use Rattle.xf_trie.specs.Slots.{Disjoint}
use Rattle.xf_trie.specs.Takes.{remove_frees, remove_tree}
use Rattle.xf_trie.specs.Trees.{Fork, Leaf, Stands, Tree}
use Rattle.xf_trie.specs.Walks.{find_of, is_of, path_of, slot_found}
use Rattle.xf_trie.proofs.Aparts.{apart_append}
use Rattle.xf_trie.proofs.Heights.{height_tree}
use Rattle.xf_trie.proofs.Paths.{path_stands, tree_path}
use Rattle.xf_trie.proofs.RemoveFinds.{has_found}
use Rattle.xf_trie.proofs.RemoveFrees.{apart_remove, kept_apart}
use Rattle.xf_trie.proofs.RemoveItems.{has_tree, takes_remove}
use Rattle.xf_trie.proofs.RemoveNodes.{Removed}
use Rattle.xf_trie.proofs.RemovePools.{pool_removed}
use Rattle.xf_trie.proofs.RemoveSlots.{distinct_remove}
use Rattle.xf_trie.proofs.RemoveTrees.{is_remove}
use Rattle.xf_trie.proofs.RemoveWays.{removed_is}
use Rattle.xf_trie.proofs.Standing.{Inside, SameNodes, inside, out_inside, out_words, stands_at, stands_same}
use Rattle.xf_trie.proofs.Taking.{spread}
use Rattle.xf_trie.proofs.Tidying.{Link}

root_link : (trie : Trie) (i : List ℕ) (t : Tree) (free : List ℕ) → Lies trie (length i) → Layout trie → IsTrie trie i t free → Link trie i trie.root t
root_link trie i t free l y w = record {
  within = l.root;
  out = out_inside trie trie.root t (inside trie i (slice_index i trie.root) t w.stands) y.root;
  free = y.root_free;
  live = y.root_live;
}

removed_all : (trie : Trie) (i : List ℕ) (key len : ℕ) (t : Tree) (free : List ℕ) → Lies trie (length i) → Layout trie → IsTrie trie i t free
    → Removed trie i (removed trie i key len) trie.root t (remove_tree key len t)
unfolding removed
removed_all trie i key len t free l y w =
    removed_is trie i key len 129 trie.root t (height_tree t w.ordered) l (spread trie y) (root_link trie i t free l y w) w.stands w.once

beside_removed : (trie : Trie) (i j : List ℕ) (t v u : Tree) → Layout trie → Removed trie i j trie.root t v → Inside trie.count u → Disjoint u t → SameNodes trie i j u
beside_removed trie i j t v Leaf y f n d = tt
beside_removed trie i j t v (Fork node l r) y f n d = (
  (λ k b. f.rest (place_of trie node.slot + k) (y.root node.slot k n.0 (omega arith)) (out_words trie node.slot k t (omega arith) d.0)
      (y.free node.slot k n.0 (omega arith)) (y.live node.slot k n.0 (omega arith))),
  beside_removed trie i j t v l y f n.1 d.1,
  beside_removed trie i j t v r y f n.2 d.2,
)

some_of : (o : Option Node) → IsSome (slot_found o) → (m : Node) × (o ≡ Some m)
some_of None h = absurd (search rules)
some_of (Some m) h = (m, refl)

has_there : (trie : Trie) (i : List ℕ) (key len : ℕ) (t : Tree) (free : List ℕ) → IsTrie trie i t free → IsSome (find_of trie i key len) → has_tree key len t ≡ true
unfolding find_of path_of
has_there trie i key len t free w h =
    let e : path_of trie i key ≡ tree_path key t = path_stands trie i key 129 (slot_of trie.count (slice_index i trie.root)) t (height_tree t w.ordered) w.stands in
    let m : (m : Node) × (find (is_of len) (tree_path key t) ≡ Some m) =
    some_of (find (is_of len) (tree_path key t)) (subst (λ (xs : List Node). IsSome (slot_found (find (is_of len) xs))) e h) in
    has_found key len t m.0 w.ordered m.1

pub trie_removed : (trie : Trie) (i : List ℕ) (key len : ℕ) (t : Tree) (free : List ℕ) → Lies trie (length i) → Layout trie → IsTrie trie i t free
    → IsTrie trie (removed trie i key len) (remove_tree key len t) (remove_frees key len t ++ free)
unfolding removed
trie_removed trie i key len t free l y w = record {
  stands = (removed_all trie i key len t free l y w).stands;
  ordered = is_remove key len t w.ordered;
  once = distinct_remove key len t w.once;
  pool = pool_removed trie i key len 129 trie.root t free (height_tree t w.ordered) l y
      (record { next = λ s b. y.root s 6 b (lit< tt); free = λ e. y.root_free (sym e); live = λ e. y.root_live (sym e) })
      (root_link trie i t free l y w) w.stands w.once w.apart w.pool;
  apart = apart_append (remove_frees key len t) free (remove_tree key len t) (kept_apart key len t w.once) (apart_remove key len free t w.apart);
}

-- a word that is none of the tree's stays
removed_word : (trie : Trie) (i : List ℕ) (key len : ℕ) (free : List ℕ) (t : Tree) (place : ℕ) → Lies trie (length i) → Layout trie → IsTrie trie i t free
    → Beside trie place → slice_index (removed trie i key len) place ≡ slice_index i place
removed_word trie i key len free t place l y w b =
    (removed_all trie i key len t free l y w).rest place b.root (out_inside trie place t (inside trie i (slice_index i trie.root) t w.stands) b.nodes) b.free b.live

-- another tree of the pool stays
pub removed_others : (trie : Trie) (i : List ℕ) (key len : ℕ) (free : List ℕ) (t u : Tree) (root : ℕ) → Lies trie (length i) → Layout trie → IsTrie trie i t free
    → Beside trie root → Stands trie i (named_at trie i root) u → Disjoint u t → Stands trie (removed trie i key len) (named_at trie (removed trie i key len) root) u
removed_others trie i key len free t u root l y w b s d =
    let j : List ℕ = removed trie i key len in
    let f : Removed trie i j trie.root t (remove_tree key len t) = removed_all trie i key len t free l y w in
    stands_at trie j (named_at trie i root) (named_at trie j root) u
    (ap (λ x. slot_of trie.count x) (removed_word trie i key len free t root l y w b))
    (stands_same trie i j (named_at trie i root) u
    (beside_removed trie i j t (remove_tree key len t) u y f (inside trie i (slice_index i root) u s) d) s)

pub removes_is : (trie : Trie) (i : List ℕ) (key len : ℕ) → Lies trie (length i) → IsSome (find_of trie i key len) → Removes trie i (removed trie i key len) key len
removes_is trie i key len l h = record {
  leaves = λ free t y w. record {
    trie_is = trie_removed trie i key len t free l y w;
    prefixes = takes_remove key len t (has_there trie i key len t free w h);
    others = λ u root b s d. removed_others trie i key len free t u root l y w b s d;
    words = λ place b. removed_word trie i key len free t place l y w b;
  };
}
