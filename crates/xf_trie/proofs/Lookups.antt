-- What lookups answer on words that hold a tree.
use Rattle.std.proofs.Common.{◌≡◌, ℕ, ◌+◌, ◌*◌, ◌≤◌, List, ap, arith, filter, find, length, map, refl, slice_index, subst, sym, ◌==◌, ◌∙◌}
use Rattle.xf_trie.specs.declared.trie.Node.{Node}
use Rattle.xf_trie.specs.declared.trie.Trie.{Trie}
use Rattle.xf_trie.specs.Lookups.{Finds, Visits}
use Rattle.xf_trie.specs.Nodes.{is_marked, root_of, slot_in, slot_of}
use Rattle.xf_trie.specs.Trees.{IsTree, Rises, Stands, Tree, holds, is_prefix, items_of, nodes_of}
use Rattle.xf_trie.specs.Walks.{find_of, is_of, path_of, slot_found, visit_of}
use Rattle.xf_trie.proofs.Heights.{height_tree, rises_filter, tree_rises}
use Rattle.xf_trie.proofs.Paths.{path_filter, path_stands, tree_path}
use Rattle.xf_trie.proofs.Searches.{filter_swap, find_filter, find_same, same_test}

pub visit_is : (trie : Trie) (image : List ℕ) (key : ℕ) (t : Tree) → IsTree t → Stands trie image (slot_of trie.count (slice_index image trie.root)) t
    → visit_of trie image key ≡ map slot_in (filter (holds key) (items_of t))
unfolding visit_of path_of
visit_is trie image key t w s =
    ap (λ xs. map slot_in (filter is_marked xs)) (path_stands trie image key 129 _ t (height_tree t w) s ∙ path_filter key t w)
    ∙ ap (λ xs. map slot_in xs) (filter_swap is_marked (holds key) (nodes_of t))

pub find_is : (trie : Trie) (image : List ℕ) (key len : ℕ) (t : Tree) → IsTree t → Stands trie image (slot_of trie.count (slice_index image trie.root)) t
    → find_of trie image key len ≡ slot_found (find (is_prefix key len) (items_of t))
unfolding find_of path_of
find_is trie image key len t w s =
    ap (λ xs. slot_found (find (is_of len) xs)) (path_stands trie image key 129 _ t (height_tree t w) s ∙ path_filter key t w)
    ∙ ap (λ o. slot_found o) (find_filter (is_of len) (holds key) (nodes_of t)
    ∙ find_same _ _ (nodes_of t) (λ node. same_test node.key node.len len key node.marked (node.len == len) refl)
    ∙ sym (find_filter (is_prefix key len) is_marked (nodes_of t)))

loads_step : (before after m n : ℕ) → after ≤ before + 6 + 5 * m → m ≡ n → after ≤ before + 6 * (n + 1)
loads_step before after m n h e = omega arith

pub visits_is : (trie : Trie) (image : List ℕ) (key before after : ℕ) → after ≤ before + 6 + 5 * length (path_of trie image key)
    → Visits trie image key before after (visit_of trie image key)
unfolding path_of
visits_is trie image key before after h = record {
  all = λ t is. visit_is trie image key t is.ordered is.stands;
  rises = λ t is. subst (λ (xs : List Node). Rises 0 xs)
      (ap (λ xs. filter is_marked xs) (path_filter key t is.ordered) ∙ filter_swap is_marked (holds key) (nodes_of t))
      (rises_filter is_marked 0 (tree_path key t) (tree_rises key t is.ordered));
  loads = λ t is. loads_step before after (length (path_of trie image key)) (length (filter (holds key) (nodes_of t))) h
      (ap length (path_stands trie image key 129 (root_of trie image) t (height_tree t is.ordered) is.stands ∙ path_filter key t is.ordered));
}

pub finds_is : (trie : Trie) (image : List ℕ) (key len : ℕ) → Finds trie image key len (find_of trie image key len)
finds_is trie image key len = record { one = λ t is. find_is trie image key len t is.ordered is.stands }
