-- Forests that stand for sets of prefixes, forests in words of zeros, and forests in words of which others were written.
use Rattle.std.proofs.Common.{◌≡◌, ℕ, ◌+◌, ◌<◌, Bool, List, [], ap, arith, length, lit<, refl, slice_index, true, ◌∙◌, ◌∷◌}
use Rattle.std.specs.List.{range_with_len}
use Rattle.xf_cells.specs.Words.{zeros}
use Rattle.xf_trie.specs.declared.trie.Trie.{Trie}
use Rattle.xf_trie.specs.Forests.{IsForest, Layouts, OwnedAll, at_root}
use Rattle.xf_trie.specs.Nodes.{named_at, place_of, slot_of}
use Rattle.xf_trie.specs.Pools.{Frees, IsPrefixSet}
use Rattle.xf_trie.specs.Spares.{head_of, next_of}
use Rattle.xf_trie.specs.Trees.{Fork, Leaf, Tree}
use Rattle.xf_trie.proofs.Empties.{empty_is, zeros_at}
use Rattle.xf_trie.proofs.Standing.{Inside, SameNodes, inside, stands_at, stands_same}
use Rattle.xf_trie.proofs.Taking.{SameNext, frees_same, next_same}
use Rattle.xf_trie.proofs.Woods.{trie_of}

-- each root's words stand for a set of prefixes
pub forest_set : (trie : Trie) (i : List ℕ) (roots : ℕ → Bool) (trees : ℕ → Tree) (free : List ℕ) (root : ℕ) → Layouts trie roots → IsForest trie i roots trees free → roots root ≡ true
    → IsPrefixSet (at_root trie root) i
forest_set trie i roots trees free root g f m = record {
  layout = g.each root m;
  tree = trees root;
  free = free;
  holds = trie_of trie i roots trees free root g f m;
}

owned_all : (owner : ℕ) (xs : List ℕ) → OwnedAll (λ s. owner) owner xs
owned_all owner [] = tt
owned_all owner (x ∷ xs) = (refl, owned_all owner xs)

-- words of zeros hold empty trees at all roots
pub forest_empty : (trie : Trie) (size : ℕ) (roots : ℕ → Bool) → IsForest trie (zeros size) roots (λ r. Leaf) (range_with_len 0 trie.count)
forest_empty trie size roots = record {
  owner = λ s. trie.free;
  stands = λ r h. ap (λ w. slot_of trie.count w) (zeros_at size r);
  ordered = λ r h. tt;
  once = λ r h. tt;
  owned = λ r h. tt;
  pool = (empty_is trie (zeros size) (λ p. zeros_at size p)).tree.pool;
  spare = owned_all trie.free (range_with_len 0 trie.count);
}

same_nodes : (trie : Trie) (i j : List ℕ) (t : Tree) → ((s k : ℕ) → s < trie.count → k < 8 → slice_index j (place_of trie s + k) ≡ slice_index i (place_of trie s + k))
    → Inside trie.count t → SameNodes trie i j t
same_nodes trie i j Leaf f n = tt
same_nodes trie i j (Fork node l r) f n = ((λ k b. f node.slot k n.0 (omega arith)), same_nodes trie i j l f n.1, same_nodes trie i j r f n.2)

same_nexts : (trie : Trie) (i j : List ℕ) (at : ℕ) (xs : List ℕ) → ((s k : ℕ) → s < trie.count → k < 8 → slice_index j (place_of trie s + k) ≡ slice_index i (place_of trie s + k))
    → Frees trie i at xs → SameNext trie i j xs
same_nexts trie i j at [] f s = tt
same_nexts trie i j at (x ∷ xs) f s = (next_same trie i j x (f x 6 s.1 (lit< tt)), same_nexts trie i j (next_of trie i x) xs f s.2)

-- a forest none of whose words was written stays
pub forest_stays : (trie : Trie) (i j : List ℕ) (roots : ℕ → Bool) (trees : ℕ → Tree) (free : List ℕ)
    → ((s k : ℕ) → s < trie.count → k < 8 → slice_index j (place_of trie s + k) ≡ slice_index i (place_of trie s + k))
    → slice_index j trie.free ≡ slice_index i trie.free → slice_index j (trie.free + 1) ≡ slice_index i (trie.free + 1)
    → ((r : ℕ) → roots r ≡ true → slice_index j r ≡ slice_index i r)
    → IsForest trie i roots trees free → IsForest trie j roots trees free
forest_stays trie i j roots trees free f h n g w = record {
  owner = w.owner;
  stands = λ r m. stands_at trie j (named_at trie i r) (named_at trie j r) (trees r) (ap (λ x. slot_of trie.count x) (g r m))
      (stands_same trie i j (named_at trie i r) (trees r) (same_nodes trie i j (trees r) f (inside trie i (slice_index i r) (trees r) (w.stands r m))) (w.stands r m));
  ordered = w.ordered;
  once = w.once;
  owned = w.owned;
  pool = record {
    frees = frees_same trie i j (head_of trie i) (head_of trie j) free h (same_nexts trie i j (head_of trie i) free f w.pool.frees) w.pool.frees;
    once = w.pool.once;
    count = ap (λ x. x + length free) n ∙ w.pool.count;
  };
  spare = w.spare;
}
