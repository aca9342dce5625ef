-- The free nodes after a node was taken out.
use Rattle.std.proofs.Common.{◌≡◌, ◌≢◌, ℕ, ◌+◌, ◌<◌, Bool, List, Option, Some, [], ap, false, if◌then◌else◌, length, length-set, slice_index, slice_set, subst, sym, true, ◌++◌, ◌==◌, ◌∙◌, ◌∷◌}
use Rattle.xf_trie.specs.declared.trie.Node.{Node}
use Rattle.xf_trie.specs.declared.trie.Trie.{Trie}
use Rattle.xf_trie.specs.Nodes.{Lies, child_at, place_of, slot_of}
use Rattle.xf_trie.specs.Pools.{Frees, IsPool, Lacks, Layout}
use Rattle.xf_trie.specs.Removals.{tidied, tidy_in, tidy_node}
use Rattle.xf_trie.specs.Spares.{gave, head_of, next_of}
use Rattle.xf_trie.specs.Takes.{fork_frees, tidy_frees}
use Rattle.xf_trie.specs.Trees.{Fork, Leaf, Stands, Tree}
use Rattle.xf_trie.proofs.Giving.{pool_gave}
use Rattle.xf_trie.proofs.Nodes.{named_below}
use Rattle.xf_trie.proofs.Stores.{other}
use Rattle.xf_trie.proofs.Taking.{SameNext, frees_same, next_same}

pub record Still (trie : Trie) (place : ℕ) : Type 0 where
  pub next : (s : ℕ) → s < trie.count → place_of trie s + 6 ≢ place
  pub free : trie.free ≢ place
  pub live : trie.free + 1 ≢ place

next_set : (trie : Trie) (i : List ℕ) (place w at : ℕ) (xs : List ℕ) → Still trie place → Frees trie i at xs → SameNext trie i (slice_set i place w) xs
next_set trie i place w at [] q f = tt
next_set trie i place w at (x ∷ xs) q f =
    (next_same trie i (slice_set i place w) x (other i place w (place_of trie x + 6) (q.next x f.1)), next_set trie i place w (next_of trie i x) xs q f.2)

pool_set : (trie : Trie) (i : List ℕ) (place w : ℕ) (free : List ℕ) → Still trie place → IsPool trie i free → IsPool trie (slice_set i place w) free
pool_set trie i place w free q p = record {
  frees = frees_same trie i (slice_set i place w) (head_of trie i) (head_of trie (slice_set i place w)) free (other i place w trie.free q.free) (next_set trie i place w (head_of trie i) free q p.frees) p.frees;
  once = p.once;
  count = ap (λ n. n + length free) (other i place w (trie.free + 1) q.live) ∙ p.count;
}

pool_splice : (trie : Trie) (i : List ℕ) (place slot w : ℕ) (free : List ℕ) → Lies trie (length i) → Layout trie → Still trie place → slot < trie.count → Lacks slot free
    → IsPool trie i free → IsPool trie (gave trie (slice_set i place w) slot) (slot ∷ free)
pool_splice trie i place slot w free l y q b n p =
    pool_gave trie (slice_set i place w) slot free (subst (λ (m : ℕ). Lies trie m) (sym (length-set i place w)) l) y b n (pool_set trie i place w free q p)

fork_pool : (trie : Trie) (i : List ℕ) (place : ℕ) (node : Node) (l r : Tree) (free : List ℕ) → Lies trie (length i) → Layout trie → Still trie place
    → Stands trie i (slot_of trie.count (slice_index i place)) (Fork node l r) → Lacks node.slot free → IsPool trie i free
    → IsPool trie (tidy_node trie i place node.slot (child_at trie i node.slot false) (child_at trie i node.slot true)) (fork_frees node l r ++ free)
fork_pool trie i place node Leaf r free z y q s n p =
    subst (λ (o : Option ℕ). IsPool trie (tidy_node trie i place node.slot o (child_at trie i node.slot true)) (node.slot ∷ free)) (sym s.2)
    (pool_splice trie i place node.slot _ free z y q (named_below trie.count (slice_index i place) node.slot s.0) n p)
fork_pool trie i place node (Fork child a b) Leaf free z y q s n p =
    subst (λ (o : Option ℕ). IsPool trie (tidy_node trie i place node.slot o (child_at trie i node.slot true)) (node.slot ∷ free)) (sym s.2.0)
    (subst (λ (o : Option ℕ). IsPool trie (tidy_node trie i place node.slot (Some child.slot) o) (node.slot ∷ free)) (sym s.3)
    (pool_splice trie i place node.slot _ free z y q (named_below trie.count (slice_index i place) node.slot s.0) n p))
fork_pool trie i place node (Fork child a b) (Fork next c d) free z y q s n p =
    subst (λ (o : Option ℕ). IsPool trie (tidy_node trie i place node.slot o (child_at trie i node.slot true)) free) (sym s.2.0)
    (subst (λ (o : Option ℕ). IsPool trie (tidy_node trie i place node.slot (Some child.slot) o) free) (sym s.3.0) p)

pool_if : (trie : Trie) (i j : List ℕ) (xs free : List ℕ) (m : Bool) → IsPool trie i free → IsPool trie j (xs ++ free) → IsPool trie (if m then i else j) ((if m then [] else xs) ++ free)
pool_if trie i j xs free true p q = p
pool_if trie i j xs free false p q = q

pub tidy_pool : (trie : Trie) (i : List ℕ) (place : ℕ) (node : Node) (l r : Tree) (free : List ℕ) → Lies trie (length i) → Layout trie → Still trie place
    → Stands trie i (slot_of trie.count (slice_index i place)) (Fork node l r) → Lacks node.slot free → IsPool trie i free
    → IsPool trie (tidied trie i place) (tidy_frees node l r ++ free)
unfolding tidied
tidy_pool trie i place node l r free z y q s n p =
    let m : (slice_index i (place_of trie node.slot + 3) == 1) ≡ node.marked = ap (λ (x : Node). x.marked) s.1 in
    subst (λ (o : Option ℕ). IsPool trie (tidy_in trie i place o) (tidy_frees node l r ++ free)) (sym s.0)
    (subst (λ (b : Bool). IsPool trie (if b then i else tidy_node trie i place node.slot (child_at trie i node.slot false) (child_at trie i node.slot true)) (tidy_frees node l r ++ free)) (sym m)
    (pool_if trie i _ (fork_frees node l r) free node.marked p (fork_pool trie i place node l r free z y q s n p)))
