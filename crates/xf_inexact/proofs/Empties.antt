-- Words with no tree and no policy.
use Rattle.std.proofs.Common.{◌≡◌, ℕ, zero, suc, ◌+◌, ◌-◌, ◌<◌, ◌==◌, if◌then◌else◌, true, List, [], Option, None, refl, ap, arith, rules, slice_index}
use Rattle.std.specs.List.{range_with_len}
use Rattle.xf_cells.specs.Words.{zeros}
use Rattle.xf_chain.specs.Chains.{slot_of}
use Rattle.xf_index.specs.Indexes.{Indexed}
use Rattle.xf_trie.specs.declared.trie.Trie.{Trie}
use Rattle.xf_trie.specs.Forests.{IsForest}
use Rattle.xf_trie.specs.Nodes.{named_at, place_of}
use Rattle.xf_trie.specs.Pools.{Frees}
use Rattle.xf_trie.specs.Spares.{head_of, live_of, next_of}
use Rattle.xf_trie.specs.Trees.{Leaf}
use Rattle.xf_trie.proofs.Empties.{zeros_at}
use Rattle.xf_trie.proofs.WoodWords.{forest_empty}
use Rattle.xf_types.specs.declared.policy.Policy.{Policy}
use Rattle.xf_inexact.specs.declared.inexact.Inexact.{Inexact}
use Rattle.xf_inexact.specs.Holds.{HoldPart, HoldTrees, inexact_key, nodes_from}
use Rattle.xf_inexact.specs.Places.{chains_of, count_of, is_root, pool_of}

-- No root has a tree, no chain a policy, and each node is free, before the next one. What else the words of nodes have doesn't matter.
pub record AreEmpty (x : Inexact) (image : List ℕ) : Type 0 where
  pub roots : (root : ℕ) → is_root x root ≡ true → named_at (pool_of x) image root ≡ None
  pub heads : (node : ℕ) → node < count_of x → slot_of x.area.slots (slice_index image ((chains_of x).heads + node)) ≡ None
  pub free : head_of (pool_of x) image ≡ 0
  pub live : live_of (pool_of x) image ≡ 0
  pub nexts : (node : ℕ) → node < count_of x → slice_index image (place_of (pool_of x) node + 6) ≡ 0

pub zeros_empty : (x : Inexact) (size : ℕ) → AreEmpty x (zeros size)
zeros_empty x size = record {
  roots = λ root e. ap (λ w. slot_of (count_of x) w) (zeros_at size root);
  heads = λ node h. ap (λ w. slot_of x.area.slots w) (zeros_at size ((chains_of x).heads + node));
  free = zeros_at size (pool_of x).free;
  live = zeros_at size ((pool_of x).free + 1);
  nexts = λ node h. zeros_at size (place_of (pool_of x) node + 6);
}

no_chain : (x : Inexact) (image : List ℕ) (key : Policy → Option ℕ) → AreEmpty x image → Indexed (chains_of x) image key []
no_chain x image key e = record {
  chains = λ number h. record { path = e.heads number h; apart = search rules; within = search rules };
}

-- empty trees have no node
leaves_none : (root more : ℕ) → nodes_from (λ (r : ℕ). Leaf) root more ≡ 0
leaves_none root zero = refl
leaves_none root (suc more) = let h = leaves_none (root + 1) more in omega (arith, h)

-- each node is followed by the next one
next_zero : (trie : Trie) (image : List ℕ) (s : ℕ) → slice_index image (place_of trie s + 6) ≡ 0 → next_of trie image s ≡ s + 1
next_zero trie image s e = ap (λ (w : ℕ). if w == 0 then s + 1 else w - 1) e

frees_up : (trie : Trie) (image : List ℕ) (at from more : ℕ) → ((s : ℕ) → s < trie.count → slice_index image (place_of trie s + 6) ≡ 0)
    → at ≡ from → from + more ≡ trie.count → Frees trie image at (range_with_len from more)
frees_up trie image at from zero f a e = omega arith
frees_up trie image at from (suc more) f a e =
    let l : from < trie.count = omega (arith, e) in
    (a, l, frees_up trie image (next_of trie image from) (from + 1) more f (next_zero trie image from (f from l)) (omega (arith, e)))

pub trees_empty : (x : Inexact) (image : List ℕ) → AreEmpty x image → HoldTrees x image
trees_empty x image e =
    let zero_forest : IsForest (pool_of x) (zeros 0) (is_root x) (λ (r : ℕ). Leaf) (range_with_len 0 (count_of x)) = forest_empty (pool_of x) 0 (is_root x) in
    let none = leaves_none x.base (64 + count_of x) in
    let taken = zeros_at 0 ((pool_of x).free + 1) in
    let all = zero_forest.pool.count in
    let live = e.live in
    record {
      trees = λ r. Leaf;
      free = range_with_len 0 (count_of x);
      forest = record {
        owner = zero_forest.owner;
        stands = e.roots;
        ordered = λ r h. tt;
        once = λ r h. tt;
        owned = λ r h. tt;
        pool = record {
          frees = frees_up (pool_of x) image (head_of (pool_of x) image) 0 (count_of x) e.nexts e.free (omega arith);
          once = zero_forest.pool.once;
          count = omega (arith, live, taken, all);
        };
        spare = zero_forest.spare;
      };
      whole = omega (arith, none, taken, all);
    }

-- such words hold a part with no policy
pub part_empty : (x : Inexact) (image : List ℕ) (h4 h6 : ℕ × ℕ) → AreEmpty x image → HoldPart x image h4 h6 []
unfolding trees_empty
part_empty x image h4 h6 e = record {
  trees = trees_empty x image e;
  nodes = tt;
  needed = λ r h. tt;
  chains = no_chain x image (inexact_key x image h4 h6) e;
}
