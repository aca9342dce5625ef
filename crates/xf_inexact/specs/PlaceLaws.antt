-- The words of trees, of chains and of policies lie apart.
use Rattle.std.specs.Prelude.{◌≡◌, ℕ, ◌+◌, ◌<◌, ◌≤◌, true}
use Rattle.xf_chain.specs.Families.{Lays, Outside}
use Rattle.xf_trie.specs.Forests.{Layouts}
use Rattle.xf_trie.specs.Nodes.{Lies, place_of}
use Rattle.xf_trie.specs.Pools.{Beside}
use Rattle.xf_image.specs.Layout.{Fits as PoliciesFit, end_of as policies_end}
use Rattle.xf_inexact.specs.declared.inexact.Inexact.{Inexact}
use Rattle.xf_inexact.specs.Places.{Fits, IsInexact, below_root, bucket_root, chains_of, count_of, end_of, is_root, pool_of, tree_at}

pub record PlaceLaws (x : Inexact) : Type 0 where
  -- the words of the policies, of a tree and of the chains lie in so many words
  pub policies : (size : ℕ) → Fits x size → PoliciesFit x.area size
  pub lies : (size root : ℕ) → Fits x size → is_root x root ≡ true → Lies (tree_at x root) size
  pub lays : (size : ℕ) → Fits x size → Lays (chains_of x) size
  -- each bucket and each node has a root
  pub bucket : (bucket : ℕ) → bucket < 64 → is_root x (bucket_root x bucket) ≡ true
  pub below : (node : ℕ) → node < count_of x → is_root x (below_root x node) ≡ true
  -- roots, nodes and free words lie apart
  pub layouts : Layouts (pool_of x) (is_root x)
  -- no word of a tree is one of the chains
  pub root_out : (root : ℕ) → is_root x root ≡ true → Outside (chains_of x) root
  pub node_out : (s k : ℕ) → Outside (chains_of x) (place_of (pool_of x) s + k)
  pub free_out : Outside (chains_of x) (pool_of x).free
  pub live_out : Outside (chains_of x) ((pool_of x).free + 1)
  -- and no word of the chains, of the policies or behind all is one of a tree
  pub chain_beside : (root place : ℕ) → is_root x root ≡ true → (chains_of x).heads ≤ place → place < (chains_of x).links + (chains_of x).slots → Beside (tree_at x root) place
  pub policy_beside : (root place : ℕ) → IsInexact x → is_root x root ≡ true → place < policies_end x.area → Beside (tree_at x root) place
  pub behind_beside : (root place : ℕ) → is_root x root ≡ true → end_of x ≤ place → Beside (tree_at x root) place
