-- The node of a policy is told by the trees alone.
use Rattle.std.proofs.Common.{◌≡◌, ℕ, ◌<◌, ◌%◌, true, List, [], ◌∷◌, Option, None, Some, refl, ap, ◌∙◌, arith}
use Rattle.xf_types.specs.declared.network.Dir.{Dir}
use Rattle.xf_types.specs.declared.network.Ptype.{Ptype}
use Rattle.xf_types.specs.declared.policy.Policy.{Policy}
use Rattle.xf_types.specs.Address.{family_of}
use Rattle.xf_types.specs.Same.{dir_number, ptype_number}
use Rattle.xf_cells.specs.Hashing.{hash_from}
use Rattle.xf_trie.specs.Keys.{key_of}
use Rattle.xf_trie.specs.Nodes.{Below}
use Rattle.xf_trie.specs.Walks.{find_of}
use Rattle.xf_trie.proofs.Lookups.{find_is}
use Rattle.xf_trie.proofs.Woods.{trie_of}
use Rattle.xf_trie.specs.Pools.{IsTrie}
use Rattle.xf_inexact.specs.declared.inexact.Inexact.{Inexact}
use Rattle.xf_inexact.specs.Holds.{HoldTrees, bin_node, node_in, node_under, policy_node}
use Rattle.xf_inexact.specs.Keys.{bin_bucket, bin_key, bin_of, found_below, node_of, selector_node}
use Rattle.xf_inexact.specs.Places.{below_of, below_root, bucket_root, count_of, is_root, pool_of, tree_at}
use Rattle.xf_inexact.proofs.Apart.{below_is, bucket_is, trees_lay}
use Rattle.xf_inexact.proofs.Levels.{bin_below}
use Rattle.xf_inexact.proofs.Visited.{found_below_count}

-- what is found in words is found in the tree that they hold
pub root_node : (x : Inexact) (image : List ℕ) (root key len : ℕ) (h : HoldTrees x image) → is_root x root ≡ true
    → find_of (tree_at x root) image key len ≡ node_in (h.trees root) key len
root_node x image root key len h e =
    let s : IsTrie (tree_at x root) image (h.trees root) h.free = trie_of (pool_of x) image (is_root x) h.trees h.free root (trees_lay x) h.forest e in
    find_is (tree_at x root) image key len (h.trees root) s.ordered s.stands

pub bucket_small : (ptype : Ptype) (family : ℕ) (dir : Dir) (if_id : ℕ) → bin_bucket ptype family dir if_id < 64
bucket_small ptype family dir if_id =
    small (hash_from 0x9E3779B97F4A7C15 (ptype_number ptype ∷ family ∷ dir_number dir ∷ if_id ∷ []))
  where
    small : (n : ℕ) → n % 64 < 64
    small n = omega arith

pub bin_is : (x : Inexact) (image : List ℕ) (ptype : Ptype) (family : ℕ) (dir : Dir) (if_id : ℕ) (h : HoldTrees x image)
    → bin_of x image ptype family dir if_id ≡ bin_node x h.trees ptype family dir if_id
unfolding bin_of
bin_is x image ptype family dir if_id h =
    root_node x image (bucket_root x (bin_bucket ptype family dir if_id)) (bin_key ptype family dir if_id) 128 h
    (bucket_is x (bin_bucket ptype family dir if_id) (bucket_small ptype family dir if_id))

under_is : (x : Inexact) (image : List ℕ) (o : Option ℕ) (key len : ℕ) (h : HoldTrees x image) → Below (count_of x) o
    → found_below x image o key len ≡ node_under x h.trees o key len
under_is x image None key len h b = refl
under_is x image (Some node) key len h b = root_node x image (below_root x node) key len h (below_is x node b)

pub under_below : (x : Inexact) (image : List ℕ) (o : Option ℕ) (key len : ℕ) → Below (count_of x) (found_below x image o key len)
under_below x image None key len = tt
under_below x image (Some node) key len = found_below_count (below_of x node) image key len

pub node_is : (x : Inexact) (image : List ℕ) (p : Policy) (h : HoldTrees x image) → node_of x image p ≡ policy_node x h.trees p
unfolding selector_node
node_is x image p h =
    let bin : Option ℕ = bin_of x image p.spec.ptype (family_of p.spec.sel.dst.addr) p.spec.dir p.spec.if_id in
    let kd : ℕ = key_of p.spec.sel.dst.addr in
    let ks : ℕ = key_of p.spec.sel.src.addr in
    under_is x image (found_below x image bin kd p.spec.sel.dst.len) ks p.spec.sel.src.len h (under_below x image bin kd p.spec.sel.dst.len)
    ∙ ap (λ (o : Option ℕ). node_under x h.trees o ks p.spec.sel.src.len)
    (under_is x image bin kd p.spec.sel.dst.len h (bin_below x image p.spec.ptype (family_of p.spec.sel.dst.addr) p.spec.dir p.spec.if_id)
    ∙ ap (λ (o : Option ℕ). node_under x h.trees o kd p.spec.sel.dst.len)
    (bin_is x image p.spec.ptype (family_of p.spec.sel.dst.addr) p.spec.dir p.spec.if_id h))
