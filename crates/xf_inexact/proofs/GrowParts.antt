-- The trees after a policy's three prefixes came into them.
use Rattle.std.proofs.Common.{◌≡◌, ℕ, ◌+◌, ◌^◌, ◌<◌, ◌≤◌, ◌||◌, Bool, true, false, List, Option, None, Some, length, refl, ap, sym, ◌∙◌, subst, arith, eq-eqb}
use Rattle.xf_index.specs.Indexes.{is_number}
use Rattle.xf_trie.specs.Keys.{key_of}
use Rattle.xf_trie.specs.Nodes.{Lies}
use Rattle.xf_trie.specs.Rooms.{room_inserted, room_slot}
use Rattle.xf_trie.specs.Trees.{Tree, items_of}
use Rattle.xf_trie.proofs.RoomFrames.{room_length}
use Rattle.xf_types.specs.declared.network.Addr.{Addr}
use Rattle.xf_types.specs.declared.network.Addr.TheVariants.{V4, V6}
use Rattle.xf_types.specs.declared.network.Prefix.{Prefix}
use Rattle.xf_types.specs.declared.policy.Policy.{Policy}
use Rattle.xf_types.specs.Address.{family_of, width_of}
use Rattle.xf_inexact.specs.declared.inexact.Inexact.{Inexact}
use Rattle.xf_inexact.specs.Grown.{KeysFit, below_grown, below_put, bin_grown, bin_key_of, bin_put, bucket_of, destination_grown, destination_put, source_grown, source_put}
use Rattle.xf_inexact.specs.Holds.{AllNodes, HoldTrees, is_own, node_in, node_under, policy_bin, policy_destination, policy_node}
use Rattle.xf_inexact.specs.Places.{Fits, below_of, below_root, bins_of, bucket_root, count_of, is_root, tree_at}
use Rattle.xf_inexact.proofs.Apart.{below_is, bucket_is, root_lies}
use Rattle.xf_inexact.proofs.GrowNodes.{AllFind}
use Rattle.xf_inexact.proofs.GrowTrees.{Grew, grew}
use Rattle.xf_inexact.proofs.NodeLaws.{bucket_small}
use Rattle.xf_inexact.proofs.Ranks.{in_count}

-- The words hold the trees with one prefix more at a root, whose node was answered, and so many nodes are free.
pub record GrowsTo (x : Inexact) (words : List ℕ) (before : ℕ → Tree) (root key len : ℕ) (put : Option ℕ) (least : ℕ) : Type 0 where
  pub trees : HoldTrees x words
  pub node : ℕ
  pub is : put ≡ Some node
  pub below : node < count_of x
  pub finds : AllFind before trees.trees
  pub found : node_in (trees.trees root) key len ≡ Some node
  pub all : (test : ℕ → Bool) → test node ≡ true → (r : ℕ) → AllNodes test (items_of (before r)) → AllNodes test (items_of (trees.trees r))
  pub room : least ≤ length trees.free

one_grows : (x : Inexact) (image : List ℕ) (size root key len least : ℕ) (h : HoldTrees x image) → length image ≡ size → Fits x size → is_root x root ≡ true
    → len ≤ 128 → key < 2 ^ 128 → least + 2 ≤ length h.free
    → GrowsTo x (room_inserted (tree_at x root) image key len) h.trees root key len (room_slot (tree_at x root) image key len) least
one_grows x image size root key len least h n fits at hl hk room =
    let g : Grew x image root key len h.trees h.free =
    grew x image root key len h (omega (arith, room)) (subst (λ (m : ℕ). Lies (tree_at x root) m) (sym n) (root_lies x size root fits at)) at hl hk in
    let few = g.planted.room in
    record {
      trees = g.planted.trees;
      node = g.node;
      is = g.slot;
      below = in_count x (room_inserted (tree_at x root) image key len) root key len g.node g.planted.trees at g.planted.found;
      finds = g.planted.finds;
      found = g.planted.found;
      all = g.planted.all;
      room = omega (arith, room, few);
    }

bin_grows : (x : Inexact) (image : List ℕ) (size : ℕ) (p : Policy) (h : HoldTrees x image) → length image ≡ size → Fits x size → KeysFit p → 6 ≤ length h.free
    → GrowsTo x (bin_grown x image p) h.trees (bucket_root x (bucket_of p)) (bin_key_of p) 128 (bin_put x image p) 4
unfolding bin_grown bin_put
bin_grows x image size p h n fits keys room =
    one_grows x image size (bucket_root x (bucket_of p)) (bin_key_of p) 128 4 h n fits
    (bucket_is x (bucket_of p) (bucket_small p.spec.ptype (family_of p.spec.sel.dst.addr) p.spec.dir p.spec.if_id)) (omega arith) keys.bin room

below_grows : (x : Inexact) (image : List ℕ) (size d key len least : ℕ) (o : Option ℕ) (h : HoldTrees x image) → o ≡ Some d → d < count_of x → length image ≡ size → Fits x size
    → len ≤ 128 → key < 2 ^ 128 → least + 2 ≤ length h.free
    → GrowsTo x (below_grown x image o key len) h.trees (below_root x d) key len (below_put x image o key len) least
unfolding below_grown below_put
below_grows x image size d key len least o h e b n fits hl hk room =
    subst (λ (v : Option ℕ). GrowsTo x (below_grown x image v key len) h.trees (below_root x d) key len (below_put x image v key len) least) (sym e)
    (one_grows x image size (below_root x d) key len least h n fits (below_is x d b) hl hk room)

pub bin_length : (x : Inexact) (image : List ℕ) (p : Policy) → length (bin_grown x image p) ≡ length image
unfolding bin_grown
bin_length x image p = room_length (bins_of x (bucket_of p)) image (bin_key_of p) 128

pub below_length : (x : Inexact) (image : List ℕ) (o : Option ℕ) (key len : ℕ) → length (below_grown x image o key len) ≡ length image
unfolding below_grown
below_length x image None key len = refl
below_length x image (Some d) key len = room_length (below_of x d) image key len

width_small : (addr : Addr) → width_of addr ≤ 128
width_small (V4 n) = omega arith
width_small (V6 n) = omega arith

len_small : (p : Prefix) → p.len ≤ 128
len_small p = let a = p.facts.fits in let b = width_small p.addr in omega (arith, a, b)

-- The words hold the trees with a policy's three prefixes, and it stands at a node.
pub record PolicyGrows (x : Inexact) (image : List ℕ) (p : Policy) (before : ℕ → Tree) : Type 0 where
  pub trees : HoldTrees x (source_grown x image p)
  pub node : ℕ
  pub is : source_put x image p ≡ Some node
  pub below : node < count_of x
  pub finds : AllFind before trees.trees
  pub stands : policy_node x trees.trees p ≡ Some node
  pub all : (test : ℕ → Bool) → ((n : ℕ) → is_own x trees.trees n p ≡ true → test n ≡ true) → (r : ℕ) → AllNodes test (items_of (before r)) → AllNodes test (items_of (trees.trees r))

own_number : (n : ℕ) (o : Option ℕ) → o ≡ Some n → is_number n o ≡ true
own_number n o e = ap (λ (v : Option ℕ). is_number n v) e ∙ eq-eqb n n refl

-- each of a policy's three nodes is its own

own_bin : (x : Inexact) (trees : ℕ → Tree) (n : ℕ) (p : Policy) → policy_bin x trees p ≡ Some n → is_own x trees n p ≡ true
own_bin x trees n p e =
    ap (λ (v : Bool). v || is_number n (policy_destination x trees p) || is_number n (policy_node x trees p)) (own_number n (policy_bin x trees p) e)

own_destination : (x : Inexact) (trees : ℕ → Tree) (n : ℕ) (p : Policy) → policy_destination x trees p ≡ Some n → is_own x trees n p ≡ true
own_destination x trees n p e =
    ap (λ (v : Bool). is_number n (policy_bin x trees p) || v || is_number n (policy_node x trees p)) (own_number n (policy_destination x trees p) e)
    ∙ either_true (is_number n (policy_bin x trees p)) (is_number n (policy_node x trees p))
  where
    either_true : (a c : Bool) → (a || true || c) ≡ true
    either_true true c = refl
    either_true false c = refl

own_source : (x : Inexact) (trees : ℕ → Tree) (n : ℕ) (p : Policy) → policy_node x trees p ≡ Some n → is_own x trees n p ≡ true
own_source x trees n p e =
    ap (λ (v : Bool). is_number n (policy_bin x trees p) || is_number n (policy_destination x trees p) || v) (own_number n (policy_node x trees p) e)
    ∙ last_true (is_number n (policy_bin x trees p) || is_number n (policy_destination x trees p))
  where
    last_true : (a : Bool) → (a || true) ≡ true
    last_true true = refl
    last_true false = refl

pub policy_grows : (x : Inexact) (image : List ℕ) (size : ℕ) (p : Policy) (h : HoldTrees x image) → length image ≡ size → Fits x size → KeysFit p → 6 ≤ length h.free
    → PolicyGrows x image p h.trees
unfolding destination_grown destination_put source_grown source_put
policy_grows x image size p h n fits keys room =
    let kd : ℕ = key_of p.spec.sel.dst.addr in
    let ks : ℕ = key_of p.spec.sel.src.addr in
    let a : GrowsTo x (bin_grown x image p) h.trees (bucket_root x (bucket_of p)) (bin_key_of p) 128 (bin_put x image p) 4 = bin_grows x image size p h n fits keys room in
    let b : GrowsTo x (destination_grown x image p) a.trees.trees (below_root x a.node) kd p.spec.sel.dst.len (destination_put x image p) 2 =
    below_grows x (bin_grown x image p) size a.node kd p.spec.sel.dst.len 2 (bin_put x image p) a.trees a.is a.below (bin_length x image p ∙ n) fits
    (len_small p.spec.sel.dst) keys.destination a.room in
    let c : GrowsTo x (source_grown x image p) b.trees.trees (below_root x b.node) ks p.spec.sel.src.len (source_put x image p) 0 =
    below_grows x (destination_grown x image p) size b.node ks p.spec.sel.src.len 0 (destination_put x image p) b.trees b.is b.below
    (below_length x (bin_grown x image p) (bin_put x image p) kd p.spec.sel.dst.len ∙ bin_length x image p ∙ n) fits
    (len_small p.spec.sel.src) keys.source b.room in
    let t : ℕ → Tree = c.trees.trees in
    let bin : policy_bin x t p ≡ Some a.node =
    c.finds (bucket_root x (bucket_of p)) (bin_key_of p) 128 a.node (b.finds (bucket_root x (bucket_of p)) (bin_key_of p) 128 a.node a.found) in
    let destination : policy_destination x t p ≡ Some b.node =
    ap (λ (o : Option ℕ). node_under x t o kd p.spec.sel.dst.len) bin ∙ c.finds (below_root x a.node) kd p.spec.sel.dst.len b.node b.found in
    let source : policy_node x t p ≡ Some c.node = ap (λ (o : Option ℕ). node_under x t o ks p.spec.sel.src.len) destination ∙ c.found in
    record {
      trees = c.trees;
      node = c.node;
      is = c.is;
      below = c.below;
      finds = λ r k l m e. c.finds r k l m (b.finds r k l m (a.finds r k l m e));
      stands = source;
      all = λ test f r g.
          c.all test (f c.node (own_source x t c.node p source)) r
          (b.all test (f b.node (own_destination x t b.node p destination)) r
          (a.all test (f a.node (own_bin x t a.node p bin)) r g));
    }
