-- What a put into one tree makes of all trees.
use Rattle.std.proofs.Common.{◌≡◌, ◌≢◌, ℕ, ◌+◌, ◌^◌, ◌<◌, ◌≤◌, Bool, true, false, if◌then◌else◌, ◌==◌, List, [], ◌∷◌, None, Some, drop, length, refl, ap, sym, subst, arith, eq-eqb}
use Rattle.std.proofs.lemmas.Bool.{eqb-true}
use Rattle.std.proofs.lemmas.List.{length-drop}
use Rattle.xf_trie.specs.Forests.{IsForest, grown}
use Rattle.xf_trie.specs.Insertions.{inserted, slot_inserted}
use Rattle.xf_trie.specs.Nodes.{Lies}
use Rattle.xf_trie.specs.Pools.{IsTrie}
use Rattle.xf_trie.specs.Promises.{InsertLeaves}
use Rattle.xf_trie.specs.Puts.{put_tree, put_uses}
use Rattle.xf_trie.specs.Rooms.{has_room, room_inserted, room_slot}
use Rattle.xf_trie.specs.Trees.{Tree, items_of}
use Rattle.xf_trie.proofs.Counts.{size_put, uses_small}
use Rattle.xf_trie.proofs.Inserted.{inserts_is}
use Rattle.xf_trie.proofs.Owners.{not_same}
use Rattle.xf_trie.proofs.RoomLaws.{forest_room}
use Rattle.xf_trie.proofs.Woods.{forest_inserted, trie_of}
use Rattle.xf_inexact.specs.declared.inexact.Inexact.{Inexact}
use Rattle.xf_inexact.specs.Holds.{AllNodes, HoldTrees, node_in, nodes_from}
use Rattle.xf_inexact.specs.Places.{count_of, is_root, pool_of, tree_at}
use Rattle.xf_inexact.proofs.Apart.{least_root, most_root, trees_lay}
use Rattle.xf_inexact.proofs.GrowFinds.{Finds, put_all, put_finds, put_found}
use Rattle.xf_inexact.proofs.Sums.{nodes_grown}

-- a fact of the tree at a root, where another tree stands at one of them
grown_at : (P : ℕ → Tree → Type 0) (trees : ℕ → Tree) (root : ℕ) (tree : Tree) (r : ℕ) → P root tree → (r ≢ root → P r (trees r)) → P r (grown trees root tree r)
grown_at P trees root tree r p f = turn (r == root) refl
  where
    turn : (v : Bool) → (r == root) ≡ v → P r (if v then tree else trees r)
    turn true e = subst (λ (s : ℕ). P s tree) (sym (eqb-true r root e)) p
    turn false e = f (λ q. not_same r root q e)

-- that tree itself
grown_there : (P : Tree → Type 0) (trees : ℕ → Tree) (root : ℕ) (tree : Tree) → P tree → P (grown trees root tree root)
grown_there P trees root tree p =
    subst (λ (v : Bool). P (if v then tree else trees root)) (sym (eq-eqb root root refl)) p

-- The words hold the trees with one prefix more, whose node is this one: what was found is found, and at most two nodes are taken.
pub record Planted (x : Inexact) (words : List ℕ) (root key len node : ℕ) (before : ℕ → Tree) (free : List ℕ) : Type 0 where
  pub trees : HoldTrees x words
  pub finds : (r : ℕ) → Finds (before r) (trees.trees r)
  pub found : node_in (trees.trees root) key len ≡ Some node
  pub all : (test : ℕ → Bool) → test node ≡ true → (r : ℕ) → AllNodes test (items_of (before r)) → AllNodes test (items_of (trees.trees r))
  pub room : length free ≤ length trees.free + 2

planted_two : (x : Inexact) (image : List ℕ) (root key len s1 s2 : ℕ) (rest : List ℕ) (trees : ℕ → Tree)
    → IsForest (pool_of x) image (is_root x) trees (s1 ∷ (s2 ∷ rest)) → nodes_from trees x.base (64 + count_of x) + length (s1 ∷ (s2 ∷ rest)) ≡ count_of x
    → Lies (tree_at x root) (length image) → is_root x root ≡ true → len ≤ 128 → key < 2 ^ 128
    → Planted x (inserted (tree_at x root) image key len) root key len (slot_inserted (tree_at x root) image key len) trees (s1 ∷ (s2 ∷ rest))
planted_two x image root key len s1 s2 rest trees f whole lies at hl hk =
    let tree : Tree = put_tree s1 s2 key len (trees root) in
    let w : IsTrie (tree_at x root) image (trees root) (s1 ∷ (s2 ∷ rest)) = trie_of (pool_of x) image (is_root x) trees (s1 ∷ (s2 ∷ rest)) root (trees_lay x) f at in
    let leaves : InsertLeaves (tree_at x root) image (inserted (tree_at x root) image key len) key len (slot_inserted (tree_at x root) image key len) s1 s2 rest (trees root) =
    (inserts_is (tree_at x root) image key len lies hl hk).leaves s1 s2 rest (trees root) ((trees_lay x).each root at) w in
    let forest : IsForest (pool_of x) (inserted (tree_at x root) image key len) (is_root x) (grown trees root tree) (drop (put_uses key len (trees root)) (s1 ∷ (s2 ∷ rest))) =
    forest_inserted (pool_of x) image (is_root x) trees s1 s2 rest root key len lies (trees_lay x) hl hk f at in
    let few = uses_small key len (trees root) in
    let more = size_put s1 s2 key len (trees root) in
    let least = least_root x root at in
    let most = most_root x root at in
    let sum = nodes_grown trees root tree x.base (64 + count_of x) least (omega (arith, most)) in
    let left = length-drop (put_uses key len (trees root)) (s1 ∷ (s2 ∷ rest)) in
    record {
      trees = record {
        trees = grown trees root tree;
        free = drop (put_uses key len (trees root)) (s1 ∷ (s2 ∷ rest));
        forest = forest;
        whole = omega (arith, whole, few, more, sum, left);
      };
      finds = λ r. grown_at (λ s t. Finds (trees s) t) trees root tree r
          (put_finds key len (slot_inserted (tree_at x root) image key len) (trees root) tree leaves.trie_is.ordered leaves.prefixes) (λ n k l m e. e);
      found = grown_there (λ t. node_in t key len ≡ Some (slot_inserted (tree_at x root) image key len)) trees root tree
          (put_found key len (slot_inserted (tree_at x root) image key len) (trees root) tree leaves.trie_is.ordered leaves.prefixes);
      all = λ test e r. grown_at (λ s t. AllNodes test (items_of (trees s)) → AllNodes test (items_of t)) trees root tree r
          (λ a. put_all key len (slot_inserted (tree_at x root) image key len) (items_of (trees root)) (items_of tree) test leaves.prefixes e a) (λ n a. a);
      room = omega (arith, few, left);
    }

planted_free : (x : Inexact) (image : List ℕ) (root key len : ℕ) (free : List ℕ) (trees : ℕ → Tree)
    → IsForest (pool_of x) image (is_root x) trees free → nodes_from trees x.base (64 + count_of x) + length free ≡ count_of x → 2 ≤ length free
    → Lies (tree_at x root) (length image) → is_root x root ≡ true → len ≤ 128 → key < 2 ^ 128
    → Planted x (inserted (tree_at x root) image key len) root key len (slot_inserted (tree_at x root) image key len) trees free
planted_free x image root key len [] trees f whole two lies at hl hk = absurd (omega (arith, two))
planted_free x image root key len (s1 ∷ []) trees f whole two lies at hl hk = absurd (omega (arith, two))
planted_free x image root key len (s1 ∷ (s2 ∷ rest)) trees f whole two lies at hl hk = planted_two x image root key len s1 s2 rest trees f whole lies at hl hk

-- there was room, and the node was answered
pub record Grew (x : Inexact) (image : List ℕ) (root key len : ℕ) (before : ℕ → Tree) (free : List ℕ) : Type 0 where
  pub node : ℕ
  pub slot : room_slot (tree_at x root) image key len ≡ Some node
  pub planted : Planted x (room_inserted (tree_at x root) image key len) root key len node before free

pub grew : (x : Inexact) (image : List ℕ) (root key len : ℕ) (h : HoldTrees x image) → 2 ≤ length h.free
    → Lies (tree_at x root) (length image) → is_root x root ≡ true → len ≤ 128 → key < 2 ^ 128 → Grew x image root key len h.trees h.free
unfolding room_inserted room_slot
grew x image root key len h two lies at hl hk =
    let room : has_room (tree_at x root) image ≡ true = forest_room (pool_of x) image (is_root x) h.trees h.free root h.forest two in
    record {
      node = slot_inserted (tree_at x root) image key len;
      slot = ap (λ (b : Bool). if b then Some (slot_inserted (tree_at x root) image key len) else None) room;
      planted = subst (λ (b : Bool). Planted x (if b then inserted (tree_at x root) image key len else image) root key len (slot_inserted (tree_at x root) image key len) h.trees h.free) (sym room)
          (planted_free x image root key len h.free h.trees h.forest h.whole two lies at hl hk);
    }
