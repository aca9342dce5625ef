-- The trees after a removal.
use Rattle.std.proofs.Common.{◌≡◌, ◌≢◌, ℕ, ◌+◌, ◌==◌, ◌++◌, Bool, true, false, not, List, Some, if◌then◌else◌, length, length-append, refl, ap, sym, ◌∙◌, subst, arith}
use Rattle.std.proofs.lemmas.Bool.{eqb-true}
use Rattle.xf_trie.specs.Forests.{grown}
use Rattle.xf_trie.specs.Nodes.{Lies}
use Rattle.xf_trie.specs.Removals.{removed}
use Rattle.xf_trie.specs.Takes.{Takes, remove_frees, remove_tree}
use Rattle.xf_trie.specs.Trees.{Tree, is_prefix, items_of}
use Rattle.xf_trie.proofs.Owners.{not_same}
use Rattle.xf_trie.proofs.RemoveSizes.{size_remove}
use Rattle.xf_trie.proofs.Woods.{forest_removed}
use Rattle.xf_inexact.specs.declared.inexact.Inexact.{Inexact}
use Rattle.xf_inexact.specs.Holds.{AllNodes, HoldTrees, node_in}
use Rattle.xf_inexact.specs.Places.{count_of, is_root, pool_of, tree_at}
use Rattle.xf_inexact.proofs.Apart.{least_root, most_root, trees_lay}
use Rattle.xf_inexact.proofs.Kept.{items_owned, takes_all, takes_found, takes_without}
use Rattle.xf_inexact.proofs.Sums.{nodes_grown}
use Rattle.xf_inexact.proofs.Moved.{Keeps}

unfoldable pub trees_removed : (x : Inexact) (image : List ℕ) (root key len : ℕ) (h : HoldTrees x image) → Lies (tree_at x root) (length image) → is_root x root ≡ true
    → HoldTrees x (removed (tree_at x root) image key len)
trees_removed x image root key len h lies e =
    let t : Tree = remove_tree key len (h.trees root) in
    let a = least_root x root e in
    let b = most_root x root e in
    let c = nodes_grown h.trees root t x.base (64 + count_of x) a (omega (arith, b)) in
    let d = size_remove key len (h.trees root) in
    let f = length-append (remove_frees key len (h.trees root)) h.free in
    let w = h.whole in
    record {
      trees = grown h.trees root t;
      free = remove_frees key len (h.trees root) ++ h.free;
      forest = forest_removed (pool_of x) image (is_root x) h.trees h.free root key len lies (trees_lay x) h.forest e;
      whole = omega (arith, c, d, f, w);
    }

-- what a removal keeps of all trees
pub grown_keeps : (trees : ℕ → Tree) (root key len m : ℕ) (q : Takes key len (items_of (trees root)) (items_of (remove_tree key len (trees root)))) → m ≡ q.node.slot
    → Keeps trees (grown trees root (remove_tree key len (trees root))) m
grown_keeps trees root key len m q em = λ r k l n e ne. turn r k l n e ne (r == root) refl
  where
    turn : (r k l n : ℕ) → node_in (trees r) k l ≡ Some n → n ≢ m → (b : Bool) → (r == root) ≡ b
        → node_in (if b then remove_tree key len (trees root) else trees r) k l ≡ Some n
    turn r k l n e ne true g =
        takes_found key len (items_of (trees root)) (items_of (remove_tree key len (trees root))) (is_prefix k l) n q
        (subst (λ (s : ℕ). node_in (trees s) k l ≡ Some n) (eqb-true r root g) e) (λ s. ne (s ∙ sym em))
    turn r k l n e ne false g = e

-- and its inserted prefixes
pub grown_all : (f : ℕ → Bool) (trees : ℕ → Tree) (root r key len : ℕ) (q : Takes key len (items_of (trees root)) (items_of (remove_tree key len (trees root))))
    → AllNodes f (items_of (trees root)) → AllNodes f (items_of (trees r)) → AllNodes f (items_of (grown trees root (remove_tree key len (trees root)) r))
grown_all f trees root r key len q a c = turn (r == root)
  where
    turn : (b : Bool) → AllNodes f (items_of (if b then remove_tree key len (trees root) else trees r))
    turn true = takes_all f key len (items_of (trees root)) (items_of (remove_tree key len (trees root))) q a
    turn false = c

-- of which none has the node
pub grown_without : (x : Inexact) (image : List ℕ) (root r key len m : ℕ) (h : HoldTrees x image)
    (q : Takes key len (items_of (h.trees root)) (items_of (remove_tree key len (h.trees root)))) → m ≡ q.node.slot → h.forest.owner m ≡ root
    → is_root x root ≡ true → is_root x r ≡ true → AllNodes (λ s. not (s == m)) (items_of (grown h.trees root (remove_tree key len (h.trees root)) r))
grown_without x image root r key len m h q em o e er = turn (r == root) refl
  where
    other : (s : ℕ) → (b : Bool) → (s == m) ≡ b → r ≢ root → h.forest.owner s ≡ r → not b ≡ true
    other s true k n os = absurd (n (sym os ∙ ap h.forest.owner (eqb-true s m k) ∙ o))
    other s false k n os = refl

    turn : (b : Bool) → (r == root) ≡ b → AllNodes (λ s. not (s == m)) (items_of (if b then remove_tree key len (h.trees root) else h.trees r))
    turn true g =
        subst (λ (n : ℕ). AllNodes (λ s. not (s == n)) (items_of (remove_tree key len (h.trees root)))) (sym em)
        (takes_without key len (items_of (remove_tree key len (h.trees root))) (h.trees root) (h.forest.once root e) q)
    turn false g =
        items_owned h.forest.owner r (λ s. not (s == m)) (h.trees r) (h.forest.owned r er)
        (λ s os. other s (s == m) refl (λ k. not_same r root k g) os)
