-- A part whose trees may have prefixes that no policy needs, and how such a prefix goes.
use Rattle.std.proofs.Common.{◌≡◌, ℕ, ◌&&◌, ◌||◌, ◌==◌, Bool, true, false, not, List, Option, Some, is_some, length, refl, ap, sym, ◌∙◌, subst, rules}
use Rattle.std.proofs.lemmas.Bool.{eqb-true}
use Rattle.std.specs.Prelude.{IsSome}
use Rattle.xf_exact.specs.Parts.{is_in_exact}
use Rattle.xf_index.specs.Indexes.{AllAre, Indexed}
use Rattle.xf_index.proofs.Stays.{indexed_apart}
use Rattle.xf_trie.specs.Forests.{grown}
use Rattle.xf_trie.specs.Nodes.{Lies}
use Rattle.xf_trie.specs.Promises.{RemoveLeaves}
use Rattle.xf_trie.specs.Removals.{removed}
use Rattle.xf_trie.specs.Takes.{Takes, remove_tree}
use Rattle.xf_trie.specs.Trees.{Tree, items_of}
use Rattle.xf_trie.specs.Walks.{find_of}
use Rattle.xf_trie.proofs.Removals.{removes_is}
use Rattle.xf_trie.proofs.Woods.{trie_of}
use Rattle.xf_types.specs.declared.policy.Policy.{Policy}
use Rattle.xf_inexact.specs.declared.inexact.Inexact.{Inexact}
use Rattle.xf_inexact.specs.Holds.{AllNodes, HoldTrees, is_needed, is_own, node_in, policy_node}
use Rattle.xf_inexact.specs.Places.{Fits, chains_of, is_root, pool_of, tree_at}
use Rattle.xf_inexact.proofs.Apart.{chain_is_beside, chains_lay, root_lies, trees_lay}
use Rattle.xf_inexact.proofs.TakenWords.{removed_beside}
use Rattle.xf_inexact.proofs.Kept.{all_both, all_more, takes_slot}
use Rattle.xf_inexact.proofs.Needs.{all_and, any_same, are_more, indexed_kept}
use Rattle.xf_inexact.proofs.NodeLaws.{root_node}
use Rattle.xf_inexact.proofs.Ranks.{in_owner}
use Rattle.xf_inexact.proofs.Moved.{Keeps, fine_from, fine_key, fine_own, fine_placed, is_fine, is_placed, tree_key}
use Rattle.xf_inexact.proofs.DropTrees.{grown_all, grown_keeps, grown_without, trees_removed}

-- The words hold this part, but for some nodes, which no policy may need.
pub record Leaving (x : Inexact) (image : List ℕ) (h4 h6 : ℕ × ℕ) (extra : ℕ → Bool) (es : List (ℕ × Policy)) : Type 0 where
  pub trees : HoldTrees x image
  pub nodes : AllAre (is_placed x trees.trees h4 h6) true es
  pub needed : (root : ℕ) → is_root x root ≡ true → AllNodes (λ n. extra n || is_needed x trees.trees h4 h6 es n) (items_of (trees.trees root))
  pub chains : Indexed (chains_of x) image (tree_key x trees.trees h4 h6) es

-- One of the extra nodes isn't extra any more: a policy needs it, or it went.
pub record Step (x : Inexact) (trees : ℕ → Tree) (words : List ℕ) (h4 h6 : ℕ × ℕ) (m : ℕ) (rest : ℕ → Bool) (es : List (ℕ × Policy)) : Type 0 where
  pub part : Leaving x words h4 h6 rest es
  pub keeps : Keeps trees part.trees.trees m

less_stays : (a b c : Bool) → ((a || b) || c) ≡ true → (a ≡ true → c ≡ true) → (b || c) ≡ true
less_stays true true c e f = refl
less_stays true false c e f = f refl
less_stays false b c e f = e

pub step_stays : (x : Inexact) (image : List ℕ) (h4 h6 : ℕ × ℕ) (m : ℕ) (rest : ℕ → Bool) (es : List (ℕ × Policy))
    (l : Leaving x image h4 h6 (λ n. (n == m) || rest n) es) → is_needed x l.trees.trees h4 h6 es m ≡ true → Step x l.trees.trees image h4 h6 m rest es
step_stays x image h4 h6 m rest es l e = record {
  part = record {
    trees = l.trees;
    nodes = l.nodes;
    needed = λ r g. all_more (λ n. ((n == m) || rest n) || is_needed x l.trees.trees h4 h6 es n) (λ n. rest n || is_needed x l.trees.trees h4 h6 es n)
        (items_of (l.trees.trees r)) (l.needed r g)
        (λ s k. less_stays (s == m) (rest s) (is_needed x l.trees.trees h4 h6 es s) k
        (λ q. ap (λ (n : ℕ). is_needed x l.trees.trees h4 h6 es n) (eqb-true s m q) ∙ e));
    chains = l.chains;
  };
  keeps = λ r k n s f g. f;
}

less_goes : (a b c d : Bool) → ((a || b) || c) ≡ true → not a ≡ true → d ≡ c → (b || d) ≡ true
less_goes true b c d e f g = absurd (cc)
less_goes false true c d e f g = refl
less_goes false false c d e f g = g ∙ e

is_there : (o : Option ℕ) (m : ℕ) → o ≡ Some m → IsSome o
is_there o m e = subst (λ (k : Option ℕ). IsSome k) (sym e) (search rules)

pub step_goes : (x : Inexact) (image : List ℕ) (h4 h6 : ℕ × ℕ) (root key len m : ℕ) (rest : ℕ → Bool) (es : List (ℕ × Policy))
    (l : Leaving x image h4 h6 (λ n. (n == m) || rest n) es) → Fits x (length image) → is_root x root ≡ true
    → node_in (l.trees.trees root) key len ≡ Some m → is_needed x l.trees.trees h4 h6 es m ≡ false
    → Step x l.trees.trees (removed (tree_at x root) image key len) h4 h6 m rest es
unfolding trees_removed
step_goes x image h4 h6 root key len m rest es l fits er f e =
    let h : HoldTrees x image = l.trees in
    let lies : Lies (tree_at x root) (length image) = root_lies x (length image) root fits er in
    let words : List ℕ = removed (tree_at x root) image key len in
    let found : find_of (tree_at x root) image key len ≡ Some m = root_node x image root key len l.trees er ∙ f in
    let leaves : RemoveLeaves (tree_at x root) image words key len l.trees.free (l.trees.trees root) =
    (removes_is (tree_at x root) image key len lies (is_there (find_of (tree_at x root) image key len) m found)).leaves l.trees.free (l.trees.trees root)
    ((trees_lay x).each root er) (trie_of (pool_of x) image (is_root x) l.trees.trees l.trees.free root (trees_lay x) l.trees.forest er) in
    let q : Takes key len (items_of (l.trees.trees root)) (items_of (remove_tree key len (l.trees.trees root))) = leaves.prefixes in
    let em : m ≡ q.node.slot =
    takes_slot key len (items_of (remove_tree key len (l.trees.trees root))) (l.trees.trees root) m (l.trees.forest.ordered root er) q f in
    let fewer : ℕ → Tree = grown l.trees.trees root (remove_tree key len (l.trees.trees root)) in
    let keeps : Keeps l.trees.trees fewer m = grown_keeps l.trees.trees root key len m q em in
    let fine : AllAre (is_fine x l.trees.trees h4 h6 m) true es =
    all_and (is_placed x l.trees.trees h4 h6) (λ p. not (is_in_exact h4 h6 p) && is_own x l.trees.trees m p) (is_fine x l.trees.trees h4 h6 m) es l.nodes e
    (λ p a b. fine_from (is_in_exact h4 h6 p) (is_some (policy_node x l.trees.trees p)) (is_own x l.trees.trees m p) a b) in
    record {
      part = record {
        trees = trees_removed x image root key len l.trees lies er;
        nodes = are_more (is_fine x l.trees.trees h4 h6 m) (is_placed x fewer h4 h6) es fine (λ p a. fine_placed x l.trees.trees fewer h4 h6 m p keeps a);
        needed = λ r g. all_both (λ n. ((n == m) || rest n) || is_needed x l.trees.trees h4 h6 es n) (λ n. not (n == m)) (λ n. rest n || is_needed x fewer h4 h6 es n)
            (items_of (fewer r))
            (grown_all (λ n. ((n == m) || rest n) || is_needed x l.trees.trees h4 h6 es n) l.trees.trees root r key len q (l.needed root er) (l.needed r g))
            (grown_without x image root r key len m l.trees q em (in_owner x image root key len m l.trees er f) er g)
            (λ s a b. less_goes (s == m) (rest s) (is_needed x l.trees.trees h4 h6 es s) (is_needed x fewer h4 h6 es s) a b
            (any_same (is_fine x l.trees.trees h4 h6 m) (λ p. not (is_in_exact h4 h6 p) && is_own x fewer s p)
            (λ p. not (is_in_exact h4 h6 p) && is_own x l.trees.trees s p) es fine (λ p c. fine_own x l.trees.trees fewer h4 h6 m s p keeps c)));
        chains = indexed_kept (chains_of x) words (is_fine x l.trees.trees h4 h6 m) (tree_key x l.trees.trees h4 h6) (tree_key x fewer h4 h6) es fine
            (λ p a. fine_key x l.trees.trees fewer h4 h6 m p keeps a)
            (indexed_apart (chains_of x) image words (length image) (tree_key x l.trees.trees h4 h6) es (chains_lay x (length image) fits)
            (λ p a b. removed_beside (tree_at x root) image key len p (chain_is_beside x root p er a b)) l.chains);
      };
      keeps = keeps;
    }
