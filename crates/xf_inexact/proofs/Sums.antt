-- Nodes of trees at many roots.
use Rattle.std.proofs.Common.{◌≡◌, ◌≢◌, ℕ, zero, suc, ◌+◌, ◌<◌, ◌≤◌, Bool, true, false, if◌then◌else◌, ◌==◌, refl, ap, arith}
use Rattle.std.proofs.lemmas.Bool.{eqb-true}
use Rattle.xf_trie.specs.Forests.{grown}
use Rattle.xf_trie.specs.Trees.{Tree, size_of}
use Rattle.xf_trie.proofs.Owners.{not_same}
use Rattle.xf_inexact.specs.Holds.{nodes_from}

-- where another tree stands at a root before them, they stay
grown_before : (trees : ℕ → Tree) (root : ℕ) (tree : Tree) (first more : ℕ) → root < first
    → nodes_from (grown trees root tree) first more ≡ nodes_from trees first more
grown_before trees root tree first zero h = refl
grown_before trees root tree first (suc more) h =
    let k = grown_before trees root tree (first + 1) more (omega (arith, h)) in turn (first == root) refl k
  where
    turn : (v : Bool) → (first == root) ≡ v → nodes_from (grown trees root tree) (first + 1) more ≡ nodes_from trees (first + 1) more
        → size_of (if v then tree else trees first) + nodes_from (grown trees root tree) (first + 1) more ≡ size_of (trees first) + nodes_from trees (first + 1) more
    turn true q k = let e = eqb-true first root q in absurd (omega (arith, e, h))
    turn false q k = omega (arith, k)

-- where another one stands at one of these roots, they are as many more or fewer as that one has
pub nodes_grown : (trees : ℕ → Tree) (root : ℕ) (tree : Tree) (first more : ℕ) → first ≤ root → root < first + more
    → nodes_from (grown trees root tree) first more + size_of (trees root) ≡ nodes_from trees first more + size_of tree
nodes_grown trees root tree first zero a b = absurd (omega (arith, a, b))
nodes_grown trees root tree first (suc more) a b =
    turn (first == root) refl (λ n. nodes_grown trees root tree (first + 1) more (omega (arith, a, n)) (omega (arith, b)))
  where
    turn : (v : Bool) → (first == root) ≡ v
        → (first ≢ root → nodes_from (grown trees root tree) (first + 1) more + size_of (trees root) ≡ nodes_from trees (first + 1) more + size_of tree)
        → (size_of (if v then tree else trees first) + nodes_from (grown trees root tree) (first + 1) more) + size_of (trees root)
        ≡ (size_of (trees first) + nodes_from trees (first + 1) more) + size_of tree
    turn true q f =
        let e : first ≡ root = eqb-true first root q in
        let k = grown_before trees root tree (first + 1) more (omega (arith, e)) in
        let s : size_of (trees first) ≡ size_of (trees root) = ap (λ (r : ℕ). size_of (trees r)) e in omega (arith, k, s)
    turn false q f = let k = f (λ e. not_same first root e q) in omega (arith, k)
