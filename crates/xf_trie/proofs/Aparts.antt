-- Slots that are in no tree.
use Rattle.std.proofs.Common.{ℕ, zero, suc, Bool, List, [], drop, false, if◌then◌else◌, sym, true, ◌++◌, ◌∷◌}
use Rattle.xf_trie.specs.declared.trie.Node.{Node}
use Rattle.xf_trie.specs.Pools.{Apart, Lacks}
use Rattle.xf_trie.specs.Trees.{Fork, Leaf, Tree}

pub apart_drop : (n : ℕ) (xs : List ℕ) (t : Tree) → Apart xs t → Apart (drop n xs) t
apart_drop zero xs t a = a
apart_drop (suc n) [] t a = tt
apart_drop (suc n) (x ∷ xs) t a = apart_drop n xs t a.1

pub apart_leaf : (xs : List ℕ) → Apart xs Leaf
apart_leaf [] = tt
apart_leaf (x ∷ xs) = (tt, apart_leaf xs)

pub lacks_free : (s : ℕ) (node : Node) (l r : Tree) (xs : List ℕ) → Apart xs (Fork node l r) → Lacks node.slot xs
lacks_free s node l r [] a = tt
lacks_free s node l r (x ∷ xs) a = ((λ e. a.0.0 (sym e)), lacks_free s node l r xs a.1)

pub apart_right : (xs : List ℕ) (node : Node) (l r : Tree) → Apart xs (Fork node l r) → Apart xs r
apart_right [] node l r a = tt
apart_right (x ∷ xs) node l r a = (a.0.2, apart_right xs node l r a.1)

pub apart_left : (xs : List ℕ) (node : Node) (l r : Tree) → Apart xs (Fork node l r) → Apart xs l
apart_left [] node l r a = tt
apart_left (x ∷ xs) node l r a = (a.0.1, apart_left xs node l r a.1)

pub apart_append : (xs ys : List ℕ) (t : Tree) → Apart xs t → Apart ys t → Apart (xs ++ ys) t
apart_append [] ys t a b = b
apart_append (x ∷ xs) ys t a b = (a.0, apart_append xs ys t a.1 b)

pub apart_if : (v : Bool) (xs ys : List ℕ) (t : Tree) → Apart xs t → Apart ys t → Apart (if v then xs else ys) t
apart_if true xs ys t a b = a
apart_if false xs ys t a b = b

pub apart_join : (xs : List ℕ) (node : Node) (l r : Tree) → Lacks node.slot xs → Apart xs l → Apart xs r → Apart xs (Fork node l r)
apart_join [] node l r n a b = tt
apart_join (x ∷ xs) node l r n a b = (((λ e. n.0 (sym e)), a.0, b.0), apart_join xs node l r n.1 a.1 b.1)
