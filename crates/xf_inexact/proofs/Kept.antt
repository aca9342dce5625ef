-- What a removal keeps of a tree's inserted prefixes.
use Rattle.std.proofs.Common.{◌≡◌, ◌≢◌, ℕ, ◌+◌, ◌≤◌, ◌++◌, ◌==◌, Bool, true, false, not, cond, List, [], ◌∷◌, None, Some, filter, find, map, refl, ap, sym, ◌∙◌, subst, arith, eq-eqb}
use Rattle.std.proofs.lemmas.Bool.{eqb-true}
use Rattle.xf_trie.specs.declared.trie.Node.{Node}
use Rattle.xf_trie.specs.Forests.{Owned}
use Rattle.xf_trie.specs.Nodes.{is_marked, slot_in}
use Rattle.xf_trie.specs.Slots.{Distinct}
use Rattle.xf_trie.specs.Takes.{Takes}
use Rattle.xf_trie.specs.Trees.{Fork, IsTree, Leaf, Tree, is_prefix, items_of, nodes_of}
use Rattle.xf_trie.specs.Walks.{slot_found}
use Rattle.xf_trie.proofs.Found.{takes_gone}
use Rattle.xf_trie.proofs.Owners.{not_same}
use Rattle.xf_inexact.specs.Holds.{AllNodes, node_in}
use Rattle.xf_inexact.proofs.Once.{count, one, seen_once}

pub all_both : (f g h : ℕ → Bool) (xs : List Node) → AllNodes f xs → AllNodes g xs → ((s : ℕ) → f s ≡ true → g s ≡ true → h s ≡ true) → AllNodes h xs
all_both f g h [] a b k = tt
all_both f g h (x ∷ xs) a b k = (k x.slot a.0 b.0, all_both f g h xs a.1 b.1 k)

pub all_more : (f g : ℕ → Bool) (xs : List Node) → AllNodes f xs → ((s : ℕ) → f s ≡ true → g s ≡ true) → AllNodes g xs
all_more f g [] a k = tt
all_more f g (x ∷ xs) a k = (k x.slot a.0, all_more f g xs a.1 k)

all_append : (f : ℕ → Bool) (xs ys : List Node) → AllNodes f xs → AllNodes f ys → AllNodes f (xs ++ ys)
all_append f [] ys a b = b
all_append f (x ∷ xs) ys a b = (a.0, all_append f xs ys a.1 b)

all_pick : (f : ℕ → Bool) (x : Node) (xs : List Node) (b : Bool) → f x.slot ≡ true → AllNodes f xs → AllNodes f (cond b (x ∷ xs) xs)
all_pick f x xs true e a = (e, a)
all_pick f x xs false e a = a

all_filter : (f : ℕ → Bool) (p : Node → Bool) (xs : List Node) → AllNodes f xs → AllNodes f (filter p xs)
all_filter f p [] a = tt
all_filter f p (x ∷ xs) a = all_pick f x (filter p xs) (p x) a.0 (all_filter f p xs a.1)

owned_all : (owner : ℕ → ℕ) (root : ℕ) (f : ℕ → Bool) (t : Tree) → Owned owner root t → ((s : ℕ) → owner s ≡ root → f s ≡ true) → AllNodes f (nodes_of t)
owned_all owner root f Leaf o k = tt
owned_all owner root f (Fork node l r) o k =
    (k node.slot o.0, all_append f (nodes_of l) (nodes_of r) (owned_all owner root f l o.1 k) (owned_all owner root f r o.2 k))

-- the inserted prefixes of an owner
pub items_owned : (owner : ℕ → ℕ) (root : ℕ) (f : ℕ → Bool) (t : Tree) → Owned owner root t → ((s : ℕ) → owner s ≡ root → f s ≡ true) → AllNodes f (items_of t)
items_owned owner root f t o k = all_filter f is_marked (nodes_of t) (owned_all owner root f t o k)

-- what is found is one of them
pub found_all : (f : ℕ → Bool) (p : Node → Bool) (xs : List Node) (n : ℕ) → AllNodes f xs → slot_found (find p xs) ≡ Some n → f n ≡ true
found_all f p [] n a e = absurd (cc)
found_all f p (x ∷ xs) n a e = turn (p x) e (λ k. found_all f p xs n a.1 k)
  where
    turn : (b : Bool) → slot_found (cond b (Some x) (find p xs)) ≡ Some n → (slot_found (find p xs) ≡ Some n → f n ≡ true) → f n ≡ true
    turn true g k = let s : x.slot ≡ n = cc in subst (λ (m : ℕ). f m ≡ true) s a.0
    turn false g k = k g

-- and it stays found where another one is taken out
find_kept : (p : Node → Bool) (front back : List Node) (x : Node) (n : ℕ) → slot_found (find p (front ++ (x ∷ back))) ≡ Some n → n ≢ x.slot
    → slot_found (find p (front ++ back)) ≡ Some n
find_kept p [] back x n e h = turn (p x) e
  where
    turn : (b : Bool) → slot_found (cond b (Some x) (find p back)) ≡ Some n → slot_found (find p back) ≡ Some n
    turn true g = let s : n ≡ x.slot = cc in absurd (h s)
    turn false g = g
find_kept p (y ∷ front) back x n e h = turn (p y) e (λ k. find_kept p front back x n k h)
  where
    turn : (b : Bool) → slot_found (cond b (Some y) (find p (front ++ (x ∷ back)))) ≡ Some n
        → (slot_found (find p (front ++ (x ∷ back))) ≡ Some n → slot_found (find p (front ++ back)) ≡ Some n)
        → slot_found (cond b (Some y) (find p (front ++ back))) ≡ Some n
    turn true g k = g
    turn false g k = k g

pub takes_found : (key len : ℕ) (old new : List Node) (p : Node → Bool) (n : ℕ) (q : Takes key len old new) → slot_found (find p old) ≡ Some n → n ≢ q.node.slot
    → slot_found (find p new) ≡ Some n
takes_found key len old new p n q e h =
    ap (λ xs. slot_found (find p xs)) q.now ∙ find_kept p q.front q.back q.node n (sym (ap (λ xs. slot_found (find p xs)) q.was) ∙ e) h

-- what is taken out is what was found
pub takes_slot : (key len : ℕ) (new : List Node) (t : Tree) (m : ℕ) → IsTree t → (q : Takes key len (items_of t) new) → node_in t key len ≡ Some m → m ≡ q.node.slot
takes_slot key len new t m w q e = turn (m == q.node.slot) refl
  where
    turn : (b : Bool) → (m == q.node.slot) ≡ b → m ≡ q.node.slot
    turn true g = eqb-true m q.node.slot g
    turn false g =
        let k : slot_found (find (is_prefix key len) new) ≡ Some m = takes_found key len (items_of t) new (is_prefix key len) m q e (λ s. not_same m q.node.slot s g) in
        let n : slot_found (find (is_prefix key len) new) ≡ None = ap (λ o. slot_found o) (takes_gone key len new t w q) in absurd (cc)

all_mid : (f : ℕ → Bool) (front back : List Node) (x : Node) → AllNodes f (front ++ (x ∷ back)) → AllNodes f (front ++ back)
all_mid f [] back x a = a.1
all_mid f (y ∷ front) back x a = (a.0, all_mid f front back x a.1)

-- what all pass all others pass
pub takes_all : (f : ℕ → Bool) (key len : ℕ) (old new : List Node) (q : Takes key len old new) → AllNodes f old → AllNodes f new
takes_all f key len old new q a =
    subst (λ (xs : List Node). AllNodes f xs) (sym q.now) (all_mid f q.front q.back q.node (subst (λ (xs : List Node). AllNodes f xs) q.was a))

count_mid : (m : ℕ) (front back : List Node) (x : Node) → count m (map slot_in (front ++ (x ∷ back))) ≡ one (m == x.slot) + count m (map slot_in (front ++ back))
count_mid m [] back x = refl
count_mid m (y ∷ front) back x = let h = count_mid m front back x in omega (arith, h)

without : (m : ℕ) (xs : List Node) → count m (map slot_in xs) ≤ 0 → AllNodes (λ s. not (s == m)) xs
without m [] h = tt
without m (x ∷ xs) h = (turn (x.slot == m) refl, without m xs (omega (arith, h)))
  where
    turn : (b : Bool) → (x.slot == m) ≡ b → not b ≡ true
    turn true e =
        let g : one (m == x.slot) ≡ 1 = ap one (eq-eqb m x.slot (sym (eqb-true x.slot m e))) in absurd (omega (arith, g, h))
    turn false e = refl

filter_true : (xs : List Node) → filter (λ (n : Node). true) xs ≡ xs
filter_true [] = refl
filter_true (x ∷ xs) = ap (λ (ys : List Node). x ∷ ys) (filter_true xs)

-- and none of the others has its node
pub takes_without : (key len : ℕ) (new : List Node) (t : Tree) → Distinct t → (q : Takes key len (items_of t) new) → AllNodes (λ s. not (s == q.node.slot)) new
takes_without key len new t d q =
    let m : ℕ = q.node.slot in
    let a : count m (map slot_in (items_of t)) ≤ 1 =
    subst (λ (xs : List Node). count m (map slot_in xs) ≤ 1) (filter_true (items_of t)) (seen_once m (λ (n : Node). true) t d) in
    let b : count m (map slot_in (items_of t)) ≡ one (m == m) + count m (map slot_in (q.front ++ q.back)) =
    ap (λ xs. count m (map slot_in xs)) q.was ∙ count_mid m q.front q.back q.node in
    let c : one (m == m) ≡ 1 = ap one (eq-eqb m m refl) in
    subst (λ (xs : List Node). AllNodes (λ s. not (s == q.node.slot)) xs) (sym q.now) (without m (q.front ++ q.back) (omega (arith, a, b, c)))
