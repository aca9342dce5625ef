-- A prefix that agrees with a key is visited on the way to it.
use Rattle.std.proofs.Common.{◌≡◌, ℕ, zero, suc, ◌<◌, ◌++◌, ◌||◌, ◌==◌, Bool, true, false, cond, if◌then◌else◌, List, [], ◌∷◌, Option, None, Some, find, filter, map, refl, ap, sym, ◌∙◌, eq-eqb}
use Rattle.std.proofs.lemmas.Bool.{and_parts, eqb-true}
use Rattle.std.specs.Prelude.{⊤}
use Rattle.xf_chain.proofs.Walks.{slot_below}
use Rattle.xf_trie.specs.declared.trie.Node.{Node}
use Rattle.xf_trie.specs.declared.trie.Trie.{Trie}
use Rattle.xf_trie.specs.Keys.{agrees, bit}
use Rattle.xf_trie.specs.Nodes.{Below, child_at, is_marked, node_at, root_of, slot_in}
use Rattle.xf_trie.specs.Pools.{IsPrefixSet}
use Rattle.xf_trie.specs.Trees.{holds, is_prefix, items_of}
use Rattle.xf_trie.specs.Walks.{find_of, is_of, path_from, path_of, slot_found, visit_of}
use Rattle.xf_trie.proofs.Agreeing.{agrees_trans}
use Rattle.xf_trie.proofs.Lookups.{find_is, visit_is}
use Rattle.xf_inexact.specs.Walks.{has}

-- all are of so many
abbrev pub AllBelow : ℕ → List ℕ → Type 0
AllBelow count [] = ⊤
AllBelow count (x ∷ xs) = (x < count) × AllBelow count xs

or_front : (a b c : Bool) → (a || b) ≡ true → (b ≡ true → c ≡ true) → (a || c) ≡ true
or_front true b c e f = refl
or_front false b c e f = f e

or_back : (a c : Bool) → c ≡ true → (a || c) ≡ true
or_back true c e = refl
or_back false c e = e

or_own : (a c : Bool) → a ≡ true → (a || c) ≡ true
or_own true c e = refl
or_own false c e = absurd (cc)

pub has_front : (node : ℕ) (xs ys : List ℕ) → has node xs ≡ true → has node (xs ++ ys) ≡ true
has_front node [] ys e = absurd (cc)
has_front node (x ∷ xs) ys e = or_front (node == x) (has node xs) (has node (xs ++ ys)) e (λ h. has_front node xs ys h)

pub has_back : (node : ℕ) (xs ys : List ℕ) → has node ys ≡ true → has node (xs ++ ys) ≡ true
has_back node [] ys e = e
has_back node (x ∷ xs) ys e = or_back (node == x) (has node (xs ++ ys)) (has_back node xs ys e)

pub all_both : (count : ℕ) (xs ys : List ℕ) → AllBelow count xs → AllBelow count ys → AllBelow count (xs ++ ys)
all_both count [] ys a b = b
all_both count (x ∷ xs) ys a b = (a.0, all_both count xs ys a.1 b)

-- a node that has a prefix holds what agrees with it
prefix_holds : (key other len : ℕ) (n : Node) → agrees key other len ≡ true → is_prefix key len n ≡ true → holds other n ≡ true
prefix_holds key other len n e p =
    let (same, agree) = and_parts (n.len == len) (agrees n.key key len) p in
    ap (λ m. agrees n.key other m) (eqb-true n.len len same) ∙ agrees_trans n.key key other len agree e

skip : (node : ℕ) (n : Node) (rest : List Node) (h : Bool) → has node (map slot_in rest) ≡ true
    → has node (map slot_in (cond h (n ∷ rest) rest)) ≡ true
skip node n rest true e = or_back (node == n.slot) (has node (map slot_in rest)) e
skip node n rest false e = e

own : (node : ℕ) (n : Node) (rest : List Node) (h : Bool) → h ≡ true → node ≡ n.slot
    → has node (map slot_in (cond h (n ∷ rest) rest)) ≡ true
own node n rest true e s = or_own (node == n.slot) (has node (map slot_in rest)) (eq-eqb node n.slot s)
own node n rest false e s = absurd (cc)

found_step : (key other len node : ℕ) (n : Node) (items : List Node) (b : Bool) → is_prefix key len n ≡ b → agrees key other len ≡ true
    → slot_found (cond b (Some n) (find (is_prefix key len) items)) ≡ Some node
    → (slot_found (find (is_prefix key len) items) ≡ Some node → has node (map slot_in (filter (holds other) items)) ≡ true)
    → has node (map slot_in (cond (holds other n) (n ∷ filter (holds other) items) (filter (holds other) items))) ≡ true
found_step key other len node n items true p e f k =
    let s : node ≡ n.slot = cc in own node n (filter (holds other) items) (holds other n) (prefix_holds key other len n e p) s
found_step key other len node n items false p e f k = skip node n (filter (holds other) items) (holds other n) (k f)

found_item : (key other len node : ℕ) (items : List Node) → agrees key other len ≡ true → slot_found (find (is_prefix key len) items) ≡ Some node
    → has node (map slot_in (filter (holds other) items)) ≡ true
found_item key other len node [] e f = absurd (cc)
found_item key other len node (n ∷ items) e f =
    found_step key other len node n items (is_prefix key len n) refl e f (λ h. found_item key other len node items e h)

-- what is found of a prefix is visited for each key that agrees with it
pub found_visited : (trie : Trie) (image : List ℕ) (key other len node : ℕ) → IsPrefixSet trie image → agrees key other len ≡ true
    → find_of trie image key len ≡ Some node → has node (visit_of trie image other) ≡ true
found_visited trie image key other len node s e f =
    ap (λ xs. has node xs) (visit_is trie image other s.tree s.holds.ordered s.holds.stands)
    ∙ found_item key other len node (items_of s.tree) e (sym (find_is trie image key len s.tree s.holds.ordered s.holds.stands) ∙ f)

-- nodes on a way are of the pool
found_pick : (count : ℕ) (n : Node) (found : Option Node) (b : Bool) → n.slot < count → Below count (slot_found found)
    → Below count (slot_found (cond b (Some n) found))
found_pick count n found true h k = h
found_pick count n found false h k = k

found_turn : (count len : ℕ) (n : Node) (rest : List Node) (a : Bool) → n.slot < count → Below count (slot_found (find (is_of len) rest))
    → Below count (slot_found (find (is_of len) (if a then n ∷ rest else [])))
found_turn count len n rest true h k = found_pick count n (find (is_of len) rest) (is_of len n) h k
found_turn count len n rest false h k = tt

found_from : (trie : Trie) (image : List ℕ) (key len left : ℕ) (at : Option ℕ) → Below trie.count at
    → Below trie.count (slot_found (find (is_of len) (path_from trie image key left at)))
found_from trie image key len zero at b = tt
found_from trie image key len (suc left) None b = tt
found_from trie image key len (suc left) (Some slot) b =
    let n : Node = node_at trie image slot in
    found_turn trie.count len n (path_from trie image key left (child_at trie image slot (bit key n.len))) (agrees n.key key n.len) b
    (found_from trie image key len left (child_at trie image slot (bit key n.len)) (slot_below trie.count _))

pub found_below_count : (trie : Trie) (image : List ℕ) (key len : ℕ) → Below trie.count (find_of trie image key len)
unfolding find_of path_of
found_below_count trie image key len = found_from trie image key len 129 (root_of trie image) (slot_below trie.count _)

visit_pick : (count : ℕ) (n : Node) (rest : List Node) (b : Bool) → n.slot < count → AllBelow count (map slot_in rest)
    → AllBelow count (map slot_in (cond b (n ∷ rest) rest))
visit_pick count n rest true h k = (h, k)
visit_pick count n rest false h k = k

visit_turn : (count : ℕ) (n : Node) (rest : List Node) (a : Bool) → n.slot < count → AllBelow count (map slot_in (filter is_marked rest))
    → AllBelow count (map slot_in (filter is_marked (if a then n ∷ rest else [])))
visit_turn count n rest true h k = visit_pick count n (filter is_marked rest) (is_marked n) h k
visit_turn count n rest false h k = tt

visit_from : (trie : Trie) (image : List ℕ) (key left : ℕ) (at : Option ℕ) → Below trie.count at
    → AllBelow trie.count (map slot_in (filter is_marked (path_from trie image key left at)))
visit_from trie image key zero at b = tt
visit_from trie image key (suc left) None b = tt
visit_from trie image key (suc left) (Some slot) b =
    let n : Node = node_at trie image slot in
    visit_turn trie.count n (path_from trie image key left (child_at trie image slot (bit key n.len))) (agrees n.key key n.len) b
    (visit_from trie image key left (child_at trie image slot (bit key n.len)) (slot_below trie.count _))

pub visit_below_count : (trie : Trie) (image : List ℕ) (key : ℕ) → AllBelow trie.count (visit_of trie image key)
unfolding visit_of path_of
visit_below_count trie image key = visit_from trie image key 129 (root_of trie image) (slot_below trie.count _)
