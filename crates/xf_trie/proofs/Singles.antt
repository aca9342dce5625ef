-- No two nodes of a tree have the same prefix.
use Rattle.std.proofs.Common.{◌≡◌, ℕ, ◌+◌, ◌<◌, ◌≤◌, Bool, List, [], ap, arith, cond, false, filter, length, not, refl, subst, true, ◌&&◌, ◌==◌, ◌∙◌, ◌∷◌}
use Rattle.std.proofs.Math.Bool.{and_comm}
use Rattle.std.proofs.lemmas.Bool.{eqb-true}
use Rattle.std.proofs.lemmas.Bool.Decides.{nat_tests}
use Rattle.std.proofs.lemmas.List.Filters.{length-filter_both}
use Rattle.xf_trie.specs.declared.trie.Node.{Node}
use Rattle.xf_trie.specs.Keys.{agrees}
use Rattle.xf_trie.specs.Nodes.{is_marked}
use Rattle.xf_trie.specs.Trees.{IsTree, Rises, Tree, holds, is_prefix, items_of, nodes_of}
use Rattle.xf_trie.proofs.Heights.{tree_rises}
use Rattle.xf_trie.proofs.Paths.{path_filter, tree_path}
use Rattle.xf_trie.proofs.Searches.{filter_swap}

abbrev len_is : ℕ → Node → Bool
len_is len node = node.len == len

eq_no : (m n : ℕ) → n < m → (m == n) ≡ false
eq_no m n h = grind (arith, nat_tests)

rises_none : (len least : ℕ) (xs : List Node) → Rises least xs → len < least → filter (len_is len) xs ≡ []
rises_none len least [] r h = refl
rises_none len least (x ∷ xs) r h =
    let a : least ≤ x.len = r.0 in
    ap (λ (b : Bool). cond b (x ∷ filter (len_is len) xs) (filter (len_is len) xs)) (eq_no x.len len (omega arith)) ∙ rises_none len (x.len + 1) xs r.1 (omega arith)

one_step : (len : ℕ) (x : Node) (xs : List Node) (b : Bool) → (x.len == len) ≡ b → (b ≡ true → filter (len_is len) xs ≡ []) → length (filter (len_is len) xs) ≤ 1
    → length (cond b (x ∷ filter (len_is len) xs) (filter (len_is len) xs)) ≤ 1
one_step len x xs true e f h = let g : length (filter (len_is len) xs) ≡ 0 = ap length (f refl) in omega arith
one_step len x xs false e f h = h

rises_one : (len least : ℕ) (xs : List Node) → Rises least xs → length (filter (len_is len) xs) ≤ 1
rises_one len least [] r = omega arith
rises_one len least (x ∷ xs) r =
    one_step len x xs (x.len == len) refl
    (λ e. let same : x.len ≡ len = eqb-true x.len len e in rises_none len (x.len + 1) xs r.1 (omega arith))
    (rises_one len (x.len + 1) xs r.1)

filter_step : (p q : Node → Bool) (x : Node) (xs : List Node) (b : Bool) → filter p (filter q xs) ≡ filter (λ y. q y && p y) xs
    → filter p (cond b (x ∷ filter q xs) (filter q xs)) ≡ cond (b && p x) (x ∷ filter (λ y. q y && p y) xs) (filter (λ y. q y && p y) xs)
filter_step p q x xs true e = ap (λ ys. cond (p x) (x ∷ ys) ys) e
filter_step p q x xs false e = e

filter_both : (p q : Node → Bool) (xs : List Node) → filter p (filter q xs) ≡ filter (λ y. q y && p y) xs
filter_both p q [] = refl
filter_both p q (x ∷ xs) = filter_step p q x xs (q x) (filter_both p q xs)

filter_same : (p q : Node → Bool) (xs : List Node) → ((x : Node) → p x ≡ q x) → filter p xs ≡ filter q xs
filter_same p q [] f = refl
filter_same p q (x ∷ xs) f = ap (λ (b : Bool). cond b (x ∷ filter p xs) (filter p xs)) (f x) ∙ ap (λ ys. cond (q x) (x ∷ ys) ys) (filter_same p q xs f)

prefix_test : (key len m : ℕ) (k : ℕ) (v : Bool) → (m == len) ≡ v → (agrees k key m && v) ≡ (v && agrees k key len)
prefix_test key len m k true e = and_comm (agrees k key m) true ∙ ap (λ n. agrees k key n) (eqb-true m len e)
prefix_test key len m k false e = and_comm (agrees k key m) false

pub one_prefix : (key len : ℕ) (t : Tree) → IsTree t → length (filter (is_prefix key len) (nodes_of t)) ≤ 1
one_prefix key len t w =
    subst (λ (xs : List Node). length xs ≤ 1)
    (ap (λ xs. filter (len_is len) xs) (path_filter key t w) ∙ filter_both (len_is len) (holds key) (nodes_of t)
    ∙ filter_same _ _ (nodes_of t) (λ x. prefix_test key len x.len x.key (x.len == len) refl))
    (rises_one len 0 (tree_path key t) (tree_rises key t w))

-- of the inserted prefixes at most one is this one
pub one_item : (key len : ℕ) (t : Tree) → IsTree t → length (filter (is_prefix key len) (items_of t)) ≤ 1
one_item key len t w =
    let these : List Node = filter (is_prefix key len) (nodes_of t) in
    let most : length (filter (is_prefix key len) (nodes_of t)) ≤ 1 = one_prefix key len t w in
    let swap : length (filter (is_prefix key len) (items_of t)) ≡ length (filter is_marked these) = ap length (filter_swap (is_prefix key len) is_marked (nodes_of t)) in
    let parts : length (filter is_marked these) + length (filter (λ x. not (is_marked x)) these) ≡ length these =
    length-filter_both is_marked (λ x. not (is_marked x)) (λ x. refl) these in
    omega arith
