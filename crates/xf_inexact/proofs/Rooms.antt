-- How many nodes are free: all but six for each policy of this part.
use Rattle.std.proofs.Common.{◌≡◌, ℕ, zero, suc, ◌+◌, ◌*◌, ◌<◌, ◌≤◌, ◌++◌, ◌&&◌, ◌||◌, ◌==◌, not, Bool, true, false, List, [], ◌∷◌, Option, None, Some, filter, length, length-append, map, refl, ap, arith}
use Rattle.std.proofs.lemmas.Bool.Decides.{nat_tests}
use Rattle.xf_exact.specs.Parts.{is_in_exact}
use Rattle.xf_index.specs.Indexes.{is_number}
use Rattle.xf_trie.specs.declared.trie.Node.{Node}
use Rattle.xf_trie.specs.Forests.{Owned}
use Rattle.xf_trie.specs.Nodes.{slot_in}
use Rattle.xf_trie.specs.Slots.{Distinct}
use Rattle.xf_trie.specs.Spares.{spare_of}
use Rattle.xf_trie.specs.Trees.{IsTree, Tree, items_of}
use Rattle.xf_trie.proofs.Owners.{not_same}
use Rattle.xf_types.specs.declared.policy.Policy.{Policy}
use Rattle.xf_inexact.specs.declared.inexact.Inexact.{Inexact}
use Rattle.xf_inexact.specs.Holds.{AllNodes, HoldPart, is_needed, is_own, nodes_from, policy_bin, policy_destination, policy_node}
use Rattle.xf_inexact.specs.Places.{count_of, is_root, pool_of}
use Rattle.xf_inexact.proofs.Loads.{slots_many, twice}
use Rattle.xf_inexact.proofs.Once.{count, count_both, one, one_small, owned_misses, seen_none, seen_once, stands_one}

-- how many of some nodes pass a test
abbrev pub passing : (ℕ → Bool) → List ℕ → ℕ
passing f [] = 0
passing f (x ∷ xs) = one (f x) + passing f xs

passing_both : (f : ℕ → Bool) (xs ys : List ℕ) → passing f (xs ++ ys) ≡ passing f xs + passing f ys
passing_both f [] ys = omega arith
passing_both f (x ∷ xs) ys = let h = passing_both f xs ys in omega (arith, h)

one_or : (a b : Bool) → one (a || b) ≤ one a + one b
one_or true b = omega arith
one_or false b = omega arith

either_passes : (f g : ℕ → Bool) (xs : List ℕ) → passing (λ n. f n || g n) xs ≤ passing f xs + passing g xs
either_passes f g [] = omega arith
either_passes f g (x ∷ xs) = let a = one_or (f x) (g x) in let h = either_passes f g xs in omega (arith, a, h)

none_passes : (xs : List ℕ) → passing (λ n. false) xs ≡ 0
none_passes [] = refl
none_passes (x ∷ xs) = let h = none_passes xs in omega (arith, h)

number_passes : (n : ℕ) (xs : List ℕ) → passing (λ x. is_number x (Some n)) xs ≡ count n xs
number_passes n [] = refl
number_passes n (x ∷ xs) = let h = number_passes n xs in omega (arith, h)

-- of nodes that come once, one has a number
one_passes : (o : Option ℕ) (xs : List ℕ) → ((n : ℕ) → count n xs ≤ 1) → passing (λ x. is_number x o) xs ≤ 1
one_passes None xs f = let h = none_passes xs in omega (arith, h)
one_passes (Some n) xs f = let h = number_passes n xs in let a = f n in omega (arith, a, h)

-- three are a policy's own
own_passes : (x : Inexact) (trees : ℕ → Tree) (p : Policy) (xs : List ℕ) → ((n : ℕ) → count n xs ≤ 1) → passing (λ n. is_own x trees n p) xs ≤ 3
own_passes x trees p xs f =
    let a = one_passes (policy_bin x trees p) xs f in
    let b = one_passes (policy_destination x trees p) xs f in
    let c = one_passes (policy_node x trees p) xs f in
    let d = either_passes (λ n. is_number n (policy_bin x trees p) || is_number n (policy_destination x trees p)) (λ n. is_number n (policy_node x trees p)) xs in
    let e = either_passes (λ n. is_number n (policy_bin x trees p)) (λ n. is_number n (policy_destination x trees p)) xs in
    omega (arith, a, b, c, d, e)

-- of a policy that the exact part takes none
own_taken : (exact : Bool) (f : ℕ → Bool) (xs : List ℕ) → passing f xs ≤ 3 → passing (λ n. not exact && f n) xs ≤ 3 * one (not exact)
own_taken true f xs h = let a = none_passes xs in omega (arith, a)
own_taken false f xs h = omega (arith, h)

-- the policies of this part
abbrev pub taken_here : ℕ × ℕ → ℕ × ℕ → List (ℕ × Policy) → List (ℕ × Policy)
taken_here h4 h6 es = filter (λ (e : ℕ × Policy). not (is_in_exact h4 h6 e.1)) es

fewer_here : (h4 h6 : ℕ × ℕ) (es : List (ℕ × Policy)) → length (taken_here h4 h6 es) ≤ length es
fewer_here h4 h6 [] = omega arith
fewer_here h4 h6 (e ∷ es) =
    let a = stands_one e (taken_here h4 h6 es) (not (is_in_exact h4 h6 e.1)) in
    let b = one_small (not (is_in_exact h4 h6 e.1)) in
    let c = fewer_here h4 h6 es in omega (arith, a, b, c)

-- so three for each of these are needed
needed_passes : (x : Inexact) (trees : ℕ → Tree) (h4 h6 : ℕ × ℕ) (es : List (ℕ × Policy)) (xs : List ℕ) → ((n : ℕ) → count n xs ≤ 1)
    → passing (is_needed x trees h4 h6 es) xs ≤ 3 * length (taken_here h4 h6 es)
needed_passes x trees h4 h6 [] xs f = let h = none_passes xs in omega (arith, h)
needed_passes x trees h4 h6 (e ∷ es) xs f =
    let a = either_passes (λ n. not (is_in_exact h4 h6 e.1) && is_own x trees n e.1) (is_needed x trees h4 h6 es) xs in
    let b = own_taken (is_in_exact h4 h6 e.1) (λ n. is_own x trees n e.1) xs (own_passes x trees e.1 xs f) in
    let c = stands_one e (taken_here h4 h6 es) (not (is_in_exact h4 h6 e.1)) in
    let d = needed_passes x trees h4 h6 es xs f in
    omega (arith, a, b, c, d)

-- all of them are
all_pass : (test : ℕ → Bool) (nodes : List Node) → AllNodes test nodes → passing test (map slot_in nodes) ≡ length nodes
all_pass test [] a = refl
all_pass test (n ∷ nodes) a = let h = all_pass test nodes a.1 in let e : one (test n.slot) ≡ 1 = ap one a.0 in omega (arith, h, e)

-- the nodes of the inserted prefixes at so many roots from a place on
abbrev pub slots_from : (ℕ → Tree) → ℕ → ℕ → List ℕ
slots_from trees root zero = []
slots_from trees root (suc more) = map slot_in (items_of (trees root)) ++ slots_from trees (root + 1) more

-- there are at most twice as many nodes
few_nodes : (trees : ℕ → Tree) (root more : ℕ) → ((r : ℕ) → root ≤ r → r < root + more → IsTree (trees r))
    → nodes_from trees root more ≤ 2 * length (slots_from trees root more)
few_nodes trees root zero f = omega arith
few_nodes trees root (suc more) f =
    let a = twice (trees root) (f root (omega arith) (omega arith)) in
    let b = few_nodes trees (root + 1) more (λ r l m. f r (omega (arith, l)) (omega (arith, m))) in
    let c = slots_many (items_of (trees root)) in
    let d = length-append (map slot_in (items_of (trees root))) (slots_from trees (root + 1) more) in
    omega (arith, a, b, c, d)

-- each is needed
needed_from : (trees : ℕ → Tree) (test : ℕ → Bool) (root more : ℕ) → ((r : ℕ) → root ≤ r → r < root + more → AllNodes test (items_of (trees r)))
    → passing test (slots_from trees root more) ≡ length (slots_from trees root more)
needed_from trees test root zero f = refl
needed_from trees test root (suc more) f =
    let a = all_pass test (items_of (trees root)) (f root (omega arith) (omega arith)) in
    let b = needed_from trees test (root + 1) more (λ r l m. f r (omega (arith, l)) (omega (arith, m))) in
    let c = slots_many (items_of (trees root)) in
    let d = length-append (map slot_in (items_of (trees root))) (slots_from trees (root + 1) more) in
    let e = passing_both test (map slot_in (items_of (trees root))) (slots_from trees (root + 1) more) in
    omega (arith, a, b, c, d, e)

-- and comes once, in the tree of its owner
every_passes : (xs : List Node) → filter (λ (n : Node). true) xs ≡ xs
every_passes [] = refl
every_passes (x ∷ xs) = ap (λ ys. x ∷ ys) (every_passes xs)

slots_owner : (owner : ℕ → ℕ) (n root : ℕ) (t : Tree) → Distinct t → Owned owner root t → count n (map slot_in (items_of t)) ≤ one (owner n == root)
slots_owner owner n root t d o = turn (owner n == root) refl
  where
    same : count n (map slot_in (filter (λ (m : Node). true) (items_of t))) ≡ count n (map slot_in (items_of t))
    same = ap (λ (xs : List Node). count n (map slot_in xs)) (every_passes (items_of t))

    turn : (v : Bool) → (owner n == root) ≡ v → count n (map slot_in (items_of t)) ≤ one v
    turn true q = let a = seen_once n (λ m. true) t d in let e = same in omega (arith, a, e)
    turn false q = let a = seen_none n (λ m. true) t (owned_misses owner n root t (λ e. not_same (owner n) root e q) o) in let e = same in omega (arith, a, e)

-- how many of so many roots from a place on are a place
abbrev pub roots_of : ℕ → ℕ → ℕ → ℕ
roots_of place root zero = 0
roots_of place root (suc more) = one (place == root) + roots_of place (root + 1) more

roots_past : (place root more : ℕ) → place < root → roots_of place root more ≡ 0
roots_past place root zero h = refl
roots_past place root (suc more) h =
    let a : one (place == root) ≡ 0 = grind (arith, nat_tests) in
    let b = roots_past place (root + 1) more (omega (arith, h)) in omega (arith, a, b)

roots_one : (place root more : ℕ) → roots_of place root more ≤ 1
roots_one place root zero = omega arith
roots_one place root (suc more) = turn (place == root) refl (roots_one place (root + 1) more)
  where
    turn : (v : Bool) → (place == root) ≡ v → roots_of place (root + 1) more ≤ 1 → one v + roots_of place (root + 1) more ≤ 1
    turn true q h =
        let l : place < root + 1 = grind (arith, nat_tests) in
        let a = roots_past place (root + 1) more l in omega (arith, a)
    turn false q h = omega (arith, h)

slots_once : (owner : ℕ → ℕ) (trees : ℕ → Tree) (n root more : ℕ) → ((r : ℕ) → root ≤ r → r < root + more → Distinct (trees r) × Owned owner r (trees r))
    → count n (slots_from trees root more) ≤ roots_of (owner n) root more
slots_once owner trees n root zero f = omega arith
slots_once owner trees n root (suc more) f =
    let here = f root (omega arith) (omega arith) in
    let a = slots_owner owner n root (trees root) here.0 here.1 in
    let b = slots_once owner trees n (root + 1) more (λ r l m. f r (omega (arith, l)) (omega (arith, m))) in
    let c = count_both n (map slot_in (items_of (trees root))) (slots_from trees (root + 1) more) in
    omega (arith, a, b, c)

root_is : (x : Inexact) (root : ℕ) → x.base ≤ root → root < x.base + (64 + count_of x) → is_root x root ≡ true
root_is x root l m = grind (arith, nat_tests)

-- all nodes are free but six for each policy of this part
pub others_free : (x : Inexact) (image : List ℕ) (h4 h6 : ℕ × ℕ) (es : List (ℕ × Policy)) (h : HoldPart x image h4 h6 es)
    → count_of x ≤ length h.trees.free + 6 * length (taken_here h4 h6 es)
others_free x image h4 h6 es h =
    let trees : ℕ → Tree = h.trees.trees in
    let slots : List ℕ = slots_from trees x.base (64 + count_of x) in
    let once : (n : ℕ) → count n slots ≤ 1 = λ n.
    let a = slots_once h.trees.forest.owner trees n x.base (64 + count_of x)
    (λ r b c. (h.trees.forest.once r (root_is x r b c), h.trees.forest.owned r (root_is x r b c))) in
    let d = roots_one (h.trees.forest.owner n) x.base (64 + count_of x) in omega (arith, a, d) in
    let few = few_nodes trees x.base (64 + count_of x) (λ r b c. h.trees.forest.ordered r (root_is x r b c)) in
    let all = needed_from trees (is_needed x trees h4 h6 es) x.base (64 + count_of x) (λ r b c. h.needed r (root_is x r b c)) in
    let most = needed_passes x trees h4 h6 es slots once in
    let whole = h.trees.whole in
    omega (arith, few, all, most, whole)

-- so six are where fewer policies than slots are listed
pub six_free : (x : Inexact) (image : List ℕ) (h4 h6 : ℕ × ℕ) (es : List (ℕ × Policy)) (h : HoldPart x image h4 h6 es) → length es < x.area.slots
    → 6 ≤ length h.trees.free
six_free x image h4 h6 es h l =
    let a = others_free x image h4 h6 es h in
    let b = fewer_here h4 h6 es in
    omega (arith, l, a, b)

-- the words tell how many
pub free_told : (x : Inexact) (image : List ℕ) (h4 h6 : ℕ × ℕ) (es : List (ℕ × Policy)) → HoldPart x image h4 h6 es
    → count_of x ≤ spare_of (pool_of x) image + 6 * length (taken_here h4 h6 es)
free_told x image h4 h6 es h =
    let a = others_free x image h4 h6 es h in
    let b = h.trees.forest.pool.count in
    omega (arith, a, b)
