-- A node of a policy that leaves is needed by another one exactly where something is left below it.
use Rattle.std.proofs.Common.{◌≡◌, ℕ, ◌+◌, ◌<◌, ◌&&◌, ◌||◌, ◌==◌, Bool, true, false, not, List, [], ◌∷◌, None, Some, if◌then◌else◌, is_some, length, refl, ap, sym, ◌∙◌, subst, arith, eq-eqb, slice_index}
use Rattle.std.proofs.lemmas.Bool.{eqb-true}
use Rattle.xf_chain.specs.declared.chain.Chain.{Chain}
use Rattle.xf_chain.specs.Chains.{slot_of}
use Rattle.xf_chain.specs.Families.{chain_at}
use Rattle.xf_chain.specs.Lists.{Path}
use Rattle.xf_exact.specs.Parts.{is_in_exact}
use Rattle.xf_index.specs.Indexes.{is_number, picked}
use Rattle.xf_trie.specs.declared.trie.Node.{Node}
use Rattle.xf_trie.specs.Keys.{key_of}
use Rattle.xf_trie.specs.Nodes.{named_at}
use Rattle.xf_trie.specs.Trees.{Fork, Leaf, Stands, Tree, items_of, size_of}
use Rattle.xf_trie.proofs.Counts.{size_bound}
use Rattle.xf_types.specs.declared.policy.Policy.{Policy}
use Rattle.xf_inexact.specs.declared.inexact.Inexact.{Inexact}
use Rattle.xf_inexact.specs.Dropped.{head_place, names_one}
use Rattle.xf_inexact.specs.Holds.{AllNodes, HoldTrees, is_needed, is_own, node_in, policy_node}
use Rattle.xf_inexact.specs.Places.{below_root, chains_of, count_of, pool_of}
use Rattle.xf_inexact.proofs.Apart.{below_is}
use Rattle.xf_inexact.proofs.Kept.{items_owned}
use Rattle.xf_inexact.proofs.Leaving.{Leaving}
use Rattle.xf_inexact.proofs.Moved.{is_placed, tree_key}
use Rattle.xf_inexact.proofs.Needs.{any_more, any_never, any_same, has_slot, picked_any}
use Rattle.xf_inexact.proofs.Ranks.{Ranks, Standing, own_bin, own_cases, own_destination, own_none, own_source, ranks, standing}

no_node : (key len n : ℕ) (t : Tree) → t ≡ Leaf → node_in t key len ≡ Some n → false ≡ true
no_node key len n t e f = let g : node_in Leaf key len ≡ Some n = subst (λ (u : Tree). node_in u key len ≡ Some n) e f in absurd (cc)

-- a node below which nothing is stands for no policy but as a source
empty_own : (x : Inexact) (image : List ℕ) (m : ℕ) (q : Policy) (h : HoldTrees x image) (w : Standing x h.trees q)
    → ((e : ℕ) → h.forest.owner m ≡ below_root x e → h.forest.owner e < x.base + 64) → h.trees (below_root x m) ≡ Leaf → is_own x h.trees m q ≡ false
empty_own x image m q h w top leaf =
    own_none x h.trees m q w
    (λ b. let f : false ≡ true = no_node (key_of q.spec.sel.dst.addr) q.spec.sel.dst.len w.destination (h.trees (below_root x w.bin))
    (ap (λ (n : ℕ). h.trees (below_root x n)) (sym b) ∙ leaf) w.under in absurd (cc))
    (λ d. let f : false ≡ true = no_node (key_of q.spec.sel.src.addr) q.spec.sel.src.len w.source (h.trees (below_root x w.destination))
    (ap (λ (n : ℕ). h.trees (below_root x n)) (sym d) ∙ leaf) w.last in absurd (cc))
    (λ s. let r = ranks x image q h w in
    let u = r.below_bin in
    let t = top w.destination (ap h.forest.owner s ∙ r.below_destination) in absurd (omega (arith, t, u)))

-- where a policy needs a node of the tree below another one, it needs that one
above_own : (x : Inexact) (image : List ℕ) (m n : ℕ) (q : Policy) (h : HoldTrees x image) (w : Standing x h.trees q) → h.forest.owner n ≡ below_root x m
    → is_own x h.trees n q ≡ true → is_own x h.trees m q ≡ true
above_own x image m n q h w o f =
    let r = ranks x image q h w in
    let b1 = r.bucket in
    let d1 = r.below_bin in
    let s1 = r.below_destination in
    own_cases (is_own x h.trees m q ≡ true) x h.trees n q w f
    (λ e. let k : h.forest.owner n ≡ h.forest.owner w.bin = ap h.forest.owner e in absurd (omega (arith, b1, k, o)))
    (λ e. let k : h.forest.owner n ≡ h.forest.owner w.destination = ap h.forest.owner e in own_bin x h.trees m q w (omega (arith, d1, k, o)))
    (λ e. let k : h.forest.owner n ≡ h.forest.owner w.source = ap h.forest.owner e in own_destination x h.trees m q w (omega (arith, s1, k, o)))

never : (a b c : Bool) → (a || b) ≡ true → (b ≡ true → c ≡ false) → (not a && c) ≡ false
never true b c e f = refl
never false b c e f = f e

then_own : (a b c d : Bool) → (a || b) ≡ true → (not a && c) ≡ true → (b ≡ true → c ≡ true → d ≡ true) → (not a && d) ≡ true
then_own true b c d e f g = absurd (cc)
then_own false b c d e f g = g e f

or_not : (a b : Bool) → (a || b) ≡ true → a ≡ false → b ≡ true
or_not true b e f = absurd (cc)
or_not false b e f = e

-- some inserted prefix of a list that has one
head_of : (C : Type 0) (f g : ℕ → Bool) (xs : List Node) → 0 < length xs → AllNodes f xs → AllNodes g xs → ((n : ℕ) → f n ≡ true → g n ≡ true → C) → C
head_of C f g [] h a b k = absurd (omega (arith, h))
head_of C f g (y ∷ ys) h a b k = k y.slot a.0 b.0

-- where the tree below a node is empty, no policy needs the node
empty_needed : (x : Inexact) (image : List ℕ) (h4 h6 : ℕ × ℕ) (extra : ℕ → Bool) (es : List (ℕ × Policy)) (m : ℕ) (l : Leaving x image h4 h6 extra es)
    → ((e : ℕ) → l.trees.forest.owner m ≡ below_root x e → l.trees.forest.owner e < x.base + 64) → l.trees.trees (below_root x m) ≡ Leaf
    → is_needed x l.trees.trees h4 h6 es m ≡ false
empty_needed x image h4 h6 extra es m l top leaf =
    any_never (is_placed x l.trees.trees h4 h6) (λ p. not (is_in_exact h4 h6 p) && is_own x l.trees.trees m p) es l.nodes
    (λ p a. never (is_in_exact h4 h6 p) (is_some (policy_node x l.trees.trees p)) (is_own x l.trees.trees m p) a
    (λ e. empty_own x image m p l.trees (standing x l.trees.trees p e) top leaf))

-- where it isn't, some policy needs it
full_needed : (x : Inexact) (image : List ℕ) (h4 h6 : ℕ × ℕ) (extra : ℕ → Bool) (es : List (ℕ × Policy)) (m : ℕ) (l : Leaving x image h4 h6 extra es)
    → m < count_of x → ((n : ℕ) → l.trees.forest.owner n ≡ below_root x m → extra n ≡ false) → 0 < size_of (l.trees.trees (below_root x m))
    → is_needed x l.trees.trees h4 h6 es m ≡ true
full_needed x image h4 h6 extra es m l mc clear big =
    let root : ℕ = below_root x m in
    let b = size_bound (l.trees.trees (below_root x m)) (l.trees.forest.ordered (below_root x m) (below_is x m mc)) big in
    head_of (is_needed x l.trees.trees h4 h6 es m ≡ true) (λ n. extra n || is_needed x l.trees.trees h4 h6 es n) (λ n. l.trees.forest.owner n == below_root x m)
    (items_of (l.trees.trees (below_root x m))) (omega (arith, b))
    (l.needed (below_root x m) (below_is x m mc))
    (items_owned l.trees.forest.owner (below_root x m) (λ n. l.trees.forest.owner n == below_root x m) (l.trees.trees (below_root x m))
    (l.trees.forest.owned (below_root x m) (below_is x m mc)) (λ s e. eq-eqb (l.trees.forest.owner s) (below_root x m) e))
    (λ n a c. let o : l.trees.forest.owner n ≡ below_root x m = eqb-true (l.trees.forest.owner n) (below_root x m) c in
    any_more (is_placed x l.trees.trees h4 h6) (λ p. not (is_in_exact h4 h6 p) && is_own x l.trees.trees n p)
    (λ p. not (is_in_exact h4 h6 p) && is_own x l.trees.trees m p) es l.nodes
    (λ p d e. then_own (is_in_exact h4 h6 p) (is_some (policy_node x l.trees.trees p)) (is_own x l.trees.trees n p) (is_own x l.trees.trees m p) d e
    (λ f g. above_own x image m n p l.trees (standing x l.trees.trees p f) o g))
    (or_not (extra n) (is_needed x l.trees.trees h4 h6 es n) a (clear n o)))

-- a bin or a destination
pub root_needed : (x : Inexact) (image : List ℕ) (h4 h6 : ℕ × ℕ) (extra : ℕ → Bool) (es : List (ℕ × Policy)) (m : ℕ) (l : Leaving x image h4 h6 extra es)
    → m < count_of x → ((e : ℕ) → l.trees.forest.owner m ≡ below_root x e → l.trees.forest.owner e < x.base + 64)
    → ((n : ℕ) → l.trees.forest.owner n ≡ below_root x m → extra n ≡ false)
    → is_needed x l.trees.trees h4 h6 es m ≡ names_one image (below_root x m) (count_of x)
root_needed x image h4 h6 extra es m l mc top clear =
    turn (l.trees.trees (below_root x m)) refl (l.trees.forest.stands (below_root x m) (below_is x m mc))
  where
    turn : (t : Tree) → l.trees.trees (below_root x m) ≡ t → Stands (pool_of x) image (named_at (pool_of x) image (below_root x m)) t
        → is_needed x l.trees.trees h4 h6 es m ≡ names_one image (below_root x m) (count_of x)
    turn Leaf e s = empty_needed x image h4 h6 extra es m l top e ∙ sym (ap is_some s)
    turn (Fork node a b) e s =
        let k : size_of (l.trees.trees (below_root x m)) ≡ size_of (Fork node a b) = ap size_of e in
        full_needed x image h4 h6 extra es m l mc clear (omega (arith, k)) ∙ sym (ap is_some s.0)

path_names : (c : Chain) (image : List ℕ) (from : ℕ) (xs : List ℕ) → Path c image from xs → is_some (slot_of c.slots (slice_index image from)) ≡ has_slot xs
path_names c image from [] p = ap is_some p
path_names c image from (y ∷ ys) p = ap is_some p.0

-- a source
source_own : (x : Inexact) (image : List ℕ) (b d s : ℕ) (q : Policy) (h : HoldTrees x image) (w : Standing x h.trees q) → Ranks x h.forest.owner b d s
    → is_own x h.trees s q ≡ is_number s (policy_node x h.trees q)
source_own x image b d s q h w r =
    let u = ranks x image q h w in
    let r1 = r.below_bin in
    let r2 = r.below_destination in
    let u1 = u.bucket in
    let u2 = u.below_bin in
    own_source x h.trees s q w
    (λ e. let k : h.forest.owner s ≡ h.forest.owner w.bin = ap h.forest.owner e in absurd (omega (arith, k, r2, u1)))
    (λ e. let k : h.forest.owner s ≡ h.forest.owner w.destination = ap h.forest.owner e in
    let f : w.bin ≡ d = omega (arith, k, r2, u2) in
    let g : h.forest.owner w.bin ≡ h.forest.owner d = ap h.forest.owner f in absurd (omega (arith, g, r1, u1)))

pub head_needed : (x : Inexact) (image : List ℕ) (h4 h6 : ℕ × ℕ) (extra : ℕ → Bool) (es : List (ℕ × Policy)) (b d s : ℕ) (l : Leaving x image h4 h6 extra es)
    → s < count_of x → Ranks x l.trees.forest.owner b d s
    → is_needed x l.trees.trees h4 h6 es s ≡ names_one image (head_place x s) x.area.slots
head_needed x image h4 h6 extra es b d s l sc r =
    any_same (is_placed x l.trees.trees h4 h6) (λ p. not (is_in_exact h4 h6 p) && is_own x l.trees.trees s p)
    (λ p. is_number s (tree_key x l.trees.trees h4 h6 p)) es l.nodes (λ p a. turn p (is_in_exact h4 h6 p) a)
    ∙ sym (picked_any (tree_key x l.trees.trees h4 h6) s es)
    ∙ sym (path_names (chain_at (chains_of x) s) image (head_place x s) (picked (tree_key x l.trees.trees h4 h6) s es) (l.chains.chains s sc).path)
  where
    turn : (p : Policy) → (v : Bool) → (v || is_some (policy_node x l.trees.trees p)) ≡ true
        → (not v && is_own x l.trees.trees s p) ≡ is_number s (if v then None else policy_node x l.trees.trees p)
    turn p true e = refl
    turn p false e = source_own x image b d s p l.trees (standing x l.trees.trees p e) r
