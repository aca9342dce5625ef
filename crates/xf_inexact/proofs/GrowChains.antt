-- The part after a policy came in: its slot stands in the chain of its node.
use Rattle.std.proofs.Common.{◌≡◌, ℕ, ◌+◌, ◌<◌, ◌++◌, ◌||◌, Bool, true, false, not, cond, if◌then◌else◌, List, [], ◌∷◌, Option, None, Some, is_some, length, refl, ap, sym, ◌∙◌, arith, slice_index}
use Rattle.xf_chain.specs.Chains.{slots_of}
use Rattle.xf_chain.specs.Families.{IsOf, Outside, chain_at, last_while}
use Rattle.xf_chain.specs.Lists.{Within, last_of}
use Rattle.xf_exact.specs.Parts.{is_in_exact}
use Rattle.xf_image.specs.Layout.{number_place, priority_place, end_of as policies_end}
use Rattle.xf_image.specs.Placing.{comes, place_in, stays_before}
use Rattle.xf_image.specs.Policies.{ColumnsStand}
use Rattle.xf_image.proofs.Bounds.{walk_within}
use Rattle.xf_image.proofs.Placed.{ranks}
use Rattle.xf_index.specs.Indexes.{AllAre, Indexed, picked_of}
use Rattle.xf_index.proofs.Stays.{indexed_apart}
use Rattle.xf_index.proofs.Walked.{last_walked}
use Rattle.xf_trie.specs.Nodes.{place_of}
use Rattle.xf_trie.specs.Trees.{items_of}
use Rattle.xf_trie.proofs.WoodWords.{forest_stays}
use Rattle.xf_types.specs.declared.policy.Policy.{Policy}
use Rattle.xf_types.specs.PolicyList.{comes_after}
use Rattle.xf_inexact.specs.declared.inexact.Inexact.{Inexact}
use Rattle.xf_inexact.specs.Grown.{source_grown, source_put}
use Rattle.xf_inexact.specs.Holds.{HoldPart, HoldTrees, inexact_key, is_needed}
use Rattle.xf_inexact.specs.Keys.{node_of}
use Rattle.xf_inexact.specs.Places.{Fits, chains_of, is_root, pool_of}
use Rattle.xf_inexact.proofs.Apart.{chain_is_beside, chains_lay, most_root, policy_is_beside}
use Rattle.xf_inexact.proofs.GrowFrames.{source_away}
use Rattle.xf_inexact.proofs.GrowNodes.{needed_new, needed_stays, node_stays}
use Rattle.xf_inexact.proofs.GrowParts.{PolicyGrows}
use Rattle.xf_inexact.proofs.Kept.{all_more}
use Rattle.xf_inexact.proofs.Needs.{are_more, indexed_kept}
use Rattle.xf_inexact.proofs.NodeLaws.{node_is}
use Rattle.xf_inexact.proofs.Staying.{indexed_same}

-- a chain's change leaves the trees
trees_chained : (x : Inexact) (image words : List ℕ) → ((q : ℕ) → Outside (chains_of x) q → slice_index words q ≡ slice_index image q) → HoldTrees x image → HoldTrees x words
trees_chained x image words f h = record {
  trees = h.trees;
  free = h.free;
  forest = forest_stays (pool_of x) image words (is_root x) h.trees h.free
      (λ s k a b. f (place_of (pool_of x) s + k) (λ l. omega arith))
      (f (pool_of x).free (λ l. omega arith))
      (f ((pool_of x).free + 1) (λ l. omega arith))
      (λ r e. let m = most_root x r e in f r (λ l. omega (arith, m, l)))
      h.forest;
  whole = h.whole;
}

some_is : (o : Option ℕ) → is_some o ≡ true → (n : ℕ) × (o ≡ Some n)
some_is None e = absurd (cc)
some_is (Some n) e = (n, refl)

-- a policy's node stays where it has one
node_kept : (x : Inexact) (image : List ℕ) (p q : Policy) (h : HoldTrees x image) → PolicyGrows x image p h.trees → is_some (node_of x image q) ≡ true
    → node_of x image q ≡ node_of x (source_grown x image p) q
node_kept x image p q h g e =
    let (n, s) = some_is (node_of x image q) e in
    s ∙ sym (node_is x (source_grown x image p) q g.trees ∙ node_stays x h.trees g.trees.trees q g.finds n (sym (node_is x image q h) ∙ s))

-- the chain of a policy that is listed stays
key_kept : (x : Inexact) (image : List ℕ) (h4 h6 : ℕ × ℕ) (p q : Policy) (h : HoldTrees x image) → PolicyGrows x image p h.trees
    → (is_in_exact h4 h6 q || is_some (node_of x image q)) ≡ true → inexact_key x image h4 h6 q ≡ inexact_key x (source_grown x image p) h4 h6 q
key_kept x image h4 h6 p q h g e = turn (is_in_exact h4 h6 q) e
  where
    turn : (b : Bool) → (b || is_some (node_of x image q)) ≡ true
        → (if b then None else node_of x image q) ≡ (if b then None else node_of x (source_grown x image p) q)
    turn true f = refl
    turn false f = node_kept x image p q h g f

or_map : (a b c : Bool) → (b ≡ true → c ≡ true) → (a || b) ≡ true → (a || c) ≡ true
or_map true b c f e = refl
or_map false b c f e = f e

-- it has a node, too
node_there : (x : Inexact) (image : List ℕ) (h4 h6 : ℕ × ℕ) (p q : Policy) (h : HoldTrees x image) → PolicyGrows x image p h.trees
    → (is_in_exact h4 h6 q || is_some (node_of x image q)) ≡ true → (is_in_exact h4 h6 q || is_some (node_of x (source_grown x image p) q)) ≡ true
node_there x image h4 h6 p q h g e =
    or_map (is_in_exact h4 h6 q) (is_some (node_of x image q)) (is_some (node_of x (source_grown x image p) q))
    (λ f. ap (λ (o : Option ℕ). is_some o) (sym (node_kept x image p q h g f)) ∙ f) e

-- so the chains are an index by the new nodes, before the slot comes in
pub chains_grown : (x : Inexact) (image : List ℕ) (size : ℕ) (h4 h6 : ℕ × ℕ) (es : List (ℕ × Policy)) (p : Policy) (h : HoldPart x image h4 h6 es)
    → PolicyGrows x image p h.trees.trees → length image ≡ size → Fits x size
    → Indexed (chains_of x) (source_grown x image p) (inexact_key x (source_grown x image p) h4 h6) es
chains_grown x image size h4 h6 es p h g n fits =
    indexed_kept (chains_of x) (source_grown x image p) (λ q. is_in_exact h4 h6 q || is_some (node_of x image q)) (inexact_key x image h4 h6)
    (inexact_key x (source_grown x image p) h4 h6) es h.nodes (λ q e. key_kept x image h4 h6 p q h.trees g e)
    (indexed_apart (chains_of x) image (source_grown x image p) size (inexact_key x image h4 h6) es (chains_lay x size fits)
    (λ q a b. source_away x image size p q n fits (λ r e. chain_is_beside x r q e a b)) h.chains)

-- the chain of the policy that comes in
pub key_grown : (x : Inexact) (image : List ℕ) (h4 h6 : ℕ × ℕ) (p : Policy) (h : HoldTrees x image) (g : PolicyGrows x image p h.trees) → is_in_exact h4 h6 p ≡ false
    → inexact_key x (source_grown x image p) h4 h6 p ≡ source_put x image p
key_grown x image h4 h6 p h g e =
    ap (λ (b : Bool). if b then None else node_of x (source_grown x image p) p) e
    ∙ node_is x (source_grown x image p) p g.trees ∙ g.stands ∙ sym g.is

pub are_put : (test : Policy → Bool) (front back : List (ℕ × Policy)) (e : ℕ × Policy) → test e.1 ≡ true → AllAre test true (front ++ back)
    → AllAre test true (front ++ (e ∷ back))
are_put test [] back e h a = (h, a)
are_put test (y ∷ front) back e h a = (a.0, are_put test front back e h a.1)

-- the part holds with it once its slot is in its chain
pub part_grown : (x : Inexact) (image words : List ℕ) (h4 h6 : ℕ × ℕ) (front back : List (ℕ × Policy)) (slot : ℕ) (p : Policy) (h : HoldPart x image h4 h6 (front ++ back))
    → PolicyGrows x image p h.trees.trees → is_in_exact h4 h6 p ≡ false
    → ((q : ℕ) → Outside (chains_of x) q → slice_index words q ≡ slice_index (source_grown x image p) q)
    → Indexed (chains_of x) words (inexact_key x (source_grown x image p) h4 h6) (front ++ ((slot, p) ∷ back))
    → HoldPart x words h4 h6 (front ++ ((slot, p) ∷ back))
unfolding trees_chained
part_grown x image words h4 h6 front back slot p h g e f is =
    let grown : List ℕ = source_grown x image p in
    let trees : HoldTrees x words = trees_chained x grown words f g.trees in
    let same : (q : Policy) → node_of x grown q ≡ node_of x words q =
    λ q. node_is x grown q g.trees ∙ sym (node_is x words q (trees_chained x grown words f g.trees)) in
    let there : node_of x words p ≡ Some g.node = node_is x words p (trees_chained x grown words f g.trees) ∙ g.stands in
    record {
      trees = trees;
      nodes = are_put (λ q. is_in_exact h4 h6 q || is_some (node_of x words q)) front back (slot, p)
          (or_map (is_in_exact h4 h6 p) true (is_some (node_of x words p)) (λ k. ap (λ (o : Option ℕ). is_some o) there) (or_true (is_in_exact h4 h6 p)))
          (are_more (λ q. is_in_exact h4 h6 q || is_some (node_of x image q)) (λ q. is_in_exact h4 h6 q || is_some (node_of x words q)) (front ++ back) h.nodes
          (λ q k. or_map (is_in_exact h4 h6 q) (is_some (node_of x grown q)) (is_some (node_of x words q)) (λ j. ap (λ (o : Option ℕ). is_some o) (sym (same q)) ∙ j)
          (node_there x image h4 h6 p q h.trees g k)));
      needed = λ r at. g.all (is_needed x g.trees.trees h4 h6 (front ++ ((slot, p) ∷ back)))
          (λ n k. needed_new x g.trees.trees h4 h6 front back slot n p e k) r
          (all_more (is_needed x h.trees.trees h4 h6 (front ++ back)) (is_needed x g.trees.trees h4 h6 (front ++ ((slot, p) ∷ back))) (items_of (h.trees.trees r)) (h.needed r at)
          (λ n k. needed_stays x h.trees.trees g.trees.trees h4 h6 (λ q. is_in_exact h4 h6 q || is_some (node_of x image q)) front back (slot, p) n g.finds h.nodes k));
      chains = indexed_same (chains_of x) words (inexact_key x grown h4 h6) (inexact_key x words h4 h6) (front ++ ((slot, p) ∷ back))
          (λ q. ap (λ (o : Option ℕ). if is_in_exact h4 h6 q then None else o) (same q)) is;
    }
  where
    or_true : (b : Bool) → (b || true) ≡ true
    or_true true = refl
    or_true false = refl

-- a walk reads the ranks of slots alone, and these stay

last_same : (f g : ℕ → Bool) (n : ℕ) (last : Option ℕ) (xs : List ℕ) → Within n xs → ((s : ℕ) → s < n → f s ≡ g s) → last_while f last xs ≡ last_while g last xs
last_same f g n last [] w k = refl
last_same f g n last (s ∷ xs) w k =
    ap (λ (b : Bool). cond b (last_while f (Some s) xs) last) (k s w.0)
    ∙ ap (λ (o : Option ℕ). cond (g s) o last) (last_same f g n (Some s) xs w.1 k)

rank_same : (x : Inexact) (image : List ℕ) (size : ℕ) (p : Policy) (s : ℕ) → length image ≡ size → Fits x size → s < x.area.slots
    → stays_before x.area (source_grown x image p) p.spec.priority p.number s ≡ stays_before x.area image p.spec.priority p.number s
rank_same x image size p s n fits h =
    let out : (q : ℕ) → q < policies_end x.area → slice_index (source_grown x image p) q ≡ slice_index image q =
    λ q k. source_away x image size p q n fits (λ r e. policy_is_beside x r q fits.places e k) in
    ap (λ (w : ℕ). not (comes w (slice_index (source_grown x image p) (number_place x.area s)) p.spec.priority p.number)) (out (priority_place x.area s) (omega (arith, h)))
    ∙ ap (λ (w : ℕ). not (comes (slice_index image (priority_place x.area s)) w p.spec.priority p.number)) (out (number_place x.area s) (omega (arith, h)))

-- so the walk ends at the last slot of those that aren't asked after the policy
pub place_grown : (x : Inexact) (image : List ℕ) (size : ℕ) (key : Policy → Option ℕ) (front back : List (ℕ × Policy)) (p : Policy) (o : Option ℕ)
    → length image ≡ size → Fits x size → IsOf (chains_of x) o → ColumnsStand x.area image (front ++ back)
    → AllAre (λ q. not (comes_after q p)) true front → AllAre (λ q. not (comes_after q p)) false back
    → Indexed (chains_of x) (source_grown x image p) key (front ++ back)
    → place_in x.area (source_grown x image p) p (chains_of x) o ≡ last_of (picked_of key o front)
place_grown x image size key front back p None n fits of s a b is = refl
place_grown x image size key front back p (Some number) n fits of s a b is =
    last_same (stays_before x.area (source_grown x image p) p.spec.priority p.number) (stays_before x.area image p.spec.priority p.number) x.area.slots None
    (slots_of (chain_at (chains_of x) number) (source_grown x image p)) (walk_within (chain_at (chains_of x) number) (source_grown x image p))
    (λ t k. rank_same x image size p t n fits k)
    ∙ last_walked (chains_of x) (source_grown x image p) key number (stays_before x.area image p.spec.priority p.number) (λ q. not (comes_after q p)) front back of
    (ranks x.area image p (front ++ back) s) a b is
