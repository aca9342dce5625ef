-- A part from which a policy's slot left, and the part once none of its nodes is too many.
use Rattle.std.proofs.Common.{◌≡◌, ℕ, ◌+◌, ◌<◌, ◌&&◌, ◌||◌, ◌==◌, ◌++◌, Bool, true, false, not, List, ◌∷◌, Option, None, Some, if◌then◌else◌, is_some, length, refl, ap, sym, ◌∙◌, arith, eq-eqb, slice_index}
use Rattle.xf_chain.specs.Families.{Outside}
use Rattle.xf_chain.specs.Lists.{Apart}
use Rattle.xf_exact.specs.Parts.{is_in_exact, without_slot}
use Rattle.xf_exact.proofs.TurnLaws.{part_taken}
use Rattle.xf_image.specs.Placing.{before_in}
use Rattle.xf_index.specs.Indexes.{slots_in}
use Rattle.xf_index.proofs.Frames.{taken_outside}
use Rattle.xf_trie.specs.Nodes.{place_of}
use Rattle.xf_trie.specs.Trees.{Tree, items_of}
use Rattle.xf_trie.proofs.WoodWords.{forest_stays}
use Rattle.xf_types.specs.declared.policy.Policy.{Policy}
use Rattle.xf_inexact.specs.declared.inexact.Inexact.{Inexact}
use Rattle.xf_inexact.specs.Holds.{HoldPart, HoldTrees, inexact_key, is_needed, is_own, policy_node}
use Rattle.xf_inexact.specs.Keys.{node_of}
use Rattle.xf_inexact.specs.Places.{Fits, chains_of, count_of, is_root, pool_of}
use Rattle.xf_inexact.proofs.Apart.{chains_lay, root_outside}
use Rattle.xf_inexact.proofs.DropFrames.{before_below}
use Rattle.xf_inexact.proofs.Kept.{all_more}
use Rattle.xf_inexact.proofs.Leaving.{Leaving}
use Rattle.xf_inexact.proofs.Moved.{is_placed, tree_key}
use Rattle.xf_inexact.proofs.Needs.{any_mid, are_mid}
use Rattle.xf_inexact.proofs.NodeLaws.{node_is}
use Rattle.xf_inexact.proofs.Ranks.{Standing, own_cases}
use Rattle.xf_inexact.proofs.Staying.{all_same, indexed_same}

-- the trees after a slot left a chain
unfoldable pub trees_unlinked : (x : Inexact) (image : List ℕ) (node slot : ℕ) → Fits x (length image) → node < count_of x → HoldTrees x image
    → HoldTrees x (without_slot image (chains_of x) (Some node) slot)
trees_unlinked x image node slot fits nc h =
    let same : (q : ℕ) → Outside (chains_of x) q → slice_index (without_slot image (chains_of x) (Some node) slot) q ≡ slice_index image q =
    λ q o. taken_outside (chains_of x) image (length image) (Some node) (before_in image slot (chains_of x) (Some node)) slot q (chains_lay x (length image) fits) nc
    (before_below image slot (chains_of x) (Some node)) o in
    record {
      trees = h.trees;
      free = h.free;
      forest = forest_stays (pool_of x) image (without_slot image (chains_of x) (Some node) slot) (is_root x) h.trees h.free
          (λ s k a b. same (place_of (pool_of x) s + k) (λ c. omega arith))
          (same (pool_of x).free (λ c. omega arith))
          (same ((pool_of x).free + 1) (λ c. omega arith))
          (λ r e. same r (root_outside x r e))
          h.forest;
      whole = h.whole;
    }

pub split : (v o c e : Bool) → ((not v && o) || c) ≡ true → (o ≡ true → e ≡ true) → (e || c) ≡ true
split true o true true h f = refl
split true o true false h f = refl
split true o false e h f = absurd (cc)
split false true c e h f = ap (λ b. b || c) (f refl)
split false false true true h f = refl
split false false true false h f = refl
split false false false e h f = absurd (cc)

second : (a b : Bool) → b ≡ true → (a || b) ≡ true
second true b e = refl
second false b e = e

-- a policy's own nodes
pub own_three : (x : Inexact) (trees : ℕ → Tree) (n : ℕ) (p : Policy) (w : Standing x trees p) → is_own x trees n p ≡ true
    → ((n == w.source) || ((n == w.destination) || ((n == w.bin) || false))) ≡ true
own_three x trees n p w e =
    own_cases (((n == w.source) || ((n == w.destination) || ((n == w.bin) || false))) ≡ true) x trees n p w e
    (λ k. second (n == w.source) ((n == w.destination) || ((n == w.bin) || false)) (second (n == w.destination) ((n == w.bin) || false)
    (ap (λ b. b || false) (eq-eqb n w.bin k))))
    (λ k. second (n == w.source) ((n == w.destination) || ((n == w.bin) || false)) (ap (λ b. b || ((n == w.bin) || false)) (eq-eqb n w.destination k)))
    (λ k. ap (λ b. b || ((n == w.destination) || ((n == w.bin) || false))) (eq-eqb n w.source k))

-- once its slot left its chain, no other node than its own may be one too many
unfoldable pub unlinked_part : (x : Inexact) (image : List ℕ) (h4 h6 : ℕ × ℕ) (slot : ℕ) (p : Policy) (front back : List (ℕ × Policy)) (h : HoldPart x image h4 h6 (front ++ ((slot, p) ∷ back)))
    (w : Standing x h.trees.trees p) → Fits x (length image) → w.source < count_of x → is_in_exact h4 h6 p ≡ false → Apart (slots_in (front ++ ((slot, p) ∷ back)))
    → Leaving x (without_slot image (chains_of x) (Some w.source) slot) h4 h6 (λ n. (n == w.source) || ((n == w.destination) || ((n == w.bin) || false))) (front ++ back)
unfolding trees_unlinked
unlinked_part x image h4 h6 slot p front back h w fits sc e apart = record {
  trees = trees_unlinked x image w.source slot fits sc h.trees;
  nodes = all_same (λ q. is_in_exact h4 h6 q || is_some (node_of x image q)) (is_placed x h.trees.trees h4 h6) (front ++ back)
      (λ q. ap (λ o. is_in_exact h4 h6 q || is_some o) (node_is x image q h.trees))
      (are_mid (λ q. is_in_exact h4 h6 q || is_some (node_of x image q)) true front back (slot, p) h.nodes).1;
  needed = λ r g. all_more (is_needed x h.trees.trees h4 h6 (front ++ ((slot, p) ∷ back)))
      (λ n. ((n == w.source) || ((n == w.destination) || ((n == w.bin) || false))) || is_needed x h.trees.trees h4 h6 (front ++ back) n)
      (items_of (h.trees.trees r)) (h.needed r g)
      (λ n k. split (is_in_exact h4 h6 p) (is_own x h.trees.trees n p) (is_needed x h.trees.trees h4 h6 (front ++ back) n)
      ((n == w.source) || ((n == w.destination) || ((n == w.bin) || false)))
      (sym (any_mid (λ q. not (is_in_exact h4 h6 q) && is_own x h.trees.trees n q) front back (slot, p)) ∙ k)
      (λ o. own_three x h.trees.trees n p w o));
  chains = part_taken image (without_slot image (chains_of x) (Some w.source) slot) (length image) (chains_of x) (tree_key x h.trees.trees h4 h6) (Some w.source) slot p front back
      refl refl (chains_lay x (length image) fits) sc
      (ap (λ (b : Bool). if b then None else policy_node x h.trees.trees p) e ∙ w.source_is) apart
      (indexed_same (chains_of x) image (inexact_key x image h4 h6) (tree_key x h.trees.trees h4 h6) (front ++ ((slot, p) ∷ back))
      (λ q. ap (λ (o : Option ℕ). if is_in_exact h4 h6 q then None else o) (node_is x image q h.trees)) h.chains);
}

-- with no node too many the part is held
pub leaving_part : (x : Inexact) (image : List ℕ) (h4 h6 : ℕ × ℕ) (es : List (ℕ × Policy)) → Leaving x image h4 h6 (λ n. false) es → HoldPart x image h4 h6 es
leaving_part x image h4 h6 es l = record {
  trees = l.trees;
  nodes = all_same (is_placed x l.trees.trees h4 h6) (λ q. is_in_exact h4 h6 q || is_some (node_of x image q)) es
      (λ q. sym (ap (λ o. is_in_exact h4 h6 q || is_some o) (node_is x image q l.trees))) l.nodes;
  needed = l.needed;
  chains = indexed_same (chains_of x) image (tree_key x l.trees.trees h4 h6) (inexact_key x image h4 h6) es
      (λ q. sym (ap (λ (o : Option ℕ). if is_in_exact h4 h6 q then None else o) (node_is x image q l.trees))) l.chains;
}
