-- A part none of whose words was written.
use Rattle.std.proofs.Common.{◌≡◌, ℕ, ◌+◌, ◌<◌, ◌≤◌, ◌||◌, Bool, true, cond, if◌then◌else◌, List, [], ◌∷◌, Option, None, is_some, refl, ap, sym, ◌∙◌, subst, arith, slice_index}
use Rattle.xf_chain.specs.declared.family.Family.{Family}
use Rattle.xf_chain.specs.Families.{chain_at}
use Rattle.xf_chain.specs.Lists.{IsChain}
use Rattle.xf_exact.specs.Parts.{is_in_exact}
use Rattle.xf_index.specs.Indexes.{AllAre, Indexed, is_number, picked}
use Rattle.xf_index.proofs.Stays.{indexed_apart}
use Rattle.xf_trie.specs.Nodes.{place_of}
use Rattle.xf_trie.proofs.WoodWords.{forest_stays}
use Rattle.xf_types.specs.declared.policy.Policy.{Policy}
use Rattle.xf_inexact.specs.declared.inexact.Inexact.{Inexact}
use Rattle.xf_inexact.specs.Holds.{HoldPart, HoldTrees, inexact_key}
use Rattle.xf_inexact.specs.Keys.{node_of}
use Rattle.xf_inexact.specs.Places.{Fits, chains_of, end_of, is_root, pool_of}
use Rattle.xf_inexact.proofs.Apart.{chains_lay, least_root, most_root}
use Rattle.xf_inexact.proofs.NodeLaws.{node_is}

-- keys that agree pick the same slots
picked_same : (one other : Policy → Option ℕ) (number : ℕ) (es : List (ℕ × Policy)) → ((p : Policy) → one p ≡ other p)
    → picked one number es ≡ picked other number es
picked_same one other number [] f = refl
picked_same one other number (e ∷ es) f =
    ap (λ o. cond (is_number number o) (e.0 ∷ picked one number es) (picked one number es)) (f e.1)
    ∙ ap (λ xs. cond (is_number number (other e.1)) (e.0 ∷ xs) xs) (picked_same one other number es f)

-- so an index by the one is an index by the other
pub indexed_same : (family : Family) (image : List ℕ) (one other : Policy → Option ℕ) (es : List (ℕ × Policy)) → ((p : Policy) → one p ≡ other p)
    → Indexed family image one es → Indexed family image other es
indexed_same family image one other es f is = record {
  chains = λ number n. subst (λ (xs : List ℕ). IsChain (chain_at family number) image xs) (picked_same one other number es f) (is.chains number n);
}

pub all_same : (one other : Policy → Bool) (es : List (ℕ × Policy)) → ((p : Policy) → one p ≡ other p) → AllAre one true es → AllAre other true es
all_same one other [] f a = tt
all_same one other (e ∷ es) f a = (sym (f e.1) ∙ a.0, all_same one other es f a.1)

trees_stay : (x : Inexact) (image words : List ℕ)
    → ((place : ℕ) → x.base ≤ place → place < end_of x → slice_index words place ≡ slice_index image place)
    → HoldTrees x image → HoldTrees x words
trees_stay x image words f h = record {
  trees = h.trees;
  free = h.free;
  forest = forest_stays (pool_of x) image words (is_root x) h.trees h.free
      (λ s k a b. f (place_of (pool_of x) s + k) (omega arith) (omega (arith, a, b)))
      (f (pool_of x).free (omega arith) (omega arith))
      (f ((pool_of x).free + 1) (omega arith) (omega arith))
      (λ r e. let m = most_root x r e in f r (least_root x r e) (omega (arith, m)))
      h.forest;
  whole = h.whole;
}

pub part_stays : (x : Inexact) (image words : List ℕ) (size : ℕ) (h4 h6 : ℕ × ℕ) (es : List (ℕ × Policy)) → Fits x size
    → ((place : ℕ) → x.base ≤ place → place < end_of x → slice_index words place ≡ slice_index image place)
    → HoldPart x image h4 h6 es → HoldPart x words h4 h6 es
unfolding trees_stay
part_stays x image words size h4 h6 es fits f h =
    let trees : HoldTrees x words = trees_stay x image words f h.trees in
    let same : (p : Policy) → node_of x image p ≡ node_of x words p =
    λ p. node_is x image p h.trees ∙ sym (node_is x words p (trees_stay x image words f h.trees)) in
    record {
      trees = trees;
      nodes = all_same (λ p. is_in_exact h4 h6 p || is_some (node_of x image p)) (λ p. is_in_exact h4 h6 p || is_some (node_of x words p)) es
          (λ p. ap (λ o. is_in_exact h4 h6 p || is_some o) (same p)) h.nodes;
      needed = h.needed;
      chains = indexed_same (chains_of x) words (inexact_key x image h4 h6) (inexact_key x words h4 h6) es
          (λ p. ap (λ (o : Option ℕ). if is_in_exact h4 h6 p then None else o) (same p))
          (indexed_apart (chains_of x) image words size (inexact_key x image h4 h6) es (chains_lay x size fits)
          (λ q a b. f q (omega (arith, a)) (omega (arith, b))) h.chains);
    }
