-- Changes of the list that leave the part as it is.
use Rattle.std.proofs.Common.{◌≡◌, ℕ, ◌++◌, ◌&&◌, ◌||◌, not, Bool, true, if◌then◌else◌, List, ◌∷◌, Option, None, is_some, ap, sym, ◌∙◌, subst}
use Rattle.std.specs.List.{list_any}
use Rattle.xf_chain.specs.Families.{chain_at}
use Rattle.xf_chain.specs.Lists.{IsChain}
use Rattle.xf_exact.specs.Parts.{is_in_exact}
use Rattle.xf_index.specs.Indexes.{is_number, picked}
use Rattle.xf_index.proofs.Picks.{picked_skip}
use Rattle.xf_index.proofs.Stays.{indexed_changed}
use Rattle.xf_types.proofs.Decisions.{Decides-is_same}
use Rattle.xf_trie.specs.Trees.{Tree, items_of}
use Rattle.xf_types.specs.declared.network.Dir.{Dir}
use Rattle.xf_types.specs.declared.network.Mark.{Mark}
use Rattle.xf_types.specs.declared.network.Ptype.{Ptype}
use Rattle.xf_types.specs.declared.network.Selector.{Selector}
use Rattle.xf_types.specs.declared.policy.Policy.{Policy}
use Rattle.xf_types.specs.declared.policy.PolicySpec.{PolicySpec}
use Rattle.xf_types.specs.PolicyList.{AreSame, is_under}
use Rattle.xf_inexact.specs.declared.inexact.Inexact.{Inexact}
use Rattle.xf_inexact.specs.Holds.{HoldPart, inexact_key, is_needed, is_own}
use Rattle.xf_inexact.specs.Keys.{node_of, selector_node}
use Rattle.xf_inexact.specs.Places.{chains_of}
use Rattle.xf_inexact.proofs.GrowChains.{are_put}
use Rattle.xf_inexact.proofs.Kept.{all_more}
use Rattle.xf_inexact.proofs.Needs.{any_mid, are_mid}

-- a policy that the exact part takes needs no node
exact_needs : (x : Inexact) (trees : ℕ → Tree) (h4 h6 : ℕ × ℕ) (front back : List (ℕ × Policy)) (slot n : ℕ) (p : Policy) → is_in_exact h4 h6 p ≡ true
    → is_needed x trees h4 h6 (front ++ ((slot, p) ∷ back)) n ≡ is_needed x trees h4 h6 (front ++ back) n
exact_needs x trees h4 h6 front back slot n p e =
    any_mid (λ q. not (is_in_exact h4 h6 q) && is_own x trees n q) front back (slot, p)
    ∙ ap (λ (b : Bool). (not b && is_own x trees n p) || list_any (λ (d : ℕ × Policy). not (is_in_exact h4 h6 d.1) && is_own x trees n d.1) (front ++ back)) e

-- and stands in no chain
exact_picked : (x : Inexact) (image : List ℕ) (h4 h6 : ℕ × ℕ) (front back : List (ℕ × Policy)) (slot number : ℕ) (p : Policy) → is_in_exact h4 h6 p ≡ true
    → picked (inexact_key x image h4 h6) number (front ++ ((slot, p) ∷ back)) ≡ picked (inexact_key x image h4 h6) number (front ++ back)
exact_picked x image h4 h6 front back slot number p e =
    picked_skip (inexact_key x image h4 h6) number slot p front back (ap (λ (b : Bool). is_number number (if b then None else node_of x image p)) e)

pub exact_put : (x : Inexact) (image : List ℕ) (h4 h6 : ℕ × ℕ) (front back : List (ℕ × Policy)) (slot : ℕ) (p : Policy) → is_in_exact h4 h6 p ≡ true
    → HoldPart x image h4 h6 (front ++ back) → HoldPart x image h4 h6 (front ++ ((slot, p) ∷ back))
exact_put x image h4 h6 front back slot p e h = record {
  trees = h.trees;
  nodes = are_put (λ q. is_in_exact h4 h6 q || is_some (node_of x image q)) front back (slot, p) (ap (λ (b : Bool). b || is_some (node_of x image p)) e) h.nodes;
  needed = λ r at. all_more (is_needed x h.trees.trees h4 h6 (front ++ back)) (is_needed x h.trees.trees h4 h6 (front ++ ((slot, p) ∷ back))) (items_of (h.trees.trees r)) (h.needed r at)
      (λ n k. exact_needs x h.trees.trees h4 h6 front back slot n p e ∙ k);
  chains = record {
    chains = λ number n. subst (λ (xs : List ℕ). IsChain (chain_at (chains_of x) number) image xs)
        (sym (exact_picked x image h4 h6 front back slot number p e)) (h.chains.chains number n);
  };
}

pub exact_taken : (x : Inexact) (image : List ℕ) (h4 h6 : ℕ × ℕ) (front back : List (ℕ × Policy)) (slot : ℕ) (p : Policy) → is_in_exact h4 h6 p ≡ true
    → HoldPart x image h4 h6 (front ++ ((slot, p) ∷ back)) → HoldPart x image h4 h6 (front ++ back)
exact_taken x image h4 h6 front back slot p e h = record {
  trees = h.trees;
  nodes = (are_mid (λ q. is_in_exact h4 h6 q || is_some (node_of x image q)) true front back (slot, p) h.nodes).1;
  needed = λ r at. all_more (is_needed x h.trees.trees h4 h6 (front ++ ((slot, p) ∷ back))) (is_needed x h.trees.trees h4 h6 (front ++ back)) (items_of (h.trees.trees r)) (h.needed r at)
      (λ n k. sym (exact_needs x h.trees.trees h4 h6 front back slot n p e) ∙ k);
  chains = record {
    chains = λ number n. subst (λ (xs : List ℕ). IsChain (chain_at (chains_of x) number) image xs)
        (exact_picked x image h4 h6 front back slot number p e) (h.chains.chains number n);
  };
}

-- where a policy stands comes from its request
exact_same : (h4 h6 : ℕ × ℕ) (p q : Policy) → p.spec ≡ q.spec → is_in_exact h4 h6 p ≡ is_in_exact h4 h6 q
exact_same h4 h6 p q e = ap (λ (s : PolicySpec). is_in_exact h4 h6 (record p { spec = s })) e

node_same : (x : Inexact) (image : List ℕ) (p q : Policy) → p.spec ≡ q.spec → node_of x image p ≡ node_of x image q
node_same x image p q e = ap (λ (s : PolicySpec). node_of x image (record p { spec = s })) e

own_same : (x : Inexact) (trees : ℕ → Tree) (n : ℕ) (p q : Policy) → p.spec ≡ q.spec → is_own x trees n p ≡ is_own x trees n q
own_same x trees n p q e = ap (λ (s : PolicySpec). is_own x trees n (record p { spec = s })) e

changed_needs : (x : Inexact) (trees : ℕ → Tree) (h4 h6 : ℕ × ℕ) (front back : List (ℕ × Policy)) (slot n : ℕ) (p q : Policy) → p.spec ≡ q.spec
    → is_needed x trees h4 h6 (front ++ ((slot, p) ∷ back)) n ≡ is_needed x trees h4 h6 (front ++ ((slot, q) ∷ back)) n
changed_needs x trees h4 h6 front back slot n p q e =
    let rest : Bool = list_any (λ (d : ℕ × Policy). not (is_in_exact h4 h6 d.1) && is_own x trees n d.1) (front ++ back) in
    any_mid (λ r. not (is_in_exact h4 h6 r) && is_own x trees n r) front back (slot, p)
    ∙ ap (λ (b : Bool). (not b && is_own x trees n p) || rest) (exact_same h4 h6 p q e)
    ∙ ap (λ (b : Bool). (not (is_in_exact h4 h6 q) && b) || rest) (own_same x trees n p q e)
    ∙ sym (any_mid (λ r. not (is_in_exact h4 h6 r) && is_own x trees n r) front back (slot, q))

pub part_changed : (x : Inexact) (image : List ℕ) (h4 h6 : ℕ × ℕ) (front back : List (ℕ × Policy)) (slot : ℕ) (p q : Policy) → p.spec ≡ q.spec
    → HoldPart x image h4 h6 (front ++ ((slot, p) ∷ back)) → HoldPart x image h4 h6 (front ++ ((slot, q) ∷ back))
part_changed x image h4 h6 front back slot p q e h =
    let (own, others) = are_mid (λ r. is_in_exact h4 h6 r || is_some (node_of x image r)) true front back (slot, p) h.nodes in
    record {
      trees = h.trees;
      nodes = are_put (λ r. is_in_exact h4 h6 r || is_some (node_of x image r)) front back (slot, q)
          (sym (ap (λ (b : Bool). b || is_some (node_of x image p)) (exact_same h4 h6 p q e) ∙ ap (λ (o : Option ℕ). is_in_exact h4 h6 q || is_some o) (node_same x image p q e)) ∙ own) others;
      needed = λ r at. all_more (is_needed x h.trees.trees h4 h6 (front ++ ((slot, p) ∷ back))) (is_needed x h.trees.trees h4 h6 (front ++ ((slot, q) ∷ back))) (items_of (h.trees.trees r)) (h.needed r at)
          (λ n k. sym (changed_needs x h.trees.trees h4 h6 front back slot n p q e) ∙ k);
      chains = indexed_changed (chains_of x) image (inexact_key x image h4 h6) front back slot p q
          (ap (λ (b : Bool). if b then None else node_of x image p) (exact_same h4 h6 p q e) ∙ ap (λ (o : Option ℕ). if is_in_exact h4 h6 q then None else o) (node_same x image p q e)) h.chains;
    }

-- what is listed under a selector stands at the selector's node
pub under_node : (x : Inexact) (image : List ℕ) (dir : Dir) (ptype : Ptype) (sel : Selector) (mark : Mark) (if_id : ℕ) (p : Policy) → is_under dir ptype sel mark if_id p.spec ≡ true
    → node_of x image p ≡ selector_node x image dir ptype if_id sel
under_node x image dir ptype sel mark if_id p e =
    let asked = record p.spec { dir = dir; ptype = ptype; sel = sel; mark = mark; if_id = if_id } in
    let same : AreSame asked p.spec = (Decides-is_same asked p.spec).0 e in
    ap (λ d. selector_node x image d p.spec.ptype p.spec.if_id p.spec.sel) (sym same.dir)
    ∙ ap (λ t. selector_node x image dir t p.spec.if_id p.spec.sel) (sym same.ptype)
    ∙ ap (λ i. selector_node x image dir ptype i p.spec.sel) (sym same.if_id)
    ∙ ap (λ s. selector_node x image dir ptype if_id s) (sym same.sel)
