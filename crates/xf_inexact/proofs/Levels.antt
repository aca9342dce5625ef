-- A policy that applies to a flow stands at one of the nodes that are visited for it.
use Rattle.std.proofs.Common.{◌≡◌, ℕ, ◌<◌, ◌++◌, ◌&&◌, ◌||◌, ◌==◌, Bool, true, false, if◌then◌else◌, List, [], ◌∷◌, Option, None, Some, refl, ap, sym, ◌∙◌, subst, eq-eqb}
use Rattle.std.proofs.lemmas.Bool.{eqb-true}
use Rattle.xf_types.specs.declared.network.Addr.{Addr}
use Rattle.xf_types.specs.declared.network.Dir.{Dir}
use Rattle.xf_types.specs.declared.network.Flow.{Flow}
use Rattle.xf_types.specs.declared.network.Prefix.{Prefix}
use Rattle.xf_types.specs.declared.network.Ptype.{Ptype}
use Rattle.xf_types.specs.declared.policy.Policy.{Policy}
use Rattle.xf_types.specs.Address.{family_of, first_bits}
use Rattle.xf_types.specs.PolicyList.{applies}
use Rattle.xf_types.specs.Selection.{IsInPrefix}
use Rattle.xf_laws.specs.TestLaws.{Applies}
use Rattle.xf_laws.proofs.TestLemmas.{Decides-applies}
use Rattle.xf_trie.specs.Keys.{agrees, key_of}
use Rattle.xf_trie.specs.Nodes.{Below}
use Rattle.xf_trie.specs.Pools.{IsPrefixSet}
use Rattle.xf_trie.specs.Walks.{find_of, visit_of}
use Rattle.xf_trie.proofs.AddressBits.{key_holds}
use Rattle.xf_trie.proofs.WoodWords.{forest_set}
use Rattle.xf_inexact.specs.declared.inexact.Inexact.{Inexact}
use Rattle.xf_inexact.specs.Holds.{HoldTrees}
use Rattle.xf_inexact.specs.Keys.{bin_bucket, bin_key, bin_of, found_below, node_of, selector_node}
use Rattle.xf_inexact.specs.Places.{below_of, below_root, bins_of, count_of, is_root, pool_of}
use Rattle.xf_inexact.specs.Walks.{all_below, flow_bin, has, visited, visited_in}
use Rattle.xf_inexact.proofs.Apart.{below_is, trees_lay}
use Rattle.xf_inexact.proofs.Visited.{found_below_count, found_visited, has_back, has_front}

-- the tree below a node is a set of prefixes
below_set : (x : Inexact) (image : List ℕ) (node : ℕ) → HoldTrees x image → node < count_of x → IsPrefixSet (below_of x node) image
below_set x image node t h =
    forest_set (pool_of x) image (is_root x) t.trees t.free (below_root x node) (trees_lay x) t.forest (below_is x node h)

prefix_agrees : (addr : Addr) (prefix : Prefix) → IsInPrefix addr prefix → agrees (key_of prefix.addr) (key_of addr) prefix.len ≡ true
prefix_agrees addr prefix h =
    key_holds addr prefix.addr prefix.len h.family prefix.facts.fits
    ∙ ap (λ b. b && (first_bits prefix.addr prefix.len == first_bits addr prefix.len)) (eq-eqb (family_of prefix.addr) (family_of addr) h.family)
    ∙ eq-eqb (first_bits prefix.addr prefix.len) (first_bits addr prefix.len) h.bits

-- what is visited below one of some nodes is visited below all of them
has_below : (x : Inexact) (image : List ℕ) (key d node : ℕ) (nodes : List ℕ) → has d nodes ≡ true → has node (visit_of (below_of x d) image key) ≡ true
    → has node (all_below x image key nodes) ≡ true
has_below x image key d node [] h v = absurd (cc)
has_below x image key d node (n ∷ nodes) h v = turn (d == n) refl h (λ k. has_below x image key d node nodes k v)
  where
    turn : (b : Bool) → (d == n) ≡ b → (b || has d nodes) ≡ true
        → (has d nodes ≡ true → has node (all_below x image key nodes) ≡ true)
        → has node (visit_of (below_of x n) image key ++ all_below x image key nodes) ≡ true
    turn true q h k =
        has_front node (visit_of (below_of x n) image key) (all_below x image key nodes)
        (subst (λ (m : ℕ). has node (visit_of (below_of x m) image key) ≡ true) (eqb-true d n q) v)
    turn false q h k = has_back node (visit_of (below_of x n) image key) (all_below x image key nodes) (k h)

-- below a bin
in_destination : (x : Inexact) (image : List ℕ) (flow : Flow) (bin kd ld ks ls node : ℕ) (d : Option ℕ) → HoldTrees x image → bin < count_of x
    → agrees kd (key_of flow.dst) ld ≡ true → agrees ks (key_of flow.src) ls ≡ true → Below (count_of x) d
    → find_of (below_of x bin) image kd ld ≡ d → found_below x image d ks ls ≡ Some node
    → has node (all_below x image (key_of flow.src) (visit_of (below_of x bin) image (key_of flow.dst))) ≡ true
in_destination x image flow bin kd ld ks ls node None t h ed es b q f = absurd (cc)
in_destination x image flow bin kd ld ks ls node (Some d) t h ed es b q f =
    has_below x image (key_of flow.src) d node (visit_of (below_of x bin) image (key_of flow.dst))
    (found_visited (below_of x bin) image kd (key_of flow.dst) ld d (below_set x image bin t h) ed q)
    (found_visited (below_of x d) image ks (key_of flow.src) ls node (below_set x image d t b) es f)

in_bin : (x : Inexact) (image : List ℕ) (flow : Flow) (bin : Option ℕ) (kd ld ks ls node : ℕ) → HoldTrees x image → Below (count_of x) bin
    → agrees kd (key_of flow.dst) ld ≡ true → agrees ks (key_of flow.src) ls ≡ true
    → found_below x image (found_below x image bin kd ld) ks ls ≡ Some node
    → has node (visited_in x image flow bin) ≡ true
in_bin x image flow None kd ld ks ls node t b ed es f = absurd (cc)
in_bin x image flow (Some bin) kd ld ks ls node t b ed es f =
    in_destination x image flow bin kd ld ks ls node (find_of (below_of x bin) image kd ld) t b ed es
    (found_below_count (below_of x bin) image kd ld) refl f

pub bin_below : (x : Inexact) (image : List ℕ) (ptype : Ptype) (family : ℕ) (dir : Dir) (if_id : ℕ) → Below (count_of x) (bin_of x image ptype family dir if_id)
unfolding bin_of
bin_below x image ptype family dir if_id =
    found_below_count (bins_of x (bin_bucket ptype family dir if_id)) image (bin_key ptype family dir if_id) 128

pub flow_bin_below : (x : Inexact) (image : List ℕ) (ptype : Ptype) (flow : Flow) → Below (count_of x) (flow_bin x image ptype flow)
flow_bin_below x image ptype flow = turn (family_of flow.src == family_of flow.dst)
  where
    turn : (v : Bool) → Below (count_of x) (if v then bin_of x image ptype (family_of flow.dst) flow.dir flow.if_id else None)
    turn true = bin_below x image ptype (family_of flow.dst) flow.dir flow.if_id
    turn false = tt

-- the policy's bin is the flow's
same_bin : (x : Inexact) (image : List ℕ) (ptype : Ptype) (flow : Flow) (p : Policy) → Applies ptype flow p
    → bin_of x image p.spec.ptype (family_of p.spec.sel.dst.addr) p.spec.dir p.spec.if_id ≡ flow_bin x image ptype flow
same_bin x image ptype flow p a =
    ap (λ (t : Ptype). bin_of x image t (family_of p.spec.sel.dst.addr) p.spec.dir p.spec.if_id) a.kind
    ∙ ap (λ (f : ℕ). bin_of x image ptype f p.spec.dir p.spec.if_id) a.sel.dst.family
    ∙ ap (λ (d : Dir). bin_of x image ptype (family_of flow.dst) d p.spec.if_id) a.dir
    ∙ ap (λ (i : ℕ). bin_of x image ptype (family_of flow.dst) flow.dir i) a.if_id
    ∙ sym (ap (λ (v : Bool). if v then bin_of x image ptype (family_of flow.dst) flow.dir flow.if_id else None)
    (eq-eqb (family_of flow.src) (family_of flow.dst) (sym a.sel.src.family ∙ p.spec.sel.facts.one_family ∙ a.sel.dst.family)))

pub stands_visited : (x : Inexact) (image : List ℕ) (ptype : Ptype) (flow : Flow) (p : Policy) (node : ℕ) → HoldTrees x image
    → applies ptype flow p ≡ true → node_of x image p ≡ Some node → has node (visited x image ptype flow) ≡ true
unfolding selector_node
stands_visited x image ptype flow p node t e f =
    let a : Applies ptype flow p = (Decides-applies ptype flow p).0 e in
    in_bin x image flow (flow_bin x image ptype flow) (key_of p.spec.sel.dst.addr) p.spec.sel.dst.len (key_of p.spec.sel.src.addr) p.spec.sel.src.len node t
    (flow_bin_below x image ptype flow)
    (prefix_agrees flow.dst p.spec.sel.dst a.sel.dst) (prefix_agrees flow.src p.spec.sel.src a.sel.src)
    (sym (ap (λ (b : Option ℕ). found_below x image (found_below x image b (key_of p.spec.sel.dst.addr) p.spec.sel.dst.len) (key_of p.spec.sel.src.addr) p.spec.sel.src.len)
    (same_bin x image ptype flow p a)) ∙ f)
