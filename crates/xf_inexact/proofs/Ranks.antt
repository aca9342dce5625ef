-- The levels of a policy's nodes, by the owners of nodes.
use Rattle.std.proofs.Common.{◌≡◌, ◌≢◌, ℕ, ◌+◌, ◌<◌, ◌==◌, ◌||◌, Bool, true, false, List, Option, None, Some, is_some, refl, ap, sym, ◌∙◌, subst, arith, eq-eqb}
use Rattle.std.proofs.lemmas.Bool.{eqb-true}
use Rattle.xf_index.specs.Indexes.{is_number}
use Rattle.xf_trie.specs.Keys.{key_of}
use Rattle.xf_trie.specs.Nodes.{Below}
use Rattle.xf_trie.specs.Trees.{Tree, is_prefix, items_of}
use Rattle.xf_types.specs.declared.policy.Policy.{Policy}
use Rattle.xf_types.specs.Address.{family_of}
use Rattle.xf_inexact.specs.declared.inexact.Inexact.{Inexact}
use Rattle.xf_inexact.specs.Holds.{HoldTrees, is_own, node_in, node_under, policy_bin, policy_destination, policy_node}
use Rattle.xf_inexact.specs.Keys.{bin_bucket, bin_key}
use Rattle.xf_inexact.specs.Places.{below_root, bucket_root, count_of, is_root, tree_at}
use Rattle.xf_inexact.proofs.Apart.{below_is, bucket_is}
use Rattle.xf_inexact.proofs.Kept.{found_all, items_owned}
use Rattle.xf_inexact.proofs.NodeLaws.{bucket_small, root_node}
use Rattle.xf_inexact.proofs.Visited.{found_below_count}

-- the owner of what is found in a tree is its root
pub in_owner : (x : Inexact) (image : List ℕ) (root key len n : ℕ) (h : HoldTrees x image) → is_root x root ≡ true → node_in (h.trees root) key len ≡ Some n
    → h.forest.owner n ≡ root
in_owner x image root key len n h e f =
    eqb-true (h.forest.owner n) root
    (found_all (λ s. h.forest.owner s == root) (is_prefix key len) (items_of (h.trees root)) n
    (items_owned h.forest.owner root (λ s. h.forest.owner s == root) (h.trees root) (h.forest.owned root e) (λ s k. eq-eqb (h.forest.owner s) root k)) f)

-- and it is one of the nodes
pub in_count : (x : Inexact) (image : List ℕ) (root key len n : ℕ) (h : HoldTrees x image) → is_root x root ≡ true → node_in (h.trees root) key len ≡ Some n
    → n < count_of x
in_count x image root key len n h e f =
    subst (λ (o : Option ℕ). Below (count_of x) o) (root_node x image root key len h e ∙ f) (found_below_count (tree_at x root) image key len)

-- The three nodes of a policy.
pub record Standing (x : Inexact) (trees : ℕ → Tree) (q : Policy) : Type 0 where
  pub bin : ℕ
  pub destination : ℕ
  pub source : ℕ
  pub bin_is : policy_bin x trees q ≡ Some bin
  pub under : node_in (trees (below_root x bin)) (key_of q.spec.sel.dst.addr) q.spec.sel.dst.len ≡ Some destination
  pub last : node_in (trees (below_root x destination)) (key_of q.spec.sel.src.addr) q.spec.sel.src.len ≡ Some source
  pub destination_is : policy_destination x trees q ≡ Some destination
  pub source_is : policy_node x trees q ≡ Some source

of_some : (o : Option ℕ) → is_some o ≡ true → (n : ℕ) × (o ≡ Some n)
of_some None e = absurd (cc)
of_some (Some n) e = (n, refl)

under_of : (x : Inexact) (trees : ℕ → Tree) (o : Option ℕ) (key len n : ℕ) → node_under x trees o key len ≡ Some n
    → (d : ℕ) × (o ≡ Some d) × (node_in (trees (below_root x d)) key len ≡ Some n)
under_of x trees None key len n e = absurd (cc)
under_of x trees (Some d) key len n e = (d, refl, e)

pub standing : (x : Inexact) (trees : ℕ → Tree) (q : Policy) → is_some (policy_node x trees q) ≡ true → Standing x trees q
standing x trees q e =
    let s = of_some (policy_node x trees q) e in
    let d = under_of x trees (policy_destination x trees q) (key_of q.spec.sel.src.addr) q.spec.sel.src.len s.0 s.1 in
    let b = under_of x trees (policy_bin x trees q) (key_of q.spec.sel.dst.addr) q.spec.sel.dst.len d.0 d.1 in
    record { bin = b.0; destination = d.0; source = s.0; bin_is = b.1; under = b.2; last = d.2; destination_is = d.1; source_is = s.1 }

-- A bin's owner is a bucket's root, a destination's the one below the bin, and a source's the one below the destination.
pub record Ranks (x : Inexact) (owner : ℕ → ℕ) (bin destination source : ℕ) : Type 0 where
  pub bucket : owner bin < x.base + 64
  pub below_bin : owner destination ≡ below_root x bin
  pub below_destination : owner source ≡ below_root x destination

pub ranks : (x : Inexact) (image : List ℕ) (q : Policy) (h : HoldTrees x image) (w : Standing x h.trees q) → Ranks x h.forest.owner w.bin w.destination w.source
ranks x image q h w =
    let bucket : ℕ = bin_bucket q.spec.ptype (family_of q.spec.sel.dst.addr) q.spec.dir q.spec.if_id in
    let key : ℕ = bin_key q.spec.ptype (family_of q.spec.sel.dst.addr) q.spec.dir q.spec.if_id in
    let small : bucket < 64 = bucket_small q.spec.ptype (family_of q.spec.sel.dst.addr) q.spec.dir q.spec.if_id in
    let b : h.forest.owner w.bin ≡ bucket_root x bucket = in_owner x image (bucket_root x bucket) key 128 w.bin h (bucket_is x bucket small) w.bin_is in
    let i : w.bin < count_of x = in_count x image (bucket_root x bucket) key 128 w.bin h (bucket_is x bucket small) w.bin_is in
    let j : w.destination < count_of x =
    in_count x image (below_root x w.bin) (key_of q.spec.sel.dst.addr) q.spec.sel.dst.len w.destination h (below_is x w.bin i) w.under in
    record {
      bucket = omega (arith, b, small);
      below_bin = in_owner x image (below_root x w.bin) (key_of q.spec.sel.dst.addr) q.spec.sel.dst.len w.destination h (below_is x w.bin i) w.under;
      below_destination = in_owner x image (below_root x w.destination) (key_of q.spec.sel.src.addr) q.spec.sel.src.len w.source h (below_is x w.destination j) w.last;
    }

-- which nodes are a policy's own
pub own_is : (x : Inexact) (trees : ℕ → Tree) (n : ℕ) (q : Policy) (w : Standing x trees q)
    → is_own x trees n q ≡ ((w.bin == n) || (w.destination == n) || (w.source == n))
own_is x trees n q w =
    ap (λ (o : Option ℕ). is_number n o || is_number n (policy_destination x trees q) || is_number n (policy_node x trees q)) w.bin_is
    ∙ ap (λ (o : Option ℕ). (w.bin == n) || is_number n o || is_number n (policy_node x trees q)) w.destination_is
    ∙ ap (λ (o : Option ℕ). (w.bin == n) || (w.destination == n) || is_number n o) w.source_is

or_three : (C : Type 0) (a b c : Bool) → (a || b || c) ≡ true → (a ≡ true → C) → (b ≡ true → C) → (c ≡ true → C) → C
or_three C true b c e f g h = f refl
or_three C false true c e f g h = g refl
or_three C false false true e f g h = h refl
or_three C false false false e f g h = absurd (cc)

pub own_cases : (C : Type 0) (x : Inexact) (trees : ℕ → Tree) (n : ℕ) (q : Policy) (w : Standing x trees q) → is_own x trees n q ≡ true
    → (n ≡ w.bin → C) → (n ≡ w.destination → C) → (n ≡ w.source → C) → C
own_cases C x trees n q w e f g h =
    or_three C (w.bin == n) (w.destination == n) (w.source == n) (sym (own_is x trees n q w) ∙ e)
    (λ k. f (sym (eqb-true w.bin n k))) (λ k. g (sym (eqb-true w.destination n k))) (λ k. h (sym (eqb-true w.source n k)))

not_or : (a b c : Bool) → (a ≡ true → false ≡ true) → (b ≡ true → false ≡ true) → (c ≡ true → false ≡ true) → (a || b || c) ≡ false
not_or true b c f g h = absurd (let k = f refl in cc)
not_or false true c f g h = absurd (let k = g refl in cc)
not_or false false true f g h = absurd (let k = h refl in cc)
not_or false false false f g h = refl

pub own_none : (x : Inexact) (trees : ℕ → Tree) (n : ℕ) (q : Policy) (w : Standing x trees q) → n ≢ w.bin → n ≢ w.destination → n ≢ w.source
    → is_own x trees n q ≡ false
own_none x trees n q w f g h =
    own_is x trees n q w
    ∙ not_or (w.bin == n) (w.destination == n) (w.source == n)
    (λ k. absurd (f (sym (eqb-true w.bin n k)))) (λ k. absurd (g (sym (eqb-true w.destination n k)))) (λ k. absurd (h (sym (eqb-true w.source n k))))

-- its bin, its destination and its source
pub own_bin : (x : Inexact) (trees : ℕ → Tree) (n : ℕ) (q : Policy) (w : Standing x trees q) → n ≡ w.bin → is_own x trees n q ≡ true
own_bin x trees n q w e =
    own_is x trees n q w ∙ ap (λ b. b || (w.destination == n) || (w.source == n)) (eq-eqb w.bin n (sym e))

or_middle : (a b c : Bool) → b ≡ true → (a || b || c) ≡ true
or_middle true b c e = refl
or_middle false true c e = refl
or_middle false false c e = absurd (cc)

pub own_destination : (x : Inexact) (trees : ℕ → Tree) (n : ℕ) (q : Policy) (w : Standing x trees q) → n ≡ w.destination → is_own x trees n q ≡ true
own_destination x trees n q w e =
    own_is x trees n q w ∙ or_middle (w.bin == n) (w.destination == n) (w.source == n) (eq-eqb w.destination n (sym e))

or_last : (a b c d : Bool) → (a ≡ true → false ≡ true) → (b ≡ true → false ≡ true) → c ≡ d → (a || b || c) ≡ d
or_last true b c d f g e = absurd (let k = f refl in cc)
or_last false true c d f g e = absurd (let k = g refl in cc)
or_last false false c d f g e = e

-- where a node is neither its bin nor its destination, it is its own where the policy stands at it
pub own_source : (x : Inexact) (trees : ℕ → Tree) (n : ℕ) (q : Policy) (w : Standing x trees q) → n ≢ w.bin → n ≢ w.destination
    → is_own x trees n q ≡ is_number n (policy_node x trees q)
own_source x trees n q w f g =
    own_is x trees n q w
    ∙ or_last (w.bin == n) (w.destination == n) (w.source == n) (is_number n (policy_node x trees q))
    (λ k. absurd (f (sym (eqb-true w.bin n k)))) (λ k. absurd (g (sym (eqb-true w.destination n k))))
    (sym (ap (λ (o : Option ℕ). is_number n o) w.source_is))
