-- A policy at a node that is visited for a flow is of the flow's bin, and the flow's addresses are in its prefixes.
use Rattle.std.proofs.Common.{◌≡◌, ℕ, ◌<◌, ◌^◌, ◌++◌, ◌&&◌, ◌||◌, ◌==◌, Bool, true, false, if◌then◌else◌, List, [], ◌∷◌, Option, None, Some, refl, ap, sym, ◌∙◌, subst, eq-eqb, arith}
use Rattle.std.proofs.lemmas.Bool.{and_parts, eqb-true}
use Rattle.xf_trie.specs.declared.trie.Node.{Node}
use Rattle.xf_trie.specs.Keys.{agrees, key_of}
use Rattle.xf_trie.specs.Nodes.{Below, node_at}
use Rattle.xf_trie.specs.Trees.{holds, is_prefix}
use Rattle.xf_trie.specs.Walks.{find_of, visit_of}
use Rattle.xf_trie.proofs.AddressBits.{node_holds}
use Rattle.xf_trie.proofs.Agreeing.{agrees_sym, agrees_trans}
use Rattle.xf_types.specs.declared.network.Addr.{Addr}
use Rattle.xf_types.specs.declared.network.Dir.{Dir}
use Rattle.xf_types.specs.declared.network.Flow.{Flow}
use Rattle.xf_types.specs.declared.network.Ptype.{Ptype}
use Rattle.xf_types.specs.declared.policy.Policy.{Policy}
use Rattle.xf_types.specs.Address.{family_of}
use Rattle.xf_types.specs.Same.{dir_number, ptype_number, same_dir, same_ptype}
use Rattle.xf_types.specs.Selection.{in_prefix}
use Rattle.xf_inexact.specs.declared.inexact.Inexact.{Inexact}
use Rattle.xf_inexact.specs.Bounds.{is_around}
use Rattle.xf_inexact.specs.Holds.{HoldTrees}
use Rattle.xf_inexact.specs.KeyLaws.{AreBin}
use Rattle.xf_inexact.specs.Keys.{bin_bucket, bin_key, bin_of, found_below, node_of, selector_node}
use Rattle.xf_inexact.specs.Places.{below_of, below_root, bucket_root, count_of, pool_of}
use Rattle.xf_inexact.specs.Walks.{all_below, has, visited, visited_in}
use Rattle.xf_inexact.proofs.Apart.{below_is, bucket_is}
use Rattle.xf_inexact.proofs.BinKeys.{key_one}
use Rattle.xf_inexact.proofs.Levels.{bin_below}
use Rattle.xf_inexact.proofs.NodeLaws.{bucket_small}
use Rattle.xf_inexact.proofs.Visited.{AllBelow, found_below_count, visit_below_count}
use Rattle.xf_inexact.proofs.AtNodes.{IsAt, found_at, visited_at}

-- a node of two lists is of one of them
has_one : (P : Type 0) (slot : ℕ) (xs ys : List ℕ) → has slot (xs ++ ys) ≡ true → (has slot xs ≡ true → P) → (has slot ys ≡ true → P) → P
has_one P slot [] ys h f g = g h
has_one P slot (x ∷ xs) ys h f g = turn (slot == x) f h (λ k l. has_one P slot xs ys k l g)
  where
    turn : (v : Bool) → ((v || has slot xs) ≡ true → P) → (v || has slot (xs ++ ys)) ≡ true → (has slot (xs ++ ys) ≡ true → (has slot xs ≡ true → P) → P) → P
    turn true k h r = k refl
    turn false k h r = r h k

has_more : (a b : Bool) → b ≡ true → (a || b) ≡ true
has_more true b e = refl
has_more false b e = e

-- what is visited below some nodes is visited below one of them
below_one : (x : Inexact) (image : List ℕ) (key slot : ℕ) (P : Type 0) (nodes : List ℕ) → AllBelow (count_of x) nodes
    → has slot (all_below x image key nodes) ≡ true
    → ((d : ℕ) → d < count_of x → has d nodes ≡ true → has slot (visit_of (below_of x d) image key) ≡ true → P) → P
below_one x image key slot P [] b h k = absurd (cc)
below_one x image key slot P (d ∷ nodes) b h k =
    has_one P slot (visit_of (below_of x d) image key) (all_below x image key nodes) h
    (λ v. k d b.0 (ap (λ (a : Bool). a || has d nodes) (eq-eqb d d refl)) v)
    (λ r. below_one x image key slot P nodes b.1 r (λ m l q v. k m l (has_more (m == d) (has m nodes) q) v))

-- the way to a policy's node
found_two : (x : Inexact) (image : List ℕ) (P : Type 0) (bin : Option ℕ) (kd ld ks ls slot : ℕ) → Below (count_of x) bin
    → found_below x image (found_below x image bin kd ld) ks ls ≡ Some slot
    → ((b d : ℕ) → bin ≡ Some b → b < count_of x → d < count_of x → find_of (below_of x b) image kd ld ≡ Some d → find_of (below_of x d) image ks ls ≡ Some slot → P) → P
found_two x image P None kd ld ks ls slot l f k = absurd (cc)
found_two x image P (Some b) kd ld ks ls slot l f k = turn (find_of (below_of x b) image kd ld) refl (found_below_count (below_of x b) image kd ld) f
  where
    turn : (o : Option ℕ) → find_of (below_of x b) image kd ld ≡ o → Below (count_of x) o → found_below x image o ks ls ≡ Some slot → P
    turn None q n g = absurd (cc)
    turn (Some d) q n g = k b d refl l n q g

bin_at : (x : Inexact) (image : List ℕ) (ptype : Ptype) (addr : Addr) (dir : Dir) (if_id b : ℕ) (h : HoldTrees x image)
    → bin_of x image ptype (family_of addr) dir if_id ≡ Some b
    → is_prefix (bin_key ptype (family_of addr) dir if_id) 128 (node_at (pool_of x) image b) ≡ true
unfolding bin_of
bin_at x image ptype addr dir if_id b h f =
    let bucket : ℕ = bin_bucket ptype (family_of addr) dir if_id in
    let at = found_at x image (bucket_root x bucket) (bin_key ptype (family_of addr) dir if_id) 128 b h (bucket_is x bucket (bucket_small ptype (family_of addr) dir if_id)) f in
    at.passes

-- two keys of one node agree
one_key : (a b len : ℕ) (n : Node) → is_prefix a len n ≡ true → is_prefix b len n ≡ true → agrees a b len ≡ true
one_key a b len n p q =
    let (s, f) = and_parts (n.len == len) (agrees n.key a len) p in
    let (t, g) = and_parts (n.len == len) (agrees n.key b len) q in
    agrees_trans a n.key b len (agrees_sym n.key a len f) g

-- bins with one node are one
one_bin : (x : Inexact) (image : List ℕ) (ptype : Ptype) (flow : Flow) (p : Policy) (b : ℕ) → HoldTrees x image → p.spec.if_id < 2 ^ 32 → flow.if_id < 2 ^ 32
    → bin_of x image p.spec.ptype (family_of p.spec.sel.dst.addr) p.spec.dir p.spec.if_id ≡ Some b
    → bin_of x image ptype (family_of flow.dst) flow.dir flow.if_id ≡ Some b
    → AreBin p.spec.ptype ptype (family_of p.spec.sel.dst.addr) (family_of flow.dst) p.spec.dir flow.dir p.spec.if_id flow.if_id
one_bin x image ptype flow p b h i j e f =
    key_one p.spec.ptype ptype p.spec.sel.dst.addr flow.dst p.spec.dir flow.dir p.spec.if_id flow.if_id i j
    (one_key (bin_key p.spec.ptype (family_of p.spec.sel.dst.addr) p.spec.dir p.spec.if_id) (bin_key ptype (family_of flow.dst) flow.dir flow.if_id) 128
    (node_at (pool_of x) image b)
    (bin_at x image p.spec.ptype p.spec.sel.dst.addr p.spec.dir p.spec.if_id b h e) (bin_at x image ptype flow.dst flow.dir flow.if_id b h f))

all_five : (a b c d e : Bool) → a ≡ true → b ≡ true → c ≡ true → d ≡ true → e ≡ true → (a && b && c && d && e) ≡ true
all_five a b c d e p q r s t = grind arith

-- where all of this agrees
around : (ptype : Ptype) (flow : Flow) (p : Policy) (n m : Node)
    → AreBin p.spec.ptype ptype (family_of p.spec.sel.dst.addr) (family_of flow.dst) p.spec.dir flow.dir p.spec.if_id flow.if_id
    → family_of flow.src ≡ family_of flow.dst
    → is_prefix (key_of p.spec.sel.dst.addr) p.spec.sel.dst.len n ≡ true → holds (key_of flow.dst) n ≡ true
    → is_prefix (key_of p.spec.sel.src.addr) p.spec.sel.src.len m ≡ true → holds (key_of flow.src) m ≡ true
    → is_around ptype flow p ≡ true
around ptype flow p n m are one pn hn pm hm =
    let family : family_of p.spec.sel.src.addr ≡ family_of flow.src = p.spec.sel.facts.one_family ∙ are.family ∙ sym one in
    all_five (same_dir p.spec.dir flow.dir) (same_ptype p.spec.ptype ptype) (p.spec.if_id == flow.if_id) (in_prefix flow.src p.spec.sel.src) (in_prefix flow.dst p.spec.sel.dst)
    (eq-eqb (dir_number p.spec.dir) (dir_number flow.dir) are.dir) (eq-eqb (ptype_number p.spec.ptype) (ptype_number ptype) are.ptype)
    (eq-eqb p.spec.if_id flow.if_id are.if_id)
    (sym (node_holds flow.src p.spec.sel.src.addr p.spec.sel.src.len m family p.spec.sel.src.facts.fits pm) ∙ hm)
    (sym (node_holds flow.dst p.spec.sel.dst.addr p.spec.sel.dst.len n are.family p.spec.sel.dst.facts.fits pn) ∙ hn)

-- below one bin
around_in : (x : Inexact) (image : List ℕ) (ptype : Ptype) (flow : Flow) (p : Policy) (bin slot : ℕ) → HoldTrees x image → p.spec.if_id < 2 ^ 32 → flow.if_id < 2 ^ 32
    → family_of flow.src ≡ family_of flow.dst → bin_of x image ptype (family_of flow.dst) flow.dir flow.if_id ≡ Some bin → bin < count_of x
    → node_of x image p ≡ Some slot → has slot (visited_in x image flow (Some bin)) ≡ true → is_around ptype flow p ≡ true
unfolding selector_node
around_in x image ptype flow p bin slot h i j one e l f v =
    let kd : ℕ = key_of flow.dst in
    let ks : ℕ = key_of flow.src in
    let owner : ℕ → ℕ = h.forest.owner in
    below_one x image ks slot (is_around ptype flow p ≡ true) (visit_of (below_of x bin) image kd) (visit_below_count (below_of x bin) image kd) v (λ d2 ld2 hd2 v2.
    found_two x image (is_around ptype flow p ≡ true) (bin_of x image p.spec.ptype (family_of p.spec.sel.dst.addr) p.spec.dir p.spec.if_id)
    (key_of p.spec.sel.dst.addr) p.spec.sel.dst.len (key_of p.spec.sel.src.addr) p.spec.sel.src.len slot
    (bin_below x image p.spec.ptype (family_of p.spec.sel.dst.addr) p.spec.dir p.spec.if_id) f (λ b d eb lb ld fd fs.
    let source : IsAt x image owner (below_root x d) (is_prefix (key_of p.spec.sel.src.addr) p.spec.sel.src.len) slot =
    found_at x image (below_root x d) (key_of p.spec.sel.src.addr) p.spec.sel.src.len slot h (below_is x d ld) fs in
    let source2 : IsAt x image owner (below_root x d2) (holds ks) slot = visited_at x image (below_root x d2) ks slot h (below_is x d2 ld2) v2 in
    let same_d : d2 ≡ d = let a = source.owned in let c = source2.owned in omega (arith, a, c) in
    let destination : IsAt x image owner (below_root x b) (is_prefix (key_of p.spec.sel.dst.addr) p.spec.sel.dst.len) d =
    found_at x image (below_root x b) (key_of p.spec.sel.dst.addr) p.spec.sel.dst.len d h (below_is x b lb) fd in
    let destination2 : IsAt x image owner (below_root x bin) (holds kd) d =
    subst (λ (m : ℕ). IsAt x image owner (below_root x bin) (holds kd) m) same_d (visited_at x image (below_root x bin) kd d2 h (below_is x bin l) hd2) in
    let same_b : b ≡ bin = let a = destination.owned in let c = destination2.owned in omega (arith, a, c) in
    around ptype flow p (node_at (pool_of x) image d) (node_at (pool_of x) image slot)
    (one_bin x image ptype flow p bin h i j (eb ∙ ap (λ m. Some m) same_b) e) one destination.passes destination2.passes source.passes source2.passes))

pub visited_around : (x : Inexact) (image : List ℕ) (ptype : Ptype) (flow : Flow) (p : Policy) (slot : ℕ) → HoldTrees x image → p.spec.if_id < 2 ^ 32 → flow.if_id < 2 ^ 32
    → node_of x image p ≡ Some slot → has slot (visited x image ptype flow) ≡ true → is_around ptype flow p ≡ true
visited_around x image ptype flow p slot h i j f v =
    families (family_of flow.src == family_of flow.dst) refl v
  where
    bin : (o : Option ℕ) → bin_of x image ptype (family_of flow.dst) flow.dir flow.if_id ≡ o → Below (count_of x) o → family_of flow.src ≡ family_of flow.dst
        → has slot (visited_in x image flow o) ≡ true → is_around ptype flow p ≡ true
    bin None e l one g = absurd (cc)
    bin (Some b) e l one g = around_in x image ptype flow p b slot h i j one e l f g

    families : (b : Bool) → (family_of flow.src == family_of flow.dst) ≡ b
        → has slot (visited_in x image flow (if b then bin_of x image ptype (family_of flow.dst) flow.dir flow.if_id else None)) ≡ true
        → is_around ptype flow p ≡ true
    families true q g =
        bin (bin_of x image ptype (family_of flow.dst) flow.dir flow.if_id) refl (bin_below x image ptype (family_of flow.dst) flow.dir flow.if_id)
        (eqb-true (family_of flow.src) (family_of flow.dst) q) g
    families false q g = absurd (cc)
