-- A part without a policy.
use Rattle.std.proofs.Common.{◌≡◌, ◌≢◌, ℕ, ◌<◌, ◌||◌, ◌==◌, ◌++◌, Bool, true, false, List, ◌∷◌, Some, is_some, length, ap, sym, ◌∙◌, subst, arith}
use Rattle.xf_chain.specs.Lists.{Apart}
use Rattle.xf_exact.specs.Parts.{is_in_exact, without_slot}
use Rattle.xf_image.specs.Placing.{before_in}
use Rattle.xf_index.specs.Indexes.{slots_in}
use Rattle.xf_index.proofs.Frames.{taken_length}
use Rattle.xf_trie.specs.Keys.{key_of}
use Rattle.xf_trie.specs.Trees.{Tree}
use Rattle.xf_trie.specs.Walks.{find_of}
use Rattle.xf_types.specs.declared.policy.Policy.{Policy}
use Rattle.xf_types.specs.Address.{family_of}
use Rattle.xf_inexact.specs.declared.inexact.Inexact.{Inexact}
use Rattle.xf_inexact.specs.Dropped.{bin_in, bins_for, destination_in, dropped, dropped_destination, dropped_policy, dropped_source, head_place, key_for, source_in}
use Rattle.xf_inexact.specs.Holds.{HoldPart, HoldTrees, node_in, policy_bin}
use Rattle.xf_inexact.specs.Keys.{bin_bucket, node_of}
use Rattle.xf_inexact.specs.Places.{Fits, below_of, below_root, bucket_root, chains_of, count_of}
use Rattle.xf_inexact.proofs.Apart.{below_is}
use Rattle.xf_inexact.proofs.DropSizes.{dropped_size}
use Rattle.xf_inexact.proofs.DropSteps.{bin_goes, bin_owner, destination_goes, source_goes}
use Rattle.xf_inexact.proofs.Leaving.{Step}
use Rattle.xf_inexact.proofs.Needs.{are_mid}
use Rattle.xf_inexact.proofs.NodeLaws.{bin_is, node_is, root_node}
use Rattle.xf_inexact.proofs.Ranks.{Ranks, Standing, in_count, ranks, standing}
use Rattle.xf_inexact.proofs.Unlinked.{leaving_part, trees_unlinked, unlinked_part}

-- the words at each level
source_words : (x : Inexact) (image : List ℕ) (slot : ℕ) (p : Policy) (d s : ℕ) → find_of (below_of x d) image (key_of p.spec.sel.src.addr) p.spec.sel.src.len ≡ Some s
    → dropped_source x image slot p d
    ≡ dropped (below_of x d) (without_slot image (chains_of x) (Some s) slot) (key_of p.spec.sel.src.addr) p.spec.sel.src.len (head_place x s) x.area.slots
unfolding dropped_source
source_words x image slot p d s e = ap (λ o. source_in x image slot p d o) e

destination_words : (x : Inexact) (image : List ℕ) (slot : ℕ) (p : Policy) (b d : ℕ) → find_of (below_of x b) image (key_of p.spec.sel.dst.addr) p.spec.sel.dst.len ≡ Some d
    → dropped_destination x image slot p b
    ≡ dropped (below_of x b) (dropped_source x image slot p d) (key_of p.spec.sel.dst.addr) p.spec.sel.dst.len (below_root x d) (count_of x)
unfolding dropped_destination
destination_words x image slot p b d e = ap (λ o. destination_in x image slot p b o) e

policy_words : (x : Inexact) (image : List ℕ) (slot : ℕ) (p : Policy) (b : ℕ) (h : HoldTrees x image) → policy_bin x h.trees p ≡ Some b
    → dropped_policy x image slot p ≡ dropped (bins_for x p) (dropped_destination x image slot p b) (key_for p) 128 (below_root x b) (count_of x)
unfolding dropped_policy
policy_words x image slot p b h e =
    ap (λ o. bin_in x image slot p o) (bin_is x image p.spec.ptype (family_of p.spec.sel.dst.addr) p.spec.dir p.spec.if_id h ∙ e)

fits_same : (x : Inexact) (i j : List ℕ) → length j ≡ length i → Fits x (length i) → Fits x (length j)
fits_same x i j e f = subst (λ (n : ℕ). Fits x n) (sym e) f

-- the bin goes last
one_goes : (x : Inexact) (image : List ℕ) (h4 h6 : ℕ × ℕ) (p : Policy) (b d : ℕ) (trees : ℕ → Tree) (es : List (ℕ × Policy))
    → Step x trees image h4 h6 d (λ n. (n == b) || false) es → Fits x (length image) → b ≢ d → policy_bin x trees p ≡ Some b
    → HoldPart x (dropped (bins_for x p) image (key_for p) 128 (below_root x b) (count_of x)) h4 h6 es
one_goes x image h4 h6 p b d trees es q fits bd eb =
    let e : policy_bin x q.part.trees.trees p ≡ Some b =
    q.keeps (bucket_root x (bin_bucket p.spec.ptype (family_of p.spec.sel.dst.addr) p.spec.dir p.spec.if_id)) (key_for p) 128 b eb bd in
    leaving_part x (dropped (bins_for x p) image (key_for p) 128 (below_root x b) (count_of x)) h4 h6 es
    (bin_goes x image h4 h6 p b es q.part fits e).part

-- the destination before it
two_go : (x : Inexact) (image : List ℕ) (h4 h6 : ℕ × ℕ) (p : Policy) (b d s : ℕ) (trees : ℕ → Tree) (es : List (ℕ × Policy))
    → Step x trees image h4 h6 s (λ n. (n == d) || ((n == b) || false)) es → Fits x (length image) → b ≢ s → b ≢ d → d ≢ s
    → policy_bin x trees p ≡ Some b → node_in (trees (below_root x b)) (key_of p.spec.sel.dst.addr) p.spec.sel.dst.len ≡ Some d
    → HoldPart x (dropped (bins_for x p) (dropped (below_of x b) image (key_of p.spec.sel.dst.addr) p.spec.sel.dst.len (below_root x d) (count_of x))
    (key_for p) 128 (below_root x b) (count_of x)) h4 h6 es
two_go x image h4 h6 p b d s trees es q fits bs bd ds eb ed =
    let kd : ℕ = key_of p.spec.sel.dst.addr in
    let e : policy_bin x q.part.trees.trees p ≡ Some b =
    q.keeps (bucket_root x (bin_bucket p.spec.ptype (family_of p.spec.sel.dst.addr) p.spec.dir p.spec.if_id)) (key_for p) 128 b eb bs in
    let f : node_in (q.part.trees.trees (below_root x b)) kd p.spec.sel.dst.len ≡ Some d = q.keeps (below_root x b) kd p.spec.sel.dst.len d ed ds in
    one_goes x (dropped (below_of x b) image kd p.spec.sel.dst.len (below_root x d) (count_of x)) h4 h6 p b d q.part.trees.trees es
    (destination_goes x image h4 h6 p b d es q.part fits e f)
    (fits_same x image (dropped (below_of x b) image kd p.spec.sel.dst.len (below_root x d) (count_of x))
    (dropped_size (below_of x b) image kd p.spec.sel.dst.len (below_root x d) (count_of x)) fits) bd e

-- the words once all three were asked for
abbrev pub words_without : Inexact → List ℕ → ℕ → Policy → ℕ → ℕ → ℕ → List ℕ
words_without x image slot p b d s =
    dropped (bins_for x p) (dropped (below_of x b) (dropped (below_of x d) (without_slot image (chains_of x) (Some s) slot)
    (key_of p.spec.sel.src.addr) p.spec.sel.src.len (head_place x s) x.area.slots)
    (key_of p.spec.sel.dst.addr) p.spec.sel.dst.len (below_root x d) (count_of x)) (key_for p) 128 (below_root x b) (count_of x)

-- and the source first
three_go : (x : Inexact) (image : List ℕ) (h4 h6 : ℕ × ℕ) (slot : ℕ) (p : Policy) (front back : List (ℕ × Policy)) (h : HoldPart x image h4 h6 (front ++ ((slot, p) ∷ back)))
    (w : Standing x h.trees.trees p) → Fits x (length image) → w.source < count_of x
    → Ranks x h.trees.forest.owner w.bin w.destination w.source → is_in_exact h4 h6 p ≡ false → Apart (slots_in (front ++ ((slot, p) ∷ back)))
    → HoldPart x (words_without x image slot p w.bin w.destination w.source) h4 h6 (front ++ back)
unfolding unlinked_part trees_unlinked
three_go x image h4 h6 slot p front back h w fits sc r e apart =
    let ks : ℕ = key_of p.spec.sel.src.addr in
    let b : ℕ = w.bin in
    let d : ℕ = w.destination in
    let s : ℕ = w.source in
    let small = r.bucket in
    let od = r.below_bin in
    let os = r.below_destination in
    let bs : b ≢ s = λ k. let g : h.trees.forest.owner b ≡ h.trees.forest.owner s = ap h.trees.forest.owner k in omega (arith, g, small, os) in
    let bd : b ≢ d = λ k. let g : h.trees.forest.owner b ≡ h.trees.forest.owner d = ap h.trees.forest.owner k in omega (arith, g, small, od) in
    let ds : d ≢ s = λ k. let g : h.trees.forest.owner d ≡ h.trees.forest.owner s = ap h.trees.forest.owner k in bd (omega (arith, g, od, os)) in
    let words : List ℕ = without_slot image (chains_of x) (Some w.source) slot in
    let f : Fits x (length words) =
    fits_same x image words (taken_length (chains_of x) image (Some w.source) (before_in image slot (chains_of x) (Some w.source)) slot) fits in
    two_go x (dropped (below_of x d) words ks p.spec.sel.src.len (head_place x s) x.area.slots) h4 h6 p b d s h.trees.trees (front ++ back)
    (source_goes x words h4 h6 p b d s (λ n. (n == w.destination) || ((n == w.bin) || false)) (front ++ back)
    (unlinked_part x image h4 h6 slot p front back h w fits sc e apart) f w.bin_is w.under w.last)
    (fits_same x words (dropped (below_of x d) words ks p.spec.sel.src.len (head_place x s) x.area.slots)
    (dropped_size (below_of x d) words ks p.spec.sel.src.len (head_place x s) x.area.slots) f) bs bd ds w.bin_is w.under

-- these are the words after the policy left
words_are : (x : Inexact) (image : List ℕ) (slot : ℕ) (p : Policy) (h : HoldTrees x image) (w : Standing x h.trees p) → w.bin < count_of x → w.destination < count_of x
    → dropped_policy x image slot p ≡ words_without x image slot p w.bin w.destination w.source
words_are x image slot p h w bc dc =
    policy_words x image slot p w.bin h w.bin_is
    ∙ ap (λ i. dropped (bins_for x p) i (key_for p) 128 (below_root x w.bin) (count_of x))
    (destination_words x image slot p w.bin w.destination
    (root_node x image (below_root x w.bin) (key_of p.spec.sel.dst.addr) p.spec.sel.dst.len h (below_is x w.bin bc) ∙ w.under)
    ∙ ap (λ i. dropped (below_of x w.bin) i (key_of p.spec.sel.dst.addr) p.spec.sel.dst.len (below_root x w.destination) (count_of x))
    (source_words x image slot p w.destination w.source
    (root_node x image (below_root x w.destination) (key_of p.spec.sel.src.addr) p.spec.sel.src.len h (below_is x w.destination dc) ∙ w.last)))

part_without : (x : Inexact) (image : List ℕ) (h4 h6 : ℕ × ℕ) (slot : ℕ) (p : Policy) (front back : List (ℕ × Policy)) (h : HoldPart x image h4 h6 (front ++ ((slot, p) ∷ back)))
    (w : Standing x h.trees.trees p) → Fits x (length image) → is_in_exact h4 h6 p ≡ false → Apart (slots_in (front ++ ((slot, p) ∷ back)))
    → HoldPart x (dropped_policy x image slot p) h4 h6 (front ++ back)
part_without x image h4 h6 slot p front back h w fits e apart =
    let bc : w.bin < count_of x = (bin_owner x image p w.bin h.trees w.bin_is).1 in
    let dc : w.destination < count_of x =
    in_count x image (below_root x w.bin) (key_of p.spec.sel.dst.addr) p.spec.sel.dst.len w.destination h.trees (below_is x w.bin bc) w.under in
    let sc : w.source < count_of x =
    in_count x image (below_root x w.destination) (key_of p.spec.sel.src.addr) p.spec.sel.src.len w.source h.trees (below_is x w.destination dc) w.last in
    subst (λ (i : List ℕ). HoldPart x i h4 h6 (front ++ back)) {x = words_without x image slot p w.bin w.destination w.source}
    (sym (words_are x image slot p h.trees w bc dc)) (three_go x image h4 h6 slot p front back h w fits sc (ranks x image p h.trees w) e apart)

or_not : (a b : Bool) → (a || b) ≡ true → a ≡ false → b ≡ true
or_not true b e f = absurd (cc)
or_not false b e f = e

-- a policy that leaves leaves just the others
part_dropped : (x : Inexact) (image : List ℕ) (h4 h6 : ℕ × ℕ) (slot : ℕ) (p : Policy) (front back : List (ℕ × Policy)) → Fits x (length image)
    → is_in_exact h4 h6 p ≡ false → Apart (slots_in (front ++ ((slot, p) ∷ back)))
    → HoldPart x image h4 h6 (front ++ ((slot, p) ∷ back)) → HoldPart x (dropped_policy x image slot p) h4 h6 (front ++ back)
part_dropped x image h4 h6 slot p front back fits e apart h =
    let a : (is_in_exact h4 h6 p || is_some (node_of x image p)) ≡ true =
    (are_mid (λ q. is_in_exact h4 h6 q || is_some (node_of x image q)) true front back (slot, p) h.nodes).0 in
    part_without x image h4 h6 slot p front back h
    (standing x h.trees.trees p (sym (ap is_some (node_is x image p h.trees)) ∙ or_not (is_in_exact h4 h6 p) (is_some (node_of x image p)) a e))
    fits e apart

pub part_after : (x : Inexact) (image words : List ℕ) (size : ℕ) (h4 h6 : ℕ × ℕ) (slot : ℕ) (p : Policy) (front back : List (ℕ × Policy))
    → words ≡ dropped_policy x image slot p → length image ≡ size → Fits x size
    → is_in_exact h4 h6 p ≡ false → Apart (slots_in (front ++ ((slot, p) ∷ back)))
    → HoldPart x image h4 h6 (front ++ ((slot, p) ∷ back)) → HoldPart x words h4 h6 (front ++ back)
part_after x image words size h4 h6 slot p front back w n fits e apart h =
    subst (λ (i : List ℕ). HoldPart x i h4 h6 (front ++ back)) (sym w)
    (part_dropped x image h4 h6 slot p front back (subst (λ (k : ℕ). Fits x k) (sym n) fits) e apart h)
