-- The three prefixes of a policy go one after another, from the source up, where no other policy needs them.
use Rattle.std.proofs.Common.{◌≡◌, ◌≢◌, ℕ, ◌+◌, ◌<◌, ◌||◌, ◌==◌, Bool, true, false, List, Some, if◌then◌else◌, is_some, length, refl, ap, sym, ◌∙◌, subst, arith}
use Rattle.std.proofs.lemmas.Bool.{eqb-true}
use Rattle.xf_trie.specs.Keys.{key_of}
use Rattle.xf_trie.specs.Removals.{removed}
use Rattle.xf_trie.specs.Walks.{find_of}
use Rattle.xf_types.specs.declared.policy.Policy.{Policy}
use Rattle.xf_types.specs.Address.{family_of}
use Rattle.xf_inexact.specs.declared.inexact.Inexact.{Inexact}
use Rattle.xf_inexact.specs.Dropped.{bins_for, dropped, head_place, key_for, names_one}
use Rattle.xf_inexact.specs.Holds.{HoldTrees, is_needed, node_in, policy_bin}
use Rattle.xf_inexact.specs.Keys.{bin_bucket}
use Rattle.xf_inexact.specs.Places.{Fits, below_of, below_root, bucket_root, count_of, is_root, tree_at}
use Rattle.xf_inexact.proofs.Apart.{below_is, bucket_is}
use Rattle.xf_inexact.proofs.DropLevels.{head_needed, root_needed}
use Rattle.xf_inexact.proofs.Leaving.{Leaving, Step, step_goes, step_stays}
use Rattle.xf_inexact.proofs.NodeLaws.{bucket_small, root_node}
use Rattle.xf_inexact.proofs.Ranks.{Ranks, in_count, in_owner}

-- a node goes where nothing needs it
step : (x : Inexact) (image : List ℕ) (h4 h6 : ℕ × ℕ) (root key len m place count : ℕ) (rest : ℕ → Bool) (es : List (ℕ × Policy))
    (l : Leaving x image h4 h6 (λ n. (n == m) || rest n) es) → Fits x (length image) → is_root x root ≡ true
    → node_in (l.trees.trees root) key len ≡ Some m → is_needed x l.trees.trees h4 h6 es m ≡ names_one image place count
    → Step x l.trees.trees (dropped (tree_at x root) image key len place count) h4 h6 m rest es
unfolding dropped
step x image h4 h6 root key len m place count rest es l fits er f e = turn (names_one image place count) e
  where
    turn : (v : Bool) → is_needed x l.trees.trees h4 h6 es m ≡ v
        → Step x l.trees.trees (if v then image else if is_some (find_of (tree_at x root) image key len) then removed (tree_at x root) image key len else image) h4 h6 m rest es
    turn true k = step_stays x image h4 h6 m rest es l k
    turn false k =
        subst (λ (b : Bool). Step x l.trees.trees (if b then removed (tree_at x root) image key len else image) h4 h6 m rest es)
        (sym (ap is_some (root_node x image root key len l.trees er ∙ f)))
        (step_goes x image h4 h6 root key len m rest es l fits er f k)

-- a bin's owner is a bucket's root
pub bin_owner : (x : Inexact) (image : List ℕ) (p : Policy) (b : ℕ) (h : HoldTrees x image) → policy_bin x h.trees p ≡ Some b
    → (h.forest.owner b < x.base + 64) × (b < count_of x)
bin_owner x image p b h e =
    let bucket : ℕ = bin_bucket p.spec.ptype (family_of p.spec.sel.dst.addr) p.spec.dir p.spec.if_id in
    let small : bucket < 64 = bucket_small p.spec.ptype (family_of p.spec.sel.dst.addr) p.spec.dir p.spec.if_id in
    let o : h.forest.owner b ≡ bucket_root x bucket = in_owner x image (bucket_root x bucket) (key_for p) 128 b h (bucket_is x bucket small) e in
    (omega (arith, o, small), in_count x image (bucket_root x bucket) (key_for p) 128 b h (bucket_is x bucket small) e)

is_other : (n m : ℕ) → n ≢ m → (n == m) ≡ false
is_other n m h = turn (n == m) refl
  where
    turn : (v : Bool) → (n == m) ≡ v → v ≡ false
    turn true e = absurd (h (eqb-true n m e))
    turn false e = refl

neither : (a b : Bool) → a ≡ false → b ≡ false → (a || (b || false)) ≡ false
neither true b e f = absurd (cc)
neither false true e f = absurd (cc)
neither false false e f = refl

-- the source
pub source_goes : (x : Inexact) (image : List ℕ) (h4 h6 : ℕ × ℕ) (p : Policy) (b d s : ℕ) (rest : ℕ → Bool) (es : List (ℕ × Policy))
    (l : Leaving x image h4 h6 (λ n. (n == s) || rest n) es) → Fits x (length image) → policy_bin x l.trees.trees p ≡ Some b
    → node_in (l.trees.trees (below_root x b)) (key_of p.spec.sel.dst.addr) p.spec.sel.dst.len ≡ Some d
    → node_in (l.trees.trees (below_root x d)) (key_of p.spec.sel.src.addr) p.spec.sel.src.len ≡ Some s
    → Step x l.trees.trees (dropped (below_of x d) image (key_of p.spec.sel.src.addr) p.spec.sel.src.len (head_place x s) x.area.slots) h4 h6 s rest es
source_goes x image h4 h6 p b d s rest es l fits eb ed es_ =
    let kd : ℕ = key_of p.spec.sel.dst.addr in
    let ks : ℕ = key_of p.spec.sel.src.addr in
    let ob = bin_owner x image p b l.trees eb in
    let dc : d < count_of x = in_count x image (below_root x b) kd p.spec.sel.dst.len d l.trees (below_is x b ob.1) ed in
    let sc : s < count_of x = in_count x image (below_root x d) ks p.spec.sel.src.len s l.trees (below_is x d dc) es_ in
    let r : Ranks x l.trees.forest.owner b d s = record {
      bucket = ob.0;
      below_bin = in_owner x image (below_root x b) kd p.spec.sel.dst.len d l.trees (below_is x b ob.1) ed;
      below_destination = in_owner x image (below_root x d) ks p.spec.sel.src.len s l.trees (below_is x d dc) es_;
    } in
    step x image h4 h6 (below_root x d) ks p.spec.sel.src.len s (head_place x s) x.area.slots rest es l fits (below_is x d dc) es_
    (head_needed x image h4 h6 (λ n. (n == s) || rest n) es b d s l sc r)

-- the destination
pub destination_goes : (x : Inexact) (image : List ℕ) (h4 h6 : ℕ × ℕ) (p : Policy) (b d : ℕ) (es : List (ℕ × Policy))
    (l : Leaving x image h4 h6 (λ n. (n == d) || ((n == b) || false)) es) → Fits x (length image) → policy_bin x l.trees.trees p ≡ Some b
    → node_in (l.trees.trees (below_root x b)) (key_of p.spec.sel.dst.addr) p.spec.sel.dst.len ≡ Some d
    → Step x l.trees.trees (dropped (below_of x b) image (key_of p.spec.sel.dst.addr) p.spec.sel.dst.len (below_root x d) (count_of x)) h4 h6 d (λ n. (n == b) || false) es
destination_goes x image h4 h6 p b d es l fits eb ed =
    let kd : ℕ = key_of p.spec.sel.dst.addr in
    let ob = bin_owner x image p b l.trees eb in
    let small = ob.0 in
    let od : l.trees.forest.owner d ≡ below_root x b = in_owner x image (below_root x b) kd p.spec.sel.dst.len d l.trees (below_is x b ob.1) ed in
    let dc : d < count_of x = in_count x image (below_root x b) kd p.spec.sel.dst.len d l.trees (below_is x b ob.1) ed in
    step x image h4 h6 (below_root x b) kd p.spec.sel.dst.len d (below_root x d) (count_of x) (λ n. (n == b) || false) es l fits (below_is x b ob.1) ed
    (root_needed x image h4 h6 (λ n. (n == d) || ((n == b) || false)) es d l dc
    (λ e o. let k : e ≡ b = omega (arith, o, od) in
    let g : l.trees.forest.owner e ≡ l.trees.forest.owner b = ap l.trees.forest.owner k in omega (arith, g, small))
    (λ n o. neither (n == d) (n == b)
    (is_other n d (λ e. let g : l.trees.forest.owner n ≡ l.trees.forest.owner d = ap l.trees.forest.owner e in
    let k : d ≡ b = omega (arith, g, o, od) in
    let j : l.trees.forest.owner d ≡ l.trees.forest.owner b = ap l.trees.forest.owner k in omega (arith, j, od, small)))
    (is_other n b (λ e. let g : l.trees.forest.owner n ≡ l.trees.forest.owner b = ap l.trees.forest.owner e in omega (arith, g, o, small)))))

alone : (a : Bool) → a ≡ false → (a || false) ≡ false
alone true e = absurd (cc)
alone false e = refl

-- the bin
pub bin_goes : (x : Inexact) (image : List ℕ) (h4 h6 : ℕ × ℕ) (p : Policy) (b : ℕ) (es : List (ℕ × Policy))
    (l : Leaving x image h4 h6 (λ n. (n == b) || false) es) → Fits x (length image) → policy_bin x l.trees.trees p ≡ Some b
    → Step x l.trees.trees (dropped (bins_for x p) image (key_for p) 128 (below_root x b) (count_of x)) h4 h6 b (λ n. false) es
bin_goes x image h4 h6 p b es l fits eb =
    let bucket : ℕ = bin_bucket p.spec.ptype (family_of p.spec.sel.dst.addr) p.spec.dir p.spec.if_id in
    let ob = bin_owner x image p b l.trees eb in
    let small = ob.0 in
    step x image h4 h6 (bucket_root x bucket) (key_for p) 128 b (below_root x b) (count_of x) (λ n. false) es l fits
    (bucket_is x bucket (bucket_small p.spec.ptype (family_of p.spec.sel.dst.addr) p.spec.dir p.spec.if_id)) eb
    (root_needed x image h4 h6 (λ n. (n == b) || false) es b l ob.1
    (λ e o. absurd (omega (arith, o, small)))
    (λ n o. alone (n == b) (is_other n b (λ e. let g : l.trees.forest.owner n ≡ l.trees.forest.owner b = ap l.trees.forest.owner e in omega (arith, g, o, small)))))
