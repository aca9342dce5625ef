-- No word of others is written where a policy leaves, whatever the words are.
use Rattle.std.proofs.Common.{◌≡◌, ℕ, ◌<◌, ◌≤◌, Bool, true, false, cond, List, [], ◌∷◌, Option, None, Some, if◌then◌else◌, is_some, length, refl, ap, sym, ◌∙◌, arith, slice_index}
use Rattle.xf_chain.specs.Chains.{Below, slots_of}
use Rattle.xf_chain.specs.declared.family.Family.{Family}
use Rattle.xf_chain.specs.Families.{chain_at, is_other, last_while}
use Rattle.xf_chain.specs.Lists.{Within}
use Rattle.xf_exact.specs.Parts.{without_slot}
use Rattle.xf_image.specs.Frames.{Frame}
use Rattle.xf_image.specs.Placing.{before_in}
use Rattle.xf_image.proofs.Bounds.{walk_within}
use Rattle.xf_index.proofs.Frames.{taken_outside}
use Rattle.xf_trie.specs.declared.trie.Trie.{Trie}
use Rattle.xf_trie.specs.Keys.{key_of}
use Rattle.xf_trie.specs.Pools.{Beside}
use Rattle.xf_trie.specs.Removals.{removed}
use Rattle.xf_trie.specs.Walks.{find_of}
use Rattle.xf_types.specs.declared.policy.Policy.{Policy}
use Rattle.xf_types.specs.Address.{family_of}
use Rattle.xf_inexact.specs.declared.inexact.Inexact.{Inexact}
use Rattle.xf_inexact.specs.Dropped.{bin_in, bins_for, destination_in, dropped, dropped_destination, dropped_policy, dropped_source, head_place, key_for, names_one, source_in}
use Rattle.xf_inexact.specs.Keys.{bin_bucket, bin_of}
use Rattle.xf_inexact.specs.Places.{Fits, below_of, below_root, bucket_root, chains_of, count_of, end_of, is_root, tree_at}
use Rattle.xf_inexact.proofs.Apart.{below_is, bucket_is, chains_lay, least_root, most_root}
use Rattle.xf_inexact.proofs.Levels.{bin_below}
use Rattle.xf_inexact.proofs.NodeLaws.{bucket_small}
use Rattle.xf_inexact.proofs.Visited.{found_below_count}
use Rattle.xf_inexact.proofs.TakenWords.{removed_beside}

dropped_beside : (trie : Trie) (i : List ℕ) (key len place count q : ℕ) → Beside trie q → slice_index (dropped trie i key len place count) q ≡ slice_index i q
unfolding dropped
dropped_beside trie i key len place count q b = turn (names_one i place count) (is_some (find_of trie i key len))
  where
    turn : (v w : Bool) → slice_index (if v then i else if w then removed trie i key len else i) q ≡ slice_index i q
    turn true w = refl
    turn false true = removed_beside trie i key len q b
    turn false false = refl

-- a place that is none of these words
abbrev pub Out : Inexact → ℕ → Type 0
Out x q = x.base ≤ q → end_of x ≤ q

out_beside : (x : Inexact) (root q : ℕ) → is_root x root ≡ true → Out x q → Beside (tree_at x root) q
out_beside x root q e o = let m = most_root x root e in let l = least_root x root e in record {
  root = λ h. let k : end_of x ≤ q = o (omega (arith, h, l)) in omega (arith, k, h, m);
  nodes = λ s j a b h. let k : end_of x ≤ q = o (omega (arith, h)) in omega (arith, k, h, a, b);
  free = λ h. let k : end_of x ≤ q = o (omega (arith, h)) in omega (arith, k, h);
  live = λ h. let k : end_of x ≤ q = o (omega (arith, h)) in omega (arith, k, h);
}

either_below : (v : Bool) (n : ℕ) (a b : Option ℕ) → Below n a → Below n b → Below n (cond v a b)
either_below true n a b h k = h
either_below false n a b h k = k

last_below : (test : ℕ → Bool) (n : ℕ) (last : Option ℕ) (xs : List ℕ) → Below n last → Within n xs → Below n (last_while test last xs)
last_below test n last [] b w = b
last_below test n last (x ∷ xs) b w = either_below (test x) n (last_while test (Some x) xs) last (last_below test n (Some x) xs w.0 w.1) b

pub before_below : (i : List ℕ) (slot : ℕ) (family : Family) (o : Option ℕ) → Below family.slots (before_in i slot family o)
before_below i slot family None = tt
before_below i slot family (Some n) =
    last_below (is_other slot) family.slots None (slots_of (chain_at family n) i) tt (walk_within (chain_at family n) i)

slot_out : (x : Inexact) (i : List ℕ) (size source slot q : ℕ) → Fits x size → source < count_of x → Out x q
    → slice_index (without_slot i (chains_of x) (Some source) slot) q ≡ slice_index i q
slot_out x i size source slot q f h o =
    taken_outside (chains_of x) i size (Some source) (before_in i slot (chains_of x) (Some source)) slot q (chains_lay x size f) h
    (before_below i slot (chains_of x) (Some source)) (λ a. let k : end_of x ≤ q = o (omega (arith, a)) in omega (arith, k))

source_out : (x : Inexact) (i : List ℕ) (size slot : ℕ) (p : Policy) (d q : ℕ) → Fits x size → d < count_of x → Out x q
    → slice_index (dropped_source x i slot p d) q ≡ slice_index i q
unfolding dropped_source
source_out x i size slot p d q f h o =
    turn (find_of (below_of x d) i (key_of p.spec.sel.src.addr) p.spec.sel.src.len)
    (found_below_count (below_of x d) i (key_of p.spec.sel.src.addr) p.spec.sel.src.len)
  where
    turn : (s : Option ℕ) → Below (count_of x) s → slice_index (source_in x i slot p d s) q ≡ slice_index i q
    turn None b = refl
    turn (Some s) b =
        dropped_beside (below_of x d) (without_slot i (chains_of x) (Some s) slot) (key_of p.spec.sel.src.addr) p.spec.sel.src.len (head_place x s) x.area.slots q
        (out_beside x (below_root x d) q (below_is x d h) o)
        ∙ slot_out x i size s slot q f b o

destination_out : (x : Inexact) (i : List ℕ) (size slot : ℕ) (p : Policy) (b q : ℕ) → Fits x size → b < count_of x → Out x q
    → slice_index (dropped_destination x i slot p b) q ≡ slice_index i q
unfolding dropped_destination
destination_out x i size slot p b q f h o =
    turn (find_of (below_of x b) i (key_of p.spec.sel.dst.addr) p.spec.sel.dst.len)
    (found_below_count (below_of x b) i (key_of p.spec.sel.dst.addr) p.spec.sel.dst.len)
  where
    turn : (d : Option ℕ) → Below (count_of x) d → slice_index (destination_in x i slot p b d) q ≡ slice_index i q
    turn None k = refl
    turn (Some d) k =
        dropped_beside (below_of x b) (dropped_source x i slot p d) (key_of p.spec.sel.dst.addr) p.spec.sel.dst.len (below_root x d) (count_of x) q
        (out_beside x (below_root x b) q (below_is x b h) o)
        ∙ source_out x i size slot p d q f k o

-- all that a policy's leaving writes is among these words
pub policy_out : (x : Inexact) (i : List ℕ) (size slot : ℕ) (p : Policy) (q : ℕ) → Fits x size → Out x q → slice_index (dropped_policy x i slot p) q ≡ slice_index i q
unfolding dropped_policy
policy_out x i size slot p q f o =
    turn (bin_of x i p.spec.ptype (family_of p.spec.sel.dst.addr) p.spec.dir p.spec.if_id)
    (bin_below x i p.spec.ptype (family_of p.spec.sel.dst.addr) p.spec.dir p.spec.if_id)
  where
    turn : (b : Option ℕ) → Below (count_of x) b → slice_index (bin_in x i slot p b) q ≡ slice_index i q
    turn None k = refl
    turn (Some b) k =
        dropped_beside (bins_for x p) (dropped_destination x i slot p b) (key_for p) 128 (below_root x b) (count_of x) q
        (out_beside x (bucket_root x (bin_bucket p.spec.ptype (family_of p.spec.sel.dst.addr) p.spec.dir p.spec.if_id)) q
        (bucket_is x (bin_bucket p.spec.ptype (family_of p.spec.sel.dst.addr) p.spec.dir p.spec.if_id)
        (bucket_small p.spec.ptype (family_of p.spec.sel.dst.addr) p.spec.dir p.spec.if_id)) o)
        ∙ destination_out x i size slot p b q f k o

pub policy_frame : (x : Inexact) (i j : List ℕ) (size slot : ℕ) (p : Policy) → j ≡ dropped_policy x i slot p → length i ≡ size → length j ≡ size → Fits x size
    → Frame x.base (end_of x) i j
policy_frame x i j size slot p e a b f = record {
  size = b ∙ sym a;
  below = λ q h. ap (λ k. slice_index k q) e ∙ policy_out x i size slot p q f (λ k. absurd (omega (arith, h, k)));
  above = λ q h. ap (λ k. slice_index k q) e ∙ policy_out x i size slot p q f (λ k. h);
}
