-- A policy that comes into the trees changes words of the trees and of the chains alone, whatever stands there.
use Rattle.std.proofs.Common.{◌≡◌, ℕ, ◌<◌, true, List, Option, None, Some, length, refl, ap, sym, ◌∙◌, subst, arith, slice_index}
use Rattle.xf_chain.specs.Chains.{Below}
use Rattle.xf_chain.specs.Families.{IsOf, Outside, put_in}
use Rattle.xf_image.specs.Frames.{Frame}
use Rattle.xf_image.specs.Placing.{place_in}
use Rattle.xf_index.proofs.Frames.{put_outside}
use Rattle.xf_trie.specs.Keys.{key_of}
use Rattle.xf_trie.specs.Nodes.{Lies}
use Rattle.xf_trie.specs.Pools.{Beside}
use Rattle.xf_trie.proofs.RoomFrames.{room_away, room_below}
use Rattle.xf_types.specs.declared.policy.Policy.{Policy}
use Rattle.xf_types.specs.Address.{family_of}
use Rattle.xf_inexact.specs.declared.inexact.Inexact.{Inexact}
use Rattle.xf_inexact.specs.Grown.{below_grown, below_put, bin_grown, bin_key_of, bin_put, bucket_of, destination_grown, destination_put, policy_first, policy_put, source_grown, source_put}
use Rattle.xf_inexact.specs.Places.{Fits, below_of, below_root, bins_of, bucket_root, chains_of, count_of, end_of, is_root, tree_at}
use Rattle.xf_inexact.proofs.Apart.{behind_is_beside, below_is, below_lies, bucket_is, bucket_lies, chains_lay, least_root}
use Rattle.xf_inexact.proofs.GrowParts.{below_length, bin_length}
use Rattle.xf_inexact.proofs.NodeLaws.{bucket_small}

-- a place is none of the trees
abbrev pub OfNone : Inexact → ℕ → Type 0
OfNone x q = (root : ℕ) → is_root x root ≡ true → Beside (tree_at x root) q

bin_away : (x : Inexact) (image : List ℕ) (size : ℕ) (p : Policy) (q : ℕ) → length image ≡ size → Fits x size → OfNone x q
    → slice_index (bin_grown x image p) q ≡ slice_index image q
unfolding bin_grown
bin_away x image size p q n fits out =
    let small = bucket_small p.spec.ptype (family_of p.spec.sel.dst.addr) p.spec.dir p.spec.if_id in
    room_away (bins_of x (bucket_of p)) image (bin_key_of p) 128 q
    (subst (λ (m : ℕ). Lies (bins_of x (bucket_of p)) m) (sym n) (bucket_lies x size (bucket_of p) fits small))
    (out (bucket_root x (bucket_of p)) (bucket_is x (bucket_of p) small))

below_away : (x : Inexact) (image : List ℕ) (size : ℕ) (o : Option ℕ) (key len q : ℕ) → Below (count_of x) o → length image ≡ size → Fits x size → OfNone x q
    → slice_index (below_grown x image o key len) q ≡ slice_index image q
unfolding below_grown
below_away x image size None key len q b n fits out = refl
below_away x image size (Some d) key len q b n fits out =
    room_away (below_of x d) image key len q (subst (λ (m : ℕ). Lies (below_of x d) m) (sym n) (below_lies x size d fits b)) (out (below_root x d) (below_is x d b))

bin_of_count : (x : Inexact) (image : List ℕ) (p : Policy) → Below (count_of x) (bin_put x image p)
unfolding bin_put
bin_of_count x image p = room_below (bins_of x (bucket_of p)) image (bin_key_of p) 128

below_of_count : (x : Inexact) (image : List ℕ) (o : Option ℕ) (key len : ℕ) → Below (count_of x) (below_put x image o key len)
unfolding below_put
below_of_count x image None key len = tt
below_of_count x image (Some d) key len = room_below (below_of x d) image key len

pub source_of_count : (x : Inexact) (image : List ℕ) (p : Policy) → IsOf (chains_of x) (source_put x image p)
unfolding source_put
source_of_count x image p = is_of (source_put x image p) (below_of_count x (destination_grown x image p) (destination_put x image p) (key_of p.spec.sel.src.addr) p.spec.sel.src.len)
  where
    is_of : (o : Option ℕ) → Below (count_of x) o → IsOf (chains_of x) o
    is_of None b = tt
    is_of (Some n) b = b

pub source_length : (x : Inexact) (image : List ℕ) (p : Policy) → length (source_grown x image p) ≡ length image
unfolding destination_grown source_grown
source_length x image p =
    below_length x (destination_grown x image p) (destination_put x image p) (key_of p.spec.sel.src.addr) p.spec.sel.src.len
    ∙ below_length x (bin_grown x image p) (bin_put x image p) (key_of p.spec.sel.dst.addr) p.spec.sel.dst.len ∙ bin_length x image p

-- the trees
pub source_away : (x : Inexact) (image : List ℕ) (size : ℕ) (p : Policy) (q : ℕ) → length image ≡ size → Fits x size → OfNone x q
    → slice_index (source_grown x image p) q ≡ slice_index image q
unfolding destination_grown destination_put source_grown
source_away x image size p q n fits out =
    let kd : ℕ = key_of p.spec.sel.dst.addr in
    let one : length (bin_grown x image p) ≡ size = bin_length x image p ∙ n in
    let two : length (destination_grown x image p) ≡ size = below_length x (bin_grown x image p) (bin_put x image p) kd p.spec.sel.dst.len ∙ one in
    below_away x (destination_grown x image p) size (destination_put x image p) (key_of p.spec.sel.src.addr) p.spec.sel.src.len q
    (below_of_count x (bin_grown x image p) (bin_put x image p) kd p.spec.sel.dst.len) two fits out
    ∙ below_away x (bin_grown x image p) size (bin_put x image p) kd p.spec.sel.dst.len q (bin_of_count x image p) one fits out
    ∙ bin_away x image size p q n fits out

-- the trees and the chains
put_away : (x : Inexact) (image : List ℕ) (size : ℕ) (p : Policy) (after : Option ℕ) (slot q : ℕ) → length image ≡ size → Fits x size → slot < x.area.slots
    → Below x.area.slots after → OfNone x q → Outside (chains_of x) q
    → slice_index (put_in (chains_of x) (source_grown x image p) (source_put x image p) after slot) q ≡ slice_index image q
put_away x image size p after slot q n fits s b out outside =
    put_outside (chains_of x) (source_grown x image p) size (source_put x image p) after slot q (chains_lay x size fits) (source_of_count x image p) b s outside
    ∙ source_away x image size p q n fits out

before_is_beside : (x : Inexact) (root q : ℕ) → is_root x root ≡ true → q < x.base → Beside (tree_at x root) q
before_is_beside x root q e h = let m = least_root x root e in record {
  root = omega (arith, m, h);
  nodes = λ s k a b. omega (arith, a, h);
  free = omega (arith, h);
  live = omega (arith, h);
}

put_frame : (x : Inexact) (image words : List ℕ) (size : ℕ) (p : Policy) (after : Option ℕ) (slot : ℕ)
    → words ≡ put_in (chains_of x) (source_grown x image p) (source_put x image p) after slot → length image ≡ size → length words ≡ size → Fits x size
    → slot < x.area.slots → Below x.area.slots after → Frame x.base (end_of x) image words
put_frame x image words size p after slot w n m fits s b = record {
  size = m ∙ sym n;
  below = λ q h. ap (λ (i : List ℕ). slice_index i q) w
      ∙ put_away x image size p after slot q n fits s b (λ r e. before_is_beside x r q e h) (λ k. omega (arith, h, k));
  above = λ q h. ap (λ (i : List ℕ). slice_index i q) w
      ∙ put_away x image size p after slot q n fits s b (λ r e. behind_is_beside x r q e h) (λ k. omega (arith, h));
}

pub ordered_frame : (x : Inexact) (image words : List ℕ) (size slot : ℕ) (p : Policy) → words ≡ policy_put x image slot p → length image ≡ size → length words ≡ size
    → Fits x size → slot < x.area.slots → Below x.area.slots (place_in x.area (source_grown x image p) p (chains_of x) (source_put x image p))
    → Frame x.base (end_of x) image words
unfolding policy_put
ordered_frame x image words size slot p w n m fits s b =
    put_frame x image words size p (place_in x.area (source_grown x image p) p (chains_of x) (source_put x image p)) slot w n m fits s b

pub first_frame : (x : Inexact) (image words : List ℕ) (size slot : ℕ) (p : Policy) → words ≡ policy_first x image slot p → length image ≡ size → length words ≡ size
    → Fits x size → slot < x.area.slots → Frame x.base (end_of x) image words
unfolding policy_first
first_frame x image words size slot p w n m fits s = put_frame x image words size p None slot w n m fits s tt
