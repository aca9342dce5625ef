-- What an insertion makes of the words: they hold the tree with the prefix, and other trees stay.
use Rattle.std.proofs.Common.{◌≡◌, ◌≢◌, ℕ, zero, suc, ◌+◌, ◌<◌, ◌≤◌, Bool, List, Option, arith, false, length, lit<, nat_lt, refl, rules, slice_index, subst, sym, true, ◌&&◌}
use Rattle.xf_trie.specs.declared.trie.Trie.{Trie}
use Rattle.xf_trie.specs.Insertions.{inserted, put_at, spot_from, spot_of}
use Rattle.xf_trie.specs.Keys.{agrees, bit}
use Rattle.xf_trie.specs.Nodes.{Lies, link_of, place_of, slot_of}
use Rattle.xf_trie.specs.Puts.{put_tree}
use Rattle.xf_trie.specs.Slots.{Disjoint, Distinct, Misses}
use Rattle.xf_trie.specs.Spares.{head_of, took}
use Rattle.xf_trie.specs.Trees.{Fork, Leaf, Stands, Tree}
use Rattle.xf_trie.proofs.LinkPuts.{put_ends}
use Rattle.xf_trie.proofs.Nodes.{named_below}
use Rattle.xf_trie.proofs.Paths.{height}
use Rattle.xf_trie.proofs.PutPlaces.{put_rest, some_differ}
use Rattle.xf_trie.proofs.Rooms.{Room, Spread, block}
use Rattle.xf_trie.proofs.Standing.{Inside, SameNodes, inside, out_inside, out_words, stands_same}
use Rattle.xf_trie.proofs.WayChanges.{put_stands}
use Rattle.xf_trie.proofs.Ways.{pick, spot_fork, spot_names, spot_other, spot_stops, step_none}

link_within : (trie : Trie) (s size : ℕ) (side : Bool) → Lies trie size → s < trie.count → link_of trie s side < size
link_within trie s size false l b = let h : place_of trie s + 8 ≤ size = block trie s size l b in omega arith
link_within trie s size true l b = let h : place_of trie s + 8 ≤ size = block trie s size l b in omega arith

spot_within : (trie : Trie) (i : List ℕ) (key len size left place : ℕ) (t : Tree) → height t ≤ left → Lies trie size
    → Stands trie i (slot_of trie.count (slice_index i place)) t → place < size → spot_from trie i key len left place < size
spot_within trie i key len size left place Leaf h l s b =
    subst (λ (q : ℕ). q < size) (sym (spot_stops trie i key len left place (step_none trie i key len place s))) b
spot_within trie i key len size zero place (Fork node l r) h f s b = absurd (omega arith)
spot_within trie i key len size (suc n) place (Fork node l r) h f s b =
    let c : node.slot < trie.count = named_below trie.count (slice_index i place) node.slot s.0 in
    subst (λ (q : ℕ). q < size) (sym (spot_fork trie i key len n place node l r s))
    (pick (λ q. q < size) (λ x. spot_from trie i key len n (link_of trie node.slot x)) place (agrees node.key key node.len && nat_lt node.len len) (bit key node.len) b
    (spot_within trie i key len size n (link_of trie node.slot false) l (omega arith) f s.2 (link_within trie node.slot size false f c))
    (spot_within trie i key len size n (link_of trie node.slot true) r (omega arith) f s.3 (link_within trie node.slot size true f c)))

beside_all : (trie : Trie) (i j : List ℕ) (s1 s2 : ℕ) (t u : Tree)
    → ((x : ℕ) → x < trie.count → (k : ℕ) → k < 6 → x ≢ s1 → x ≢ s2 → Misses x t → slice_index j (place_of trie x + k) ≡ slice_index i (place_of trie x + k))
    → Inside trie.count u → Misses s1 u → Misses s2 u → Disjoint u t → SameNodes trie i j u
beside_all trie i j s1 s2 t Leaf f n m1 m2 d = search rules
beside_all trie i j s1 s2 t (Fork node l r) f n m1 m2 d = (
  (λ k b. f node.slot n.0 k b (λ e. m1.0 (sym e)) (λ e. m2.0 (sym e)) d.0),
  beside_all trie i j s1 s2 t l f n.1 m1.1 m2.1 d.1,
  beside_all trie i j s1 s2 t r f n.2 m1.2 m2.2 d.2,
)

-- The root lies apart from the nodes' words and from those of the free ones.
pub record Rooted (trie : Trie) : Type 0 where
  pub nodes : (s k : ℕ) → s < trie.count → k < 8 → place_of trie s + k ≢ trie.root
  pub free : trie.root ≢ trie.free
  pub live : trie.root ≢ trie.free + 1

-- Two free nodes come next.
pub record Ready (trie : Trie) (i : List ℕ) (s1 s2 : ℕ) : Type 0 where
  pub first : head_of trie i ≡ s1
  pub second : head_of trie (took trie i) ≡ s2
  pub first_below : s1 < trie.count
  pub second_below : s2 < trie.count
  pub differ : s1 ≢ s2

pub insert_room : (trie : Trie) (i : List ℕ) (s1 s2 key len : ℕ) (t : Tree)
    → Lies trie (length i) → Spread trie → Rooted trie → Ready trie i s1 s2 → height t ≤ 129
    → Stands trie i (slot_of trie.count (slice_index i trie.root)) t → Misses s1 t → Misses s2 t
    → Room trie i s1 s2 (spot_of trie i key len)
unfolding spot_of
insert_room trie i s1 s2 key len t lies spread rooted ready h s m1 m2 =
    let n : Inside trie.count t = inside trie i (slice_index i trie.root) t s in
    record {
      lies = lies;
      spread = spread;
      first = ready.first;
      second = ready.second;
      first_below = ready.first_below;
      second_below = ready.second_below;
      differ = ready.differ;
      within = spot_within trie i key len (length i) 129 trie.root t h lies s lies.root;
      out_first = λ k b e. spot_other trie i key len (place_of trie s1 + k) 129 trie.root t h s (rooted.nodes s1 k ready.first_below b) (out_words trie s1 k t b m1) (sym e);
      out_second = λ k b e. spot_other trie i key len (place_of trie s2 + k) 129 trie.root t h s (rooted.nodes s2 k ready.second_below b) (out_words trie s2 k t b m2) (sym e);
      out_free = λ e. spot_other trie i key len trie.free 129 trie.root t h s (λ x. rooted.free (sym x)) (out_inside trie trie.free t n spread.free) (sym e);
      out_live = λ e. spot_other trie i key len (trie.free + 1) 129 trie.root t h s (λ x. rooted.live (sym x)) (out_inside trie (trie.free + 1) t n spread.live) (sym e);
    }

pub insert_stands : (trie : Trie) (i : List ℕ) (s1 s2 key len : ℕ) (t : Tree)
    → Lies trie (length i) → Spread trie → Rooted trie → Ready trie i s1 s2 → len ≤ 128 → height t ≤ 129
    → Stands trie i (slot_of trie.count (slice_index i trie.root)) t → Misses s1 t → Misses s2 t → Distinct t
    → Stands trie (inserted trie i key len) (slot_of trie.count (slice_index (inserted trie i key len) trie.root)) (put_tree s1 s2 key len t)
unfolding spot_of
insert_stands trie i s1 s2 key len t lies spread rooted ready hl h s m1 m2 d =
    let n : Inside trie.count t = inside trie i (slice_index i trie.root) t s in
    let q : ℕ = spot_of trie i key len in
    let room : Room trie i s1 s2 q = insert_room trie i s1 s2 key len t lies spread rooted ready h s m1 m2 in
    put_stands trie i (put_at trie i key len q) s1 s2 key len q trie.root 129 t (put_ends trie i s1 s2 key len q room hl) h s m1 m2 d
    (out_inside trie trie.root t n rooted.nodes) refl
    (λ e. put_rest trie i s1 s2 key len q trie.root room e (λ k b x. rooted.nodes s1 k ready.first_below b (sym x)) (λ k b x. rooted.nodes s2 k ready.second_below b (sym x))
    rooted.free rooted.live (λ x f y. rooted.nodes x 3 (named_below trie.count (slice_index i q) x f) (lit< tt) (sym y)))

-- another tree of the pool stays
pub insert_beside : (trie : Trie) (i : List ℕ) (s1 s2 key len : ℕ) (t u : Tree) (at : Option ℕ)
    → Lies trie (length i) → Spread trie → Rooted trie → Ready trie i s1 s2 → height t ≤ 129
    → Stands trie i (slot_of trie.count (slice_index i trie.root)) t → Misses s1 t → Misses s2 t
    → Stands trie i at u → Inside trie.count u → Misses s1 u → Misses s2 u → Disjoint u t
    → Stands trie (inserted trie i key len) at u
unfolding spot_of
insert_beside trie i s1 s2 key len t u at lies spread rooted ready h s m1 m2 su n k1 k2 d =
    let q : ℕ = spot_of trie i key len in
    let room : Room trie i s1 s2 q = insert_room trie i s1 s2 key len t lies spread rooted ready h s m1 m2 in
    stands_same trie i (put_at trie i key len q) at u
    (beside_all trie i (put_at trie i key len q) s1 s2 t u (λ x c k b o1 o2 m. put_rest trie i s1 s2 key len q (place_of trie x + k) room
    (spot_other trie i key len (place_of trie x + k) 129 trie.root t h s (rooted.nodes x k c (omega arith)) (out_words trie x k t (omega arith) m))
    (λ y b1 e. o1 (omega arith)) (λ y b1 e. o2 (omega arith)) (spread.free x k c (omega arith)) (spread.live x k c (omega arith))
    (λ y f e. some_differ (slot_of trie.count (slice_index i q)) y x f (spot_names trie i key len x 129 trie.root t h s m) (omega arith)))
    n k1 k2 d) su
