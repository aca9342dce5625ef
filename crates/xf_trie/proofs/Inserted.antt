-- What an insertion leaves.
use Rattle.std.proofs.Common.{◌≡◌, ℕ, ◌+◌, ◌^◌, ◌<◌, ◌≤◌, List, [], ap, drop, length, lit<, slice_index, subst, sym, ◌∙◌, ◌∷◌}
use Rattle.xf_trie.specs.declared.trie.Trie.{Trie}
use Rattle.xf_trie.specs.Insertions.{inserted, put_at, slot_inserted, slot_put, spot_of}
use Rattle.xf_trie.specs.Nodes.{Lies, named_at, place_of, slot_of}
use Rattle.xf_trie.specs.Pools.{Apart, Beside, Frees, IsPool, IsTrie, Layout}
use Rattle.xf_trie.specs.Promises.{Inserts}
use Rattle.xf_trie.specs.Puts.{Puts, put_tree, put_uses}
use Rattle.xf_trie.specs.Slots.{Disjoint}
use Rattle.xf_trie.specs.Spares.{head_of, next_of}
use Rattle.xf_trie.specs.Trees.{Stands, Tree, items_of}
use Rattle.xf_trie.proofs.Heights.{height_tree}
use Rattle.xf_trie.proofs.Nodes.{named_below}
use Rattle.xf_trie.proofs.Paths.{height}
use Rattle.xf_trie.proofs.PutApart.{apart_uses}
use Rattle.xf_trie.proofs.PutItems.{put_answer, puts_put}
use Rattle.xf_trie.proofs.PutPlaces.{put_rest}
use Rattle.xf_trie.proofs.PutPools.{Quiet, answer_end, pool_end}
use Rattle.xf_trie.proofs.PutSlots.{distinct_put}
use Rattle.xf_trie.proofs.PutTrees.{is_put}
use Rattle.xf_trie.proofs.PutWays.{insert_beside, insert_room, insert_stands}
use Rattle.xf_trie.proofs.Rooms.{Room}
use Rattle.xf_trie.proofs.Standing.{Inside, inside, out_inside, out_words, stands_at}
use Rattle.xf_trie.proofs.Taking.{ready, rooted, spread}
use Rattle.xf_trie.proofs.WayEnds.{EndOf, end_of}
use Rattle.xf_trie.proofs.Ways.{spot_other}

quiet : (trie : Trie) (i : List ℕ) (key len at : ℕ) (t : Tree) (xs : List ℕ) → Layout trie → height t ≤ 129
    → Stands trie i (slot_of trie.count (slice_index i trie.root)) t → Frees trie i at xs → Apart xs t → Quiet trie (spot_of trie i key len) xs
unfolding spot_of
quiet trie i key len at t [] y h s f a = tt
quiet trie i key len at t (x ∷ xs) y h s f a = (
  spot_other trie i key len (place_of trie x + 6) 129 trie.root t h s (y.root x 6 f.1 (lit< tt)) (out_words trie x 6 t (lit< tt) a.0),
  quiet trie i key len (next_of trie i x) t xs y h s f.2 a.1,
)

pub pool_inserted : (trie : Trie) (i : List ℕ) (s1 s2 key len : ℕ) (rest : List ℕ) (t : Tree) → Lies trie (length i) → Layout trie
    → IsTrie trie i t (s1 ∷ (s2 ∷ rest)) → IsPool trie (inserted trie i key len) (drop (put_uses key len t) (s1 ∷ (s2 ∷ rest)))
unfolding spot_of put_at
pool_inserted trie i s1 s2 key len rest t l y w =
    let h : height t ≤ 129 = height_tree t w.ordered in
    let e : EndOf trie i key len (spot_of trie i key len) t = end_of trie i key len 129 trie.root t h w.stands in
    let room : Room trie i s1 s2 (spot_of trie i key len) =
    insert_room trie i s1 s2 key len t l (spread trie y) (rooted trie y) (ready trie i s1 s2 rest l w.pool) h w.stands w.apart.0 w.apart.1.0 in
    subst (λ (n : ℕ). IsPool trie (inserted trie i key len) (drop n (s1 ∷ (s2 ∷ rest)))) (sym e.uses)
    (pool_end trie i s1 s2 key len (spot_of trie i key len) rest e.tree l y room e.stands e.stop w.pool
    (quiet trie i key len (head_of trie i) t (s1 ∷ (s2 ∷ rest)) y h w.stands w.pool.frees w.apart))

pub answer_inserted : (trie : Trie) (i : List ℕ) (s1 s2 key len : ℕ) (rest : List ℕ) (t : Tree)
    → IsTrie trie i t (s1 ∷ (s2 ∷ rest)) → slot_inserted trie i key len ≡ put_answer s1 key len t
unfolding spot_of slot_put
answer_inserted trie i s1 s2 key len rest t w =
    let e : EndOf trie i key len (spot_of trie i key len) t = end_of trie i key len 129 trie.root t (height_tree t w.ordered) w.stands in
    answer_end trie i s1 key len (spot_of trie i key len) e.tree w.pool.frees.0 e.stands e.stop ∙ sym (e.answer s1)

-- the words after an insertion hold the tree with the prefix
pub trie_inserted : (trie : Trie) (i : List ℕ) (s1 s2 key len : ℕ) (rest : List ℕ) (t : Tree) → Lies trie (length i) → Layout trie → len ≤ 128 → key < 2 ^ 128
    → IsTrie trie i t (s1 ∷ (s2 ∷ rest))
    → IsTrie trie (inserted trie i key len) (put_tree s1 s2 key len t) (drop (put_uses key len t) (s1 ∷ (s2 ∷ rest)))
trie_inserted trie i s1 s2 key len rest t l y hl hk w = record {
  stands = insert_stands trie i s1 s2 key len t l (spread trie y) (rooted trie y) (ready trie i s1 s2 rest l w.pool) hl (height_tree t w.ordered) w.stands w.apart.0 w.apart.1.0 w.once;
  ordered = is_put s1 s2 key len t w.ordered hl hk;
  once = distinct_put s1 s2 key len t w.pool.once.0.0 w.apart.0 w.apart.1.0 w.once;
  pool = pool_inserted trie i s1 s2 key len rest t l y w;
  apart = apart_uses s1 s2 key len rest t w.pool.once w.apart;
}

word_stays : (trie : Trie) (i : List ℕ) (s1 s2 key len : ℕ) (rest : List ℕ) (t : Tree) (root : ℕ) → Lies trie (length i) → Layout trie
    → IsTrie trie i t (s1 ∷ (s2 ∷ rest)) → Beside trie root → slice_index (inserted trie i key len) root ≡ slice_index i root
unfolding spot_of
word_stays trie i s1 s2 key len rest t root l y w b =
    let h : height t ≤ 129 = height_tree t w.ordered in
    let n : Inside trie.count t = inside trie i (slice_index i trie.root) t w.stands in
    let room : Room trie i s1 s2 (spot_of trie i key len) =
    insert_room trie i s1 s2 key len t l (spread trie y) (rooted trie y) (ready trie i s1 s2 rest l w.pool) h w.stands w.apart.0 w.apart.1.0 in
    put_rest trie i s1 s2 key len (spot_of trie i key len) root room
    (spot_other trie i key len root 129 trie.root t h w.stands b.root (out_inside trie root t n b.nodes))
    (λ k c e. b.nodes s1 k w.pool.frees.1 c (sym e)) (λ k c e. b.nodes s2 k w.pool.frees.2.1 c (sym e)) b.free b.live
    (λ x f e. b.nodes x 3 (named_below trie.count (slice_index i (spot_of trie i key len)) x f) (lit< tt) (sym e))

-- another tree of the pool stays
other_stays : (trie : Trie) (i : List ℕ) (s1 s2 key len : ℕ) (rest : List ℕ) (t u : Tree) (root : ℕ) → Lies trie (length i) → Layout trie
    → IsTrie trie i t (s1 ∷ (s2 ∷ rest)) → Beside trie root → Stands trie i (named_at trie i root) u → Apart (s1 ∷ (s2 ∷ rest)) u → Disjoint u t
    → Stands trie (inserted trie i key len) (named_at trie (inserted trie i key len) root) u
other_stays trie i s1 s2 key len rest t u root l y w b s a d =
    let j : List ℕ = inserted trie i key len in
    stands_at trie j (named_at trie i root) (named_at trie j root) u
    (ap (λ x. slot_of trie.count x) (word_stays trie i s1 s2 key len rest t root l y w b))
    (insert_beside trie i s1 s2 key len t u (named_at trie i root) l (spread trie y) (rooted trie y) (ready trie i s1 s2 rest l w.pool)
    (height_tree t w.ordered) w.stands w.apart.0 w.apart.1.0 s (inside trie i (slice_index i root) u s) a.0 a.1.0 d)

pub inserts_is : (trie : Trie) (i : List ℕ) (key len : ℕ) → Lies trie (length i) → len ≤ 128 → key < 2 ^ 128
    → Inserts trie i (inserted trie i key len) key len (slot_inserted trie i key len)
inserts_is trie i key len l hl hk = record {
  leaves = λ s1 s2 rest t y w. record {
    trie_is = trie_inserted trie i s1 s2 key len rest t l y hl hk w;
    prefixes = subst (λ (s : ℕ). Puts key len s (items_of t) (items_of (put_tree s1 s2 key len t))) (sym (answer_inserted trie i s1 s2 key len rest t w))
        (puts_put s1 s2 key len t w.ordered hk);
    others = λ u root b s a d. other_stays trie i s1 s2 key len rest t u root l y w b s a d;
    words = λ place b. word_stays trie i s1 s2 key len rest t place l y w b;
  };
}
