-- The free nodes after a put at a link.
use Rattle.std.proofs.Common.{◌≡◌, ◌≢◌, ℕ, ◌+◌, ◌<◌, Bool, List, None, Option, Some, [], ap, arith, drop, false, if◌then◌else◌, length, lit<, nat_lt, refl, slice_index, subst, sym, true, ◌&&◌, ◌==◌, ◌∙◌, ◌∷◌}
use Rattle.std.specs.Prelude.{⊤}
use Rattle.xf_trie.specs.declared.trie.Node.{Node}
use Rattle.xf_trie.specs.declared.trie.Trie.{Trie}
use Rattle.xf_trie.specs.Insertions.{alone_at, below_of, branch_at, left_word, marked_at, put_in, put_node, put_slot, shared_with, slot_in_put}
use Rattle.xf_trie.specs.Keys.{agrees, bit}
use Rattle.xf_trie.specs.Nodes.{Lies, link_of, place_of, slot_of}
use Rattle.xf_trie.specs.Pools.{Frees, IsPool, Lacks, Layout}
use Rattle.xf_trie.specs.Puts.{put_uses}
use Rattle.xf_trie.specs.Spares.{head_of, live_of, next_of, took}
use Rattle.xf_trie.specs.Trees.{Fork, Leaf, Stands, Tree}
use Rattle.xf_trie.proofs.Nodes.{named_below}
use Rattle.xf_trie.proofs.PutItems.{put_answer}
use Rattle.xf_trie.proofs.Rooms.{Alone, Branched, Room, alone, branched}
use Rattle.xf_trie.proofs.Stores.{length-took, other}
use Rattle.xf_trie.proofs.Taking.{SameNext, frees_same, head_took, live_took, next_same, next_took}
use Rattle.xf_trie.proofs.Ways.{step_of}

-- the words of these free nodes aren't a link
abbrev pub Quiet : Trie → ℕ → List ℕ → Type 0
Quiet trie q [] = ⊤
Quiet trie q (x ∷ xs) = (place_of trie x + 6 ≢ q) × Quiet trie q xs

next_alone : (trie : Trie) (i j : List ℕ) (s1 key len left right q at : ℕ) (xs : List ℕ) → Layout trie → Alone trie i j s1 key len left right q
    → Frees trie i at xs → Lacks s1 xs → Quiet trie q xs → SameNext trie i j xs
next_alone trie i j s1 key len left right q at [] y a f n z = tt
next_alone trie i j s1 key len left right q at (x ∷ xs) y a f n z =
    let d : s1 ≢ x = n.0 in (
      next_same trie (took trie i) j x (a.after (place_of trie x + 6) z.0 (λ k b e. d (omega arith))) ∙ next_took trie i x y f.1,
      next_alone trie i j s1 key len left right q (next_of trie i x) xs y a f.2 n.1 z.1,
    )

next_branch : (trie : Trie) (i j : List ℕ) (s1 s2 key len shared word q at : ℕ) (xs : List ℕ) → Layout trie → Branched trie i j s1 s2 key len shared word q
    → Frees trie i at xs → Lacks s1 xs → Lacks s2 xs → Quiet trie q xs → SameNext trie i j xs
next_branch trie i j s1 s2 key len shared word q at [] y a f n m z = tt
next_branch trie i j s1 s2 key len shared word q at (x ∷ xs) y a f n m z =
    let d1 : s1 ≢ x = n.0 in
    let d2 : s2 ≢ x = m.0 in (
      next_same trie (took trie (took trie i)) j x (a.after (place_of trie x + 6) z.0 (λ k b e. d1 (omega arith)) (λ k b e. d2 (omega arith)))
          ∙ next_took trie (took trie i) x y f.1 ∙ next_took trie i x y f.1,
      next_branch trie i j s1 s2 key len shared word q (next_of trie i x) xs y a f.2 n.1 m.1 z.1,
    )

next_mark : (trie : Trie) (i : List ℕ) (slot at : ℕ) (marked : Bool) (xs : List ℕ) → Frees trie i at xs → SameNext trie i (marked_at trie i slot marked) xs
next_mark trie i slot at marked [] f = tt
next_mark trie i slot at marked (x ∷ xs) f = (
  next_same trie i (marked_at trie i slot marked) x (other i (place_of trie slot + 3) _ (place_of trie x + 6) (λ e. absurd (omega arith))),
  next_mark trie i slot (next_of trie i x) marked xs f.2,
)

pool_alone : (trie : Trie) (i j : List ℕ) (s1 s2 key len left right q : ℕ) (rest : List ℕ) → Lies trie (length i) → Layout trie → Room trie i s1 s2 q
    → Alone trie i j s1 key len left right q → IsPool trie i (s1 ∷ (s2 ∷ rest)) → Quiet trie q (s1 ∷ (s2 ∷ rest)) → IsPool trie j (s2 ∷ rest)
pool_alone trie i j s1 s2 key len left right q rest l y room a p z =
    let head : head_of trie j ≡ s2 =
    a.after trie.free (λ e. room.out_free (sym e)) (λ k b e. y.free s1 k p.frees.1 b (sym e)) ∙ head_took trie i l ∙ ap (λ h. next_of trie i h) p.frees.0 ∙ p.frees.2.0 in
    let live : live_of trie j ≡ live_of trie i + 1 =
    a.after (trie.free + 1) (λ e. room.out_live (sym e)) (λ k b e. y.live s1 k p.frees.1 b (sym e)) ∙ live_took trie i l in
    let count : live_of trie i + length (s1 ∷ (s2 ∷ rest)) ≡ trie.count = p.count in
    record {
      frees = frees_same trie i j (next_of trie i s1) (head_of trie j) (s2 ∷ rest) (head ∙ sym p.frees.2.0)
          (next_alone trie i j s1 key len left right q (next_of trie i s1) (s2 ∷ rest) y a p.frees.2 p.once.0 z.1) p.frees.2;
      once = p.once.1;
      count = omega arith;
    }

pool_branch : (trie : Trie) (i j : List ℕ) (s1 s2 key len shared word q : ℕ) (rest : List ℕ) → Lies trie (length i) → Layout trie → Room trie i s1 s2 q
    → Branched trie i j s1 s2 key len shared word q → IsPool trie i (s1 ∷ (s2 ∷ rest)) → Quiet trie q (s1 ∷ (s2 ∷ rest)) → IsPool trie j rest
pool_branch trie i j s1 s2 key len shared word q rest l y room a p z =
    let size : length (took trie i) ≡ length i = length-took trie i in
    let l2 : Lies trie (length (took trie i)) = subst (λ (n : ℕ). Lies trie n) (sym size) l in
    let head : head_of trie j ≡ next_of trie i s2 =
    a.after trie.free (λ e. room.out_free (sym e)) (λ k b e. y.free s1 k p.frees.1 b (sym e)) (λ k b e. y.free s2 k p.frees.2.1 b (sym e))
    ∙ head_took trie (took trie i) l2 ∙ ap (λ h. next_of trie (took trie i) h) room.second ∙ next_took trie i s2 y p.frees.2.1 in
    let live : live_of trie j ≡ live_of trie i + 1 + 1 =
    a.after (trie.free + 1) (λ e. room.out_live (sym e)) (λ k b e. y.live s1 k p.frees.1 b (sym e)) (λ k b e. y.live s2 k p.frees.2.1 b (sym e))
    ∙ live_took trie (took trie i) l2 ∙ ap (λ n. n + 1) (live_took trie i l) in
    let count : live_of trie i + length (s1 ∷ (s2 ∷ rest)) ≡ trie.count = p.count in
    record {
      frees = frees_same trie i j (next_of trie i s2) (head_of trie j) rest head
          (next_branch trie i j s1 s2 key len shared word q (next_of trie i s2) rest y a p.frees.2.2 p.once.0.1 p.once.1.0 z.1.1) p.frees.2.2;
      once = p.once.1.1;
      count = omega arith;
    }

pub pool_mark : (trie : Trie) (i : List ℕ) (slot : ℕ) (marked : Bool) (free : List ℕ) → Layout trie → slot < trie.count → IsPool trie i free → IsPool trie (marked_at trie i slot marked) free
pool_mark trie i slot marked free y b p =
    let head : head_of trie (marked_at trie i slot marked) ≡ head_of trie i = other i (place_of trie slot + 3) _ trie.free (λ e. y.free slot 3 b (lit< tt) (sym e)) in
    let live : live_of trie (marked_at trie i slot marked) ≡ live_of trie i = other i (place_of trie slot + 3) _ (trie.free + 1) (λ e. y.live slot 3 b (lit< tt) (sym e)) in
    record {
      frees = frees_same trie i (marked_at trie i slot marked) (head_of trie i) (head_of trie (marked_at trie i slot marked)) free head (next_mark trie i slot (head_of trie i) marked free p.frees) p.frees;
      once = p.once;
      count = ap (λ n. n + length free) live ∙ p.count;
    }

pool_node : (trie : Trie) (i : List ℕ) (s1 s2 key len q : ℕ) (rest : List ℕ) (node : Node) (shared : ℕ) (a b : Bool) → Lies trie (length i) → Layout trie → Room trie i s1 s2 q
    → node.slot < trie.count → IsPool trie i (s1 ∷ (s2 ∷ rest)) → Quiet trie q (s1 ∷ (s2 ∷ rest))
    → IsPool trie (if a then marked_at trie i node.slot true
    else if b then alone_at trie i key len (left_word (bit node.key len) (slice_index i q) 0) (left_word (bit node.key len) 0 (slice_index i q)) q
    else branch_at trie i key len shared (slice_index i q) q)
    (drop (if a then 0 else if b then 1 else 2) (s1 ∷ (s2 ∷ rest)))
pool_node trie i s1 s2 key len q rest node shared true b l y room n p z = pool_mark trie i node.slot true (s1 ∷ (s2 ∷ rest)) y n p
pool_node trie i s1 s2 key len q rest node shared false true l y room n p z =
    pool_alone trie i _ s1 s2 key len (left_word (bit node.key len) (slice_index i q) 0) (left_word (bit node.key len) 0 (slice_index i q)) q rest l y room
    (alone trie i s1 s2 key len (left_word (bit node.key len) (slice_index i q) 0) (left_word (bit node.key len) 0 (slice_index i q)) q room) p z
pool_node trie i s1 s2 key len q rest node shared false false l y room n p z =
    pool_branch trie i _ s1 s2 key len shared (slice_index i q) q rest l y room (branched trie i s1 s2 key len shared (slice_index i q) q room) p z

uses_stop : (trie : Trie) (key len : ℕ) (node : Node) (l r : Tree) (v : Bool) → (agrees node.key key node.len && nat_lt node.len len) ≡ v
    → (if v then Some (link_of trie node.slot (bit key node.len)) else None) ≡ None
    → put_uses key len (Fork node l r) ≡ (if shared_with node key len == node.len then 0 else if shared_with node key len == len then 1 else 2)
uses_stop trie key len node l r true e n = absurd (cc)
uses_stop trie key len node l r false e n =
    ap (λ (x : Bool). if x then (if bit key node.len then put_uses key len r else put_uses key len l) else if shared_with node key len == node.len then 0 else if shared_with node key len == len then 1 else 2) e

answer_stop : (trie : Trie) (z key len : ℕ) (node : Node) (l r : Tree) (v : Bool) → (agrees node.key key node.len && nat_lt node.len len) ≡ v
    → (if v then Some (link_of trie node.slot (bit key node.len)) else None) ≡ None
    → put_answer z key len (Fork node l r) ≡ (if shared_with node key len == node.len then node.slot else z)
answer_stop trie z key len node l r true e n = absurd (cc)
answer_stop trie z key len node l r false e n =
    ap (λ (x : Bool). if x then (if bit key node.len then put_answer z key len r else put_answer z key len l) else if shared_with node key len == node.len then node.slot else z) e

pub pool_end : (trie : Trie) (i : List ℕ) (s1 s2 key len q : ℕ) (rest : List ℕ) (u : Tree) → Lies trie (length i) → Layout trie → Room trie i s1 s2 q
    → Stands trie i (slot_of trie.count (slice_index i q)) u → below_of trie i key len q ≡ None
    → IsPool trie i (s1 ∷ (s2 ∷ rest)) → Quiet trie q (s1 ∷ (s2 ∷ rest))
    → IsPool trie (put_in trie i key len q (slot_of trie.count (slice_index i q))) (drop (put_uses key len u) (s1 ∷ (s2 ∷ rest)))
pool_end trie i s1 s2 key len q rest Leaf l y room s b p z =
    subst (λ (o : Option ℕ). IsPool trie (put_in trie i key len q o) (s2 ∷ rest)) (sym s)
    (pool_alone trie i _ s1 s2 key len 0 0 q rest l y room (alone trie i s1 s2 key len 0 0 q room) p z)
pool_end trie i s1 s2 key len q rest (Fork node x r) l y room s b p z =
    subst (λ (n : ℕ). IsPool trie (put_in trie i key len q (slot_of trie.count (slice_index i q))) (drop n (s1 ∷ (s2 ∷ rest))))
    (sym (uses_stop trie key len node x r (agrees node.key key node.len && nat_lt node.len len) refl
    (sym (step_of trie i key len q node.slot node (agrees node.key key node.len && nat_lt node.len len) s.0 s.1 refl) ∙ b)))
    (subst (λ (j : List ℕ). IsPool trie j (drop (if shared_with node key len == node.len then 0 else if shared_with node key len == len then 1 else 2) (s1 ∷ (s2 ∷ rest))))
    (sym (ap (λ o. put_in trie i key len q o) s.0 ∙ ap (λ (m : Node). put_node trie i key len q m (shared_with m key len)) s.1))
    (pool_node trie i s1 s2 key len q rest node (shared_with node key len) (shared_with node key len == node.len) (shared_with node key len == len) l y room
    (named_below trie.count (slice_index i q) node.slot s.0) p z))

pub answer_end : (trie : Trie) (i : List ℕ) (s1 key len q : ℕ) (u : Tree) → head_of trie i ≡ s1
    → Stands trie i (slot_of trie.count (slice_index i q)) u → below_of trie i key len q ≡ None
    → slot_in_put trie i key len (slot_of trie.count (slice_index i q)) ≡ put_answer s1 key len u
answer_end trie i s1 key len q Leaf e s b = ap (λ o. slot_in_put trie i key len o) s ∙ e
answer_end trie i s1 key len q (Fork node x r) e s b =
    ap (λ o. slot_in_put trie i key len o) s.0
    ∙ ap (λ (m : Node). put_slot trie i m (shared_with m key len)) s.1
    ∙ ap (λ h. if shared_with node key len == node.len then node.slot else h) e
    ∙ sym (answer_stop trie s1 key len node x r (agrees node.key key node.len && nat_lt node.len len) refl
    (sym (step_of trie i key len q node.slot node (agrees node.key key node.len && nat_lt node.len len) s.0 s.1 refl) ∙ b))
