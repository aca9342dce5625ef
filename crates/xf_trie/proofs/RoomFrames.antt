-- An insertion that asks for room writes no word of others, whatever stands in the words.
use Rattle.std.proofs.Common.{◌≡◌, ◌≢◌, ℕ, zero, suc, ◌+◌, ◌<◌, Bool, List, None, Option, Some, false, if◌then◌else◌, length, length-set, lit<, nat_lt, refl, slice_index, subst, sym, true, ◌&&◌, ◌==◌, ◌∙◌}
use Rattle.xf_trie.specs.declared.trie.Node.{Node}
use Rattle.xf_trie.specs.declared.trie.Trie.{Trie}
use Rattle.xf_trie.specs.Insertions.{alone_at, below_at, below_of, branch_at, inserted, left_word, marked_at, put_at, put_in, shared_with, slot_in_put, slot_inserted, slot_put, spot_from, spot_of, written}
use Rattle.xf_trie.specs.Keys.{agrees, bit}
use Rattle.xf_trie.specs.Nodes.{Below, Lies, link_of, named_at, node_at, place_of}
use Rattle.xf_trie.specs.Pools.{Beside}
use Rattle.xf_trie.specs.Rooms.{has_room, room_inserted, room_slot}
use Rattle.xf_trie.specs.Spares.{head_of, took}
use Rattle.xf_trie.proofs.Nodes.{named_below}
use Rattle.xf_trie.proofs.RoomLaws.{Roomy, roomy}
use Rattle.xf_trie.proofs.Stores.{length-took, length-written, other, took_out, written_out}
use Rattle.xf_trie.proofs.Taking.{head_took}

-- the way ends at a word of the tree

link_away : (trie : Trie) (p slot : ℕ) (side : Bool) → Beside trie p → slot < trie.count → p ≢ link_of trie slot side
link_away trie p slot false b h = λ e. b.nodes slot 4 h (lit< tt) (sym e)
link_away trie p slot true b h = λ e. b.nodes slot 5 h (lit< tt) (sym e)

below_away : (trie : Trie) (i : List ℕ) (key len p next : ℕ) (o : Option ℕ) → Beside trie p → ((s : ℕ) → o ≡ Some s → s < trie.count)
    → below_at trie i key len o ≡ Some next → p ≢ next
below_away trie i key len p next None b f e = absurd (cc)
below_away trie i key len p next (Some slot) b f e =
    turn (agrees (node_at trie i slot).key key (node_at trie i slot).len && nat_lt (node_at trie i slot).len len) e
  where
    turn : (v : Bool) → (if v then Some (link_of trie slot (bit key (node_at trie i slot).len)) else None) ≡ Some next → p ≢ next
    turn true q =
        let same : link_of trie slot (bit key (node_at trie i slot).len) ≡ next = cc in
        subst (λ (x : ℕ). p ≢ x) same (link_away trie p slot (bit key (node_at trie i slot).len) b (f slot refl))
    turn false q = absurd (cc)

next_away : (trie : Trie) (i : List ℕ) (key len p place next : ℕ) → Beside trie p → below_of trie i key len place ≡ Some next → p ≢ next
unfolding below_of
next_away trie i key len p place next b e =
    below_away trie i key len p next (named_at trie i place) b (λ s q. named_below trie.count (slice_index i place) s q) e

spot_away : (trie : Trie) (i : List ℕ) (key len p left place : ℕ) → Beside trie p → p ≢ place → p ≢ spot_from trie i key len left place
spot_away trie i key len p zero place b n = n
spot_away trie i key len p (suc left) place b n =
    turn (below_of trie i key len place) refl (λ next m. spot_away trie i key len p left next b m)
  where
    turn : (o : Option ℕ) → below_of trie i key len place ≡ o → ((next : ℕ) → p ≢ next → p ≢ spot_from trie i key len left next)
        → p ≢ (elim o as (λ (x : Option ℕ). ℕ) [ None ↦ place | Some next ↦ spot_from trie i key len left next ])
    turn None e f = n
    turn (Some next) e f = f next (next_away trie i key len p place next b e)

-- and a put there writes that word and those of nodes

alone_away : (trie : Trie) (i : List ℕ) (key len left right q p : ℕ) → Beside trie p → head_of trie i < trie.count → p ≢ q
    → slice_index (alone_at trie i key len left right q) p ≡ slice_index i p
unfolding alone_at
alone_away trie i key len left right q p b h n =
    other _ q _ p n
    ∙ written_out trie (took trie i) (head_of trie i) key len true left right p (λ k c e. b.nodes (head_of trie i) k h c (sym e))
    ∙ took_out trie i p b.free b.live

branch_away : (trie : Trie) (i : List ℕ) (key len shared word q p : ℕ) → Beside trie p → head_of trie i < trie.count → head_of trie (took trie i) < trie.count
    → p ≢ q → slice_index (branch_at trie i key len shared word q) p ≡ slice_index i p
unfolding branch_at
branch_away trie i key len shared word q p b h k n =
    other _ q _ p n
    ∙ written_out trie (written trie (took trie (took trie i)) (head_of trie i) key len true 0 0) (head_of trie (took trie i)) key shared false
    (left_word (bit key shared) (head_of trie i + 1) word) (left_word (bit key shared) word (head_of trie i + 1)) p (λ m c e. b.nodes (head_of trie (took trie i)) m k c (sym e))
    ∙ written_out trie (took trie (took trie i)) (head_of trie i) key len true 0 0 p (λ m c e. b.nodes (head_of trie i) m h c (sym e))
    ∙ took_out trie (took trie i) p b.free b.live ∙ took_out trie i p b.free b.live

node_away : (trie : Trie) (i : List ℕ) (key len q p : ℕ) (node : Node) (shared : ℕ) (v w : Bool) → Beside trie p → head_of trie i < trie.count
    → head_of trie (took trie i) < trie.count → p ≢ q → node.slot < trie.count
    → slice_index (if v then marked_at trie i node.slot true
    else if w then alone_at trie i key len (left_word (bit node.key len) (slice_index i q) 0) (left_word (bit node.key len) 0 (slice_index i q)) q
    else branch_at trie i key len shared (slice_index i q) q) p ≡ slice_index i p
node_away trie i key len q p node shared true w b h k n s = other i (place_of trie node.slot + 3) 1 p (λ e. b.nodes node.slot 3 s (lit< tt) (sym e))
node_away trie i key len q p node shared false true b h k n s =
    alone_away trie i key len (left_word (bit node.key len) (slice_index i q) 0) (left_word (bit node.key len) 0 (slice_index i q)) q p b h n
node_away trie i key len q p node shared false false b h k n s = branch_away trie i key len shared (slice_index i q) q p b h k n

put_away : (trie : Trie) (i : List ℕ) (key len q p : ℕ) (o : Option ℕ) → Beside trie p → head_of trie i < trie.count → head_of trie (took trie i) < trie.count
    → p ≢ q → ((s : ℕ) → o ≡ Some s → s < trie.count) → slice_index (put_in trie i key len q o) p ≡ slice_index i p
put_away trie i key len q p None b h k n f = alone_away trie i key len 0 0 q p b h n
put_away trie i key len q p (Some slot) b h k n f =
    node_away trie i key len q p (node_at trie i slot) (shared_with (node_at trie i slot) key len)
    (shared_with (node_at trie i slot) key len == (node_at trie i slot).len) (shared_with (node_at trie i slot) key len == len) b h k n (f slot refl)

pub inserted_away : (trie : Trie) (i : List ℕ) (key len p : ℕ) → Lies trie (length i) → Beside trie p → has_room trie i ≡ true
    → slice_index (inserted trie i key len) p ≡ slice_index i p
unfolding put_at spot_of
inserted_away trie i key len p l b e =
    let r : Roomy trie i = roomy trie i e in
    put_away trie i key len (spot_of trie i key len) p (named_at trie i (spot_of trie i key len)) b r.head
    (subst (λ (x : ℕ). x < trie.count) (sym (head_took trie i l)) r.next)
    (spot_away trie i key len p 129 trie.root b b.root)
    (λ s q. named_below trie.count (slice_index i (spot_of trie i key len)) s q)

pub room_away : (trie : Trie) (i : List ℕ) (key len p : ℕ) → Lies trie (length i) → Beside trie p → slice_index (room_inserted trie i key len) p ≡ slice_index i p
unfolding room_inserted
room_away trie i key len p l b = turn (has_room trie i) refl
  where
    turn : (v : Bool) → has_room trie i ≡ v → slice_index (if v then inserted trie i key len else i) p ≡ slice_index i p
    turn true e = inserted_away trie i key len p l b e
    turn false e = refl

-- and there are as many words

alone_length : (trie : Trie) (i : List ℕ) (key len left right q : ℕ) → length (alone_at trie i key len left right q) ≡ length i
unfolding alone_at
alone_length trie i key len left right q = length-set _ _ _ ∙ length-written trie _ _ _ _ _ _ _ ∙ length-took trie i

branch_length : (trie : Trie) (i : List ℕ) (key len shared word q : ℕ) → length (branch_at trie i key len shared word q) ≡ length i
unfolding branch_at
branch_length trie i key len shared word q =
    length-set _ _ _ ∙ length-written trie _ _ _ _ _ _ _ ∙ length-written trie _ _ _ _ _ _ _ ∙ length-took trie (took trie i) ∙ length-took trie i

length_if : (v : Bool) (xs ys : List ℕ) (n : ℕ) → length xs ≡ n → length ys ≡ n → length (if v then xs else ys) ≡ n
length_if true xs ys n e f = e
length_if false xs ys n e f = f

put_length : (trie : Trie) (i : List ℕ) (key len q : ℕ) (o : Option ℕ) → length (put_in trie i key len q o) ≡ length i
put_length trie i key len q None = alone_length trie i key len 0 0 q
put_length trie i key len q (Some slot) =
    length_if (shared_with (node_at trie i slot) key len == (node_at trie i slot).len) _ _ (length i) (length-set _ _ _)
    (length_if (shared_with (node_at trie i slot) key len == len) _ _ (length i) (alone_length trie i key len _ _ q) (branch_length trie i key len _ _ q))

pub room_length : (trie : Trie) (i : List ℕ) (key len : ℕ) → length (room_inserted trie i key len) ≡ length i
unfolding room_inserted put_at
room_length trie i key len =
    length_if (has_room trie i) _ _ (length i) (put_length trie i key len (spot_of trie i key len) (named_at trie i (spot_of trie i key len))) refl

-- the node that is answered is one of so many

less_if : (v : Bool) (a b n : ℕ) → a < n → b < n → (if v then a else b) < n
less_if true a b n h k = h
less_if false a b n h k = k

slot_small : (trie : Trie) (i : List ℕ) (key len : ℕ) (o : Option ℕ) → head_of trie i < trie.count → ((s : ℕ) → o ≡ Some s → s < trie.count)
    → slot_in_put trie i key len o < trie.count
slot_small trie i key len None h f = h
slot_small trie i key len (Some slot) h f =
    less_if (shared_with (node_at trie i slot) key len == (node_at trie i slot).len) slot (head_of trie i) trie.count (f slot refl) h

pub room_below : (trie : Trie) (i : List ℕ) (key len : ℕ) → Below trie.count (room_slot trie i key len)
unfolding room_slot slot_put
room_below trie i key len = turn (has_room trie i) refl
  where
    turn : (v : Bool) → has_room trie i ≡ v → Below trie.count (if v then Some (slot_inserted trie i key len) else None)
    turn true e =
        slot_small trie i key len (named_at trie i (spot_of trie i key len)) (roomy trie i e).head
        (λ s q. named_below trie.count (slice_index i (spot_of trie i key len)) s q)
    turn false e = tt
