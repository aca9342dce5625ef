-- What a put at a link leaves of the words.
use Rattle.std.proofs.Common.{◌≡◌, ◌≢◌, ℕ, ◌+◌, ◌<◌, Bool, List, None, Option, Some, ap, arith, false, if◌then◌else◌, refl, slice_index, sym, true, ◌==◌, ◌∙◌}
use Rattle.xf_trie.specs.declared.trie.Node.{Node}
use Rattle.xf_trie.specs.declared.trie.Trie.{Trie}
use Rattle.xf_trie.specs.Insertions.{alone_at, branch_at, left_word, marked_at, put_at, put_in, shared_with}
use Rattle.xf_trie.specs.Keys.{bit}
use Rattle.xf_trie.specs.Nodes.{node_at, place_of, slot_of}
use Rattle.xf_trie.proofs.Rooms.{Room, alone, branched}
use Rattle.xf_trie.proofs.Stores.{other}
use Rattle.xf_trie.proofs.WayChanges.{Leaves}
use Rattle.xf_trie.proofs.Written.{alone_words, branched_words}

pub some_differ : (o : Option ℕ) (x s : ℕ) → o ≡ Some x → o ≢ Some s → s ≢ x
some_differ o x s e n = λ f. n (e ∙ ap (λ y. Some y) (sym f))

node_leaves : (trie : Trie) (i : List ℕ) (s1 s2 key len q : ℕ) (node : Node) (shared : ℕ) (a b : Bool) → Room trie i s1 s2 q
    → slot_of trie.count (slice_index i q) ≡ Some node.slot
    → Leaves trie i (if a then marked_at trie i node.slot true
    else if b then alone_at trie i key len (left_word (bit node.key len) (slice_index i q) 0) (left_word (bit node.key len) 0 (slice_index i q)) q
    else branch_at trie i key len shared (slice_index i q) q) s1 s2 q
node_leaves trie i s1 s2 key len q node shared true b room e s k h c n1 n2 nn nq =
    let d : s ≢ node.slot = some_differ (slot_of trie.count (slice_index i q)) node.slot s e nn in
    other i (place_of trie node.slot + 3) 1 (place_of trie s + k) (λ x. d (omega arith))
node_leaves trie i s1 s2 key len q node shared false true room e s k h c n1 n2 nn nq =
    alone_words trie i _ s1 s2 key len (left_word (bit node.key len) (slice_index i q) 0) (left_word (bit node.key len) 0 (slice_index i q)) q room.spread
    (alone trie i s1 s2 key len (left_word (bit node.key len) (slice_index i q) 0) (left_word (bit node.key len) 0 (slice_index i q)) q room) s k h c n1 n2 nq
node_leaves trie i s1 s2 key len q node shared false false room e s k h c n1 n2 nn nq =
    branched_words trie i _ s1 s2 key len shared (slice_index i q) q room.spread
    (branched trie i s1 s2 key len shared (slice_index i q) q room) s k h c n1 n2 nq

pub put_leaves : (trie : Trie) (i : List ℕ) (s1 s2 key len q : ℕ) (o : Option ℕ) → Room trie i s1 s2 q
    → slot_of trie.count (slice_index i q) ≡ o → Leaves trie i (put_in trie i key len q o) s1 s2 q
put_leaves trie i s1 s2 key len q None room e s k h c n1 n2 nn nq =
    alone_words trie i _ s1 s2 key len 0 0 q room.spread (alone trie i s1 s2 key len 0 0 q room) s k h c n1 n2 nq
put_leaves trie i s1 s2 key len q (Some x) room e s k h c n1 n2 nn nq =
    node_leaves trie i s1 s2 key len q (node_at trie i x) (shared_with (node_at trie i x) key len)
    (shared_with (node_at trie i x) key len == (node_at trie i x).len) (shared_with (node_at trie i x) key len == len) room e s k h c n1 n2 nn nq

-- other places stay

rest_node : (trie : Trie) (i : List ℕ) (s1 s2 key len q p : ℕ) (node : Node) (shared : ℕ) (a b : Bool) → Room trie i s1 s2 q
    → p ≢ q → ((k : ℕ) → k < 8 → p ≢ place_of trie s1 + k) → ((k : ℕ) → k < 8 → p ≢ place_of trie s2 + k) → p ≢ trie.free → p ≢ trie.free + 1
    → p ≢ place_of trie node.slot + 3
    → slice_index (if a then marked_at trie i node.slot true
    else if b then alone_at trie i key len (left_word (bit node.key len) (slice_index i q) 0) (left_word (bit node.key len) 0 (slice_index i q)) q
    else branch_at trie i key len shared (slice_index i q) q) p ≡ slice_index i p
rest_node trie i s1 s2 key len q p node shared true b room n o1 o2 f g m = other i (place_of trie node.slot + 3) 1 p m
rest_node trie i s1 s2 key len q p node shared false true room n o1 o2 f g m =
    (alone trie i s1 s2 key len (left_word (bit node.key len) (slice_index i q) 0) (left_word (bit node.key len) 0 (slice_index i q)) q room).rest p n o1 f g
rest_node trie i s1 s2 key len q p node shared false false room n o1 o2 f g m =
    (branched trie i s1 s2 key len shared (slice_index i q) q room).rest p n o1 o2 f g

rest_in : (trie : Trie) (i : List ℕ) (s1 s2 key len q p : ℕ) (o : Option ℕ) → Room trie i s1 s2 q
    → p ≢ q → ((k : ℕ) → k < 8 → p ≢ place_of trie s1 + k) → ((k : ℕ) → k < 8 → p ≢ place_of trie s2 + k) → p ≢ trie.free → p ≢ trie.free + 1
    → ((x : ℕ) → o ≡ Some x → p ≢ place_of trie x + 3)
    → slice_index (put_in trie i key len q o) p ≡ slice_index i p
rest_in trie i s1 s2 key len q p None room n o1 o2 f g m = (alone trie i s1 s2 key len 0 0 q room).rest p n o1 f g
rest_in trie i s1 s2 key len q p (Some x) room n o1 o2 f g m =
    rest_node trie i s1 s2 key len q p (node_at trie i x) (shared_with (node_at trie i x) key len)
    (shared_with (node_at trie i x) key len == (node_at trie i x).len) (shared_with (node_at trie i x) key len == len) room n o1 o2 f g (m x refl)

pub put_rest : (trie : Trie) (i : List ℕ) (s1 s2 key len q p : ℕ) → Room trie i s1 s2 q
    → p ≢ q → ((k : ℕ) → k < 8 → p ≢ place_of trie s1 + k) → ((k : ℕ) → k < 8 → p ≢ place_of trie s2 + k) → p ≢ trie.free → p ≢ trie.free + 1
    → ((x : ℕ) → slot_of trie.count (slice_index i q) ≡ Some x → p ≢ place_of trie x + 3)
    → slice_index (put_at trie i key len q) p ≡ slice_index i p
unfolding put_at
put_rest trie i s1 s2 key len q p room n o1 o2 f g m = rest_in trie i s1 s2 key len q p (slot_of trie.count (slice_index i q)) room n o1 o2 f g m
