-- A removal from a tree writes words of its pool alone, whatever the words are.
use Rattle.std.proofs.Common.{◌≡◌, ◌≢◌, ℕ, zero, suc, ◌+◌, ◌<◌, ◌==◌, ◌&&◌, Bool, true, false, List, Option, None, Some, if◌then◌else◌, nat_lt, refl, sym, ◌∙◌, lit<, slice_index, slice_set}
use Rattle.xf_trie.specs.declared.trie.Trie.{Trie}
use Rattle.xf_trie.specs.Insertions.{below_of as below_in, flag_word}
use Rattle.xf_trie.specs.Keys.{agrees, bit}
use Rattle.xf_trie.specs.Nodes.{child_at, link_of, named_at, node_at, place_of}
use Rattle.xf_trie.specs.Pools.{Beside}
use Rattle.xf_trie.specs.Removals.{removed, removed_from, tidied, tidy_in, tidy_node, unmark_in, unmarked}
use Rattle.xf_trie.specs.Spares.{gave}
use Rattle.xf_trie.proofs.Nodes.{named_below}
use Rattle.xf_trie.proofs.Stores.{other}

gave_beside : (trie : Trie) (i : List ℕ) (slot q : ℕ) → Beside trie q → slot < trie.count → slice_index (gave trie i slot) q ≡ slice_index i q
unfolding gave
gave_beside trie i slot q b h =
    other _ (trie.free + 1) _ q b.live ∙ other _ trie.free _ q b.free ∙ other i (place_of trie slot + 6) _ q (λ e. b.nodes slot 6 h (lit< tt) (sym e))

moved_beside : (trie : Trie) (i : List ℕ) (place word slot q : ℕ) → Beside trie q → q ≢ place → slot < trie.count
    → slice_index (gave trie (slice_set i place word) slot) q ≡ slice_index i q
moved_beside trie i place word slot q b n h = gave_beside trie (slice_set i place word) slot q b h ∙ other i place word q n

node_beside : (trie : Trie) (i : List ℕ) (place slot q : ℕ) (left right : Option ℕ) → Beside trie q → q ≢ place → slot < trie.count
    → slice_index (tidy_node trie i place slot left right) q ≡ slice_index i q
node_beside trie i place slot q None right b n h = moved_beside trie i place (slice_index i (place_of trie slot + 5)) slot q b n h
node_beside trie i place slot q (Some l) None b n h = moved_beside trie i place (slice_index i (place_of trie slot + 4)) slot q b n h
node_beside trie i place slot q (Some l) (Some r) b n h = refl

tidy_if : (trie : Trie) (i j : List ℕ) (q : ℕ) (v : Bool) → slice_index j q ≡ slice_index i q → slice_index (if v then i else j) q ≡ slice_index i q
tidy_if trie i j q true e = refl
tidy_if trie i j q false e = e

tidied_beside : (trie : Trie) (i : List ℕ) (place q : ℕ) → Beside trie q → q ≢ place → slice_index (tidied trie i place) q ≡ slice_index i q
unfolding tidied
tidied_beside trie i place q b n = turn (named_at trie i place) refl
  where
    turn : (o : Option ℕ) → named_at trie i place ≡ o → slice_index (tidy_in trie i place o) q ≡ slice_index i q
    turn None e = refl
    turn (Some slot) e =
        tidy_if trie i (tidy_node trie i place slot (child_at trie i slot false) (child_at trie i slot true)) q (slice_index i (place_of trie slot + 3) == 1)
        (node_beside trie i place slot q (child_at trie i slot false) (child_at trie i slot true) b n (named_below trie.count (slice_index i place) slot e))

unmarked_beside : (trie : Trie) (i : List ℕ) (place q : ℕ) → Beside trie q → slice_index (unmarked trie i place) q ≡ slice_index i q
unfolding unmarked
unmarked_beside trie i place q b = turn (named_at trie i place) refl
  where
    turn : (o : Option ℕ) → named_at trie i place ≡ o → slice_index (unmark_in trie i o) q ≡ slice_index i q
    turn None e = refl
    turn (Some slot) e =
        other i (place_of trie slot + 3) (flag_word false) q (λ k. b.nodes slot 3 (named_below trie.count (slice_index i place) slot e) (lit< tt) (sym k))

link_beside : (trie : Trie) (slot q : ℕ) (side : Bool) → Beside trie q → slot < trie.count → q ≢ link_of trie slot side
link_beside trie slot q false b h = λ e. b.nodes slot 4 h (lit< tt) (sym e)
link_beside trie slot q true b h = λ e. b.nodes slot 5 h (lit< tt) (sym e)

below_beside : (trie : Trie) (i : List ℕ) (key len place next q : ℕ) → Beside trie q → below_in trie i key len place ≡ Some next → q ≢ next
unfolding below_in
below_beside trie i key len place next q b e = turn (named_at trie i place) refl e
  where
    pick : (slot : ℕ) → slot < trie.count → (v : Bool) → (if v then Some (link_of trie slot (bit key (node_at trie i slot).len)) else None) ≡ Some next → q ≢ next
    pick slot h true k =
        let s : next ≡ link_of trie slot (bit key (node_at trie i slot).len) = cc in
        λ n. link_beside trie slot q (bit key (node_at trie i slot).len) b h (n ∙ s)
    pick slot h false k = absurd (cc)

    turn : (o : Option ℕ) → named_at trie i place ≡ o
        → elim o as (λ (x : Option ℕ). Option ℕ) [
          | None ↦ None
          | Some slot ↦ if agrees (node_at trie i slot).key key (node_at trie i slot).len && nat_lt (node_at trie i slot).len len
              then Some (link_of trie slot (bit key (node_at trie i slot).len)) else None
        ] ≡ Some next → q ≢ next
    turn None f k = absurd (cc)
    turn (Some slot) f k =
        pick slot (named_below trie.count (slice_index i place) slot f) (agrees (node_at trie i slot).key key (node_at trie i slot).len && nat_lt (node_at trie i slot).len len) k

from_beside : (trie : Trie) (i : List ℕ) (key len left place q : ℕ) → Beside trie q → q ≢ place → slice_index (removed_from trie i key len left place) q ≡ slice_index i q
from_beside trie i key len zero place q b n = refl
from_beside trie i key len (suc left) place q b n = turn (below_in trie i key len place) refl (λ next h. from_beside trie i key len left next q b h)
  where
    turn : (o : Option ℕ) → below_in trie i key len place ≡ o → ((next : ℕ) → q ≢ next → slice_index (removed_from trie i key len left next) q ≡ slice_index i q)
        → slice_index (elim o as (λ (x : Option ℕ). List ℕ) [ None ↦ tidied trie (unmarked trie i place) place | Some to ↦ tidied trie (removed_from trie i key len left to) place ]) q
        ≡ slice_index i q
    turn None e k = tidied_beside trie (unmarked trie i place) place q b n ∙ unmarked_beside trie i place q b
    turn (Some next) e k =
        tidied_beside trie (removed_from trie i key len left next) place q b n ∙ k next (below_beside trie i key len place next q b e)

-- a removal from a tree
pub removed_beside : (trie : Trie) (i : List ℕ) (key len q : ℕ) → Beside trie q → slice_index (removed trie i key len) q ≡ slice_index i q
unfolding removed
removed_beside trie i key len q b = from_beside trie i key len 129 trie.root q b b.root
