-- A removal leaves as many words as there were.
use Rattle.std.proofs.Common.{◌≡◌, ℕ, zero, suc, ◌+◌, ◌==◌, Bool, true, false, List, Option, None, Some, if◌then◌else◌, is_some, length, length-set, refl, ◌∙◌, slice_index, slice_set}
use Rattle.xf_trie.specs.declared.trie.Trie.{Trie}
use Rattle.xf_trie.specs.Insertions.{below_of, flag_word}
use Rattle.xf_trie.specs.Nodes.{child_at, named_at, place_of}
use Rattle.xf_trie.specs.Removals.{removed, removed_from, tidied, tidy_in, tidy_node, unmark_in, unmarked}
use Rattle.xf_trie.specs.Spares.{gave}
use Rattle.xf_trie.specs.Walks.{find_of}
use Rattle.xf_inexact.specs.Dropped.{dropped, names_one}

moved_size : (trie : Trie) (i : List ℕ) (place word slot : ℕ) → length (gave trie (slice_set i place word) slot) ≡ length i
unfolding gave
moved_size trie i place word slot = length-set _ _ _ ∙ length-set _ _ _ ∙ length-set _ _ _ ∙ length-set i place word

node_size : (trie : Trie) (i : List ℕ) (place slot : ℕ) (left right : Option ℕ) → length (tidy_node trie i place slot left right) ≡ length i
node_size trie i place slot None right = moved_size trie i place (slice_index i (place_of trie slot + 5)) slot
node_size trie i place slot (Some l) None = moved_size trie i place (slice_index i (place_of trie slot + 4)) slot
node_size trie i place slot (Some l) (Some r) = refl

size_if : (i j : List ℕ) (v : Bool) → length j ≡ length i → length (if v then i else j) ≡ length i
size_if i j true e = refl
size_if i j false e = e

in_size : (trie : Trie) (i : List ℕ) (place : ℕ) (o : Option ℕ) → length (tidy_in trie i place o) ≡ length i
in_size trie i place None = refl
in_size trie i place (Some slot) =
    size_if i (tidy_node trie i place slot (child_at trie i slot false) (child_at trie i slot true)) (slice_index i (place_of trie slot + 3) == 1)
    (node_size trie i place slot (child_at trie i slot false) (child_at trie i slot true))

tidied_size : (trie : Trie) (i : List ℕ) (place : ℕ) → length (tidied trie i place) ≡ length i
unfolding tidied
tidied_size trie i place = in_size trie i place (named_at trie i place)

unmark_size : (trie : Trie) (i : List ℕ) (o : Option ℕ) → length (unmark_in trie i o) ≡ length i
unmark_size trie i None = refl
unmark_size trie i (Some slot) = length-set i (place_of trie slot + 3) (flag_word false)

unmarked_size : (trie : Trie) (i : List ℕ) (place : ℕ) → length (unmarked trie i place) ≡ length i
unfolding unmarked
unmarked_size trie i place = unmark_size trie i (named_at trie i place)

from_size : (trie : Trie) (i : List ℕ) (key len left place : ℕ) → length (removed_from trie i key len left place) ≡ length i
from_size trie i key len zero place = refl
from_size trie i key len (suc left) place = turn (below_of trie i key len place) (λ next. from_size trie i key len left next)
  where
    turn : (o : Option ℕ) → ((next : ℕ) → length (removed_from trie i key len left next) ≡ length i)
        → length (elim o as (λ (x : Option ℕ). List ℕ) [ None ↦ tidied trie (unmarked trie i place) place | Some to ↦ tidied trie (removed_from trie i key len left to) place ])
        ≡ length i
    turn None k = tidied_size trie (unmarked trie i place) place ∙ unmarked_size trie i place
    turn (Some next) k = tidied_size trie (removed_from trie i key len left next) place ∙ k next

pub removed_size : (trie : Trie) (i : List ℕ) (key len : ℕ) → length (removed trie i key len) ≡ length i
unfolding removed
removed_size trie i key len = from_size trie i key len 129 trie.root

pub dropped_size : (trie : Trie) (i : List ℕ) (key len place count : ℕ) → length (dropped trie i key len place count) ≡ length i
unfolding dropped
dropped_size trie i key len place count = turn (names_one i place count) (is_some (find_of trie i key len))
  where
    turn : (v w : Bool) → length (if v then i else if w then removed trie i key len else i) ≡ length i
    turn true w = refl
    turn false true = removed_size trie i key len
    turn false false = refl
