-- What single stores leave of the words.
use Rattle.std.proofs.Common.{◌≡◌, ◌≢◌, ℕ, ◌+◌, ◌/◌, ◌%◌, ◌^◌, ◌<◌, ◌≤◌, Bool, List, arith, get_or-set_other, get_or-set_same, length, length-set, lit<, slice_index, slice_set, ◌∙◌}
use Rattle.xf_trie.specs.declared.trie.Trie.{Trie}
use Rattle.xf_trie.specs.Insertions.{flag_word, written}
use Rattle.xf_trie.specs.Nodes.{place_of}
use Rattle.xf_trie.specs.Spares.{took}

pub other : (i : List ℕ) (p v q : ℕ) → q ≢ p → slice_index (slice_set i p v) q ≡ slice_index i q
other i p v q n = get_or-set_other i p q v 0 n

pub here : (i : List ℕ) (p v : ℕ) → p < length i → slice_index (slice_set i p v) p ≡ v
here i p v h = get_or-set_same i p v 0 h

pub length-took : (trie : Trie) (i : List ℕ) → length (took trie i) ≡ length i
unfolding took
length-took trie i = length-set _ _ _ ∙ length-set _ _ _

pub took_out : (trie : Trie) (i : List ℕ) (q : ℕ) → q ≢ trie.free → q ≢ trie.free + 1 → slice_index (took trie i) q ≡ slice_index i q
unfolding took
took_out trie i q n m = other _ _ _ q m ∙ other _ _ _ q n

pub length-written : (trie : Trie) (i : List ℕ) (slot key len : ℕ) (marked : Bool) (left right : ℕ)
    → length (written trie i slot key len marked left right) ≡ length i
unfolding written
length-written trie i slot key len marked left right =
    length-set _ _ _ ∙ length-set _ _ _ ∙ length-set _ _ _ ∙ length-set _ _ _ ∙ length-set _ _ _ ∙ length-set _ _ _

pub written_out : (trie : Trie) (i : List ℕ) (slot key len : ℕ) (marked : Bool) (left right q : ℕ)
    → ((k : ℕ) → k < 8 → q ≢ place_of trie slot + k)
    → slice_index (written trie i slot key len marked left right) q ≡ slice_index i q
unfolding written
written_out trie i slot key len marked left right q n =
    let n0 : q ≢ place_of trie slot + 0 = n 0 (lit< tt) in
    let m0 : q ≢ place_of trie slot = omega arith in
    other _ (place_of trie slot + 5) _ q (n 5 (lit< tt)) ∙ other _ (place_of trie slot + 4) _ q (n 4 (lit< tt)) ∙ other _ (place_of trie slot + 3) _ q (n 3 (lit< tt))
    ∙ other _ (place_of trie slot + 2) _ q (n 2 (lit< tt)) ∙ other _ (place_of trie slot + 1) _ q (n 1 (lit< tt)) ∙ other _ (place_of trie slot) _ q m0

-- The words of a node.
pub record Wrote (trie : Trie) (j : List ℕ) (slot key len : ℕ) (marked : Bool) (left right : ℕ) : Type 0 where
  pub high : slice_index j (place_of trie slot) ≡ key / 2 ^ 64
  pub low : slice_index j (place_of trie slot + 1) ≡ key % 2 ^ 64
  pub size : slice_index j (place_of trie slot + 2) ≡ len
  pub mark : slice_index j (place_of trie slot + 3) ≡ flag_word marked
  pub zeros : slice_index j (place_of trie slot + 4) ≡ left
  pub ones : slice_index j (place_of trie slot + 5) ≡ right

pub wrote : (trie : Trie) (i : List ℕ) (slot key len : ℕ) (marked : Bool) (left right : ℕ)
    → place_of trie slot + 8 ≤ length i
    → Wrote trie (written trie i slot key len marked left right) slot key len marked left right
unfolding written
wrote trie i slot key len marked left right h =
    let P : ℕ = place_of trie slot in
    let a : List ℕ = slice_set i P (key / 2 ^ 64) in
    let b : List ℕ = slice_set a (P + 1) (key % 2 ^ 64) in
    let c : List ℕ = slice_set b (P + 2) len in
    let d : List ℕ = slice_set c (P + 3) (flag_word marked) in
    let e : List ℕ = slice_set d (P + 4) left in
    let la : length a ≡ length i = length-set i P (key / 2 ^ 64) in
    let lb : length b ≡ length a = length-set a (P + 1) (key % 2 ^ 64) in
    let lc : length c ≡ length b = length-set b (P + 2) len in
    let ld : length d ≡ length c = length-set c (P + 3) (flag_word marked) in
    let le : length e ≡ length d = length-set d (P + 4) left in
    record {
      high = other e (P + 5) right P (omega arith) ∙ other d (P + 4) left P (omega arith) ∙ other c (P + 3) (flag_word marked) P (omega arith) ∙ other b (P + 2) len P (omega arith) ∙ other a (P + 1) (key % 2 ^ 64) P (omega arith) ∙ here i P (key / 2 ^ 64) (omega arith);
      low = other e (P + 5) right (P + 1) (omega arith) ∙ other d (P + 4) left (P + 1) (omega arith) ∙ other c (P + 3) (flag_word marked) (P + 1) (omega arith) ∙ other b (P + 2) len (P + 1) (omega arith) ∙ here a (P + 1) (key % 2 ^ 64) (omega arith);
      size = other e (P + 5) right (P + 2) (omega arith) ∙ other d (P + 4) left (P + 2) (omega arith) ∙ other c (P + 3) (flag_word marked) (P + 2) (omega arith) ∙ here b (P + 2) len (omega arith);
      mark = other e (P + 5) right (P + 3) (omega arith) ∙ other d (P + 4) left (P + 3) (omega arith) ∙ here c (P + 3) (flag_word marked) (omega arith);
      zeros = other e (P + 5) right (P + 4) (omega arith) ∙ here d (P + 4) left (omega arith);
      ones = here e (P + 5) right (omega arith);
    }
