-- Nodes in words that were written.
use Rattle.std.proofs.Common.{◌≡◌, ℕ, ◌+◌, ◌*◌, ◌/◌, ◌%◌, ◌^◌, ◌<◌, ◌≤◌, Bool, List, None, Some, ap, arith, false, lit<, min, refl, slice_index, sym, true, ◌==◌, ◌∙◌}
use Rattle.std.proofs.lemmas.Bool.Decides.{nat_tests}
use Rattle.xf_trie.specs.declared.trie.Trie.{Trie}
use Rattle.xf_trie.specs.Insertions.{flag_word}
use Rattle.xf_trie.specs.Nodes.{node_at, place_of, slot_of}
use Rattle.xf_trie.specs.Puts.{node_of}
use Rattle.xf_trie.proofs.Stores.{Wrote}

-- the words of a node are the same in both images
abbrev pub SameNode : Trie → List ℕ → List ℕ → ℕ → Type 0
SameNode trie i j slot = (k : ℕ) → k < 6 → slice_index j (place_of trie slot + k) ≡ slice_index i (place_of trie slot + k)

same_first : (trie : Trie) (i j : List ℕ) (slot : ℕ) → slice_index j (place_of trie slot + 0) ≡ slice_index i (place_of trie slot + 0)
    → slice_index j (place_of trie slot) ≡ slice_index i (place_of trie slot)
same_first trie i j slot e =
    let z : place_of trie slot + 0 ≡ place_of trie slot = omega arith in
    ap (λ p. slice_index j p) (sym z) ∙ e ∙ ap (λ p. slice_index i p) z

pub wrote_same : (trie : Trie) (i j : List ℕ) (slot key len : ℕ) (marked : Bool) (left right : ℕ) → SameNode trie i j slot
    → Wrote trie i slot key len marked left right → Wrote trie j slot key len marked left right
wrote_same trie i j slot key len marked left right f w = record {
  high = same_first trie i j slot (f 0 (lit< tt)) ∙ w.high;
  low = f 1 (lit< tt) ∙ w.low;
  size = f 2 (lit< tt) ∙ w.size;
  mark = f 3 (lit< tt) ∙ w.mark;
  zeros = f 4 (lit< tt) ∙ w.zeros;
  ones = f 5 (lit< tt) ∙ w.ones;
}

pub node_parts : (slot a b c d x y z : ℕ) (marked : Bool) → a * 2 ^ 64 + b ≡ x → min c 128 ≡ y → (d == 1) ≡ marked
    → node_of slot (a * 2 ^ 64 + b) (min c 128) (d == 1) ≡ node_of slot x y marked
node_parts slot a b c d x y z marked e f g =
    ap (λ k. node_of slot k (min c 128) (d == 1)) e ∙ ap (λ k. node_of slot x k (d == 1)) f ∙ ap (λ m. node_of slot x y m) g

-- but for its links
abbrev pub SameHead : Trie → List ℕ → List ℕ → ℕ → Type 0
SameHead trie i j slot = (k : ℕ) → k < 4 → slice_index j (place_of trie slot + k) ≡ slice_index i (place_of trie slot + k)

pub head_same : (trie : Trie) (i j : List ℕ) (slot : ℕ) → SameNode trie i j slot → SameHead trie i j slot
head_same trie i j slot f = λ k b. f k (omega arith)

pub node_same : (trie : Trie) (i j : List ℕ) (slot : ℕ) → SameHead trie i j slot → node_at trie j slot ≡ node_at trie i slot
node_same trie i j slot f =
    let a : slice_index j (place_of trie slot) ≡ slice_index i (place_of trie slot) = same_first trie i j slot (f 0 (lit< tt)) in
    let b : slice_index j (place_of trie slot + 1) ≡ slice_index i (place_of trie slot + 1) = f 1 (lit< tt) in
    let c : slice_index j (place_of trie slot + 2) ≡ slice_index i (place_of trie slot + 2) = f 2 (lit< tt) in
    let d : slice_index j (place_of trie slot + 3) ≡ slice_index i (place_of trie slot + 3) = f 3 (lit< tt) in
    cc

pub flag_is : (b : Bool) → (flag_word b == 1) ≡ b
flag_is true = refl
flag_is false = refl

halves_back : (key : ℕ) → key / 2 ^ 64 * 2 ^ 64 + key % 2 ^ 64 ≡ key
halves_back key = omega arith

pub node_wrote : (trie : Trie) (j : List ℕ) (slot key len : ℕ) (marked : Bool) (left right : ℕ) → len ≤ 128
    → Wrote trie j slot key len marked left right → node_at trie j slot ≡ node_of slot key len marked
node_wrote trie j slot key len marked left right h w =
    node_parts slot _ _ _ _ key len 0 marked
    (ap (λ a. a * 2 ^ 64 + slice_index j (place_of trie slot + 1)) w.high ∙ ap (λ b. key / 2 ^ 64 * 2 ^ 64 + b) w.low ∙ halves_back key)
    (ap (λ c. min c 128) w.size ∙ omega arith)
    (ap (λ d. d == 1) w.mark ∙ flag_is marked)

pub names : (n s : ℕ) → s < n → slot_of n (s + 1) ≡ Some s
names n s h = grind (arith, nat_tests)

pub named_below : (n w s : ℕ) → slot_of n w ≡ Some s → s < n
named_below n w s h = grind (arith, nat_tests)

pub names_none : (n : ℕ) → slot_of n 0 ≡ None
names_none n = refl
