-- What giving a node back makes of the free ones.
use Rattle.std.proofs.Common.{◌≡◌, ◌≢◌, ℕ, ◌+◌, ◌-◌, ◌*◌, ◌^◌, ◌<◌, ◌≤◌, Bool, List, [], arith, eqb, false, if◌then◌else◌, length, length-set, lit<, rules, slice_index, slice_set, true, ◌==◌, ◌||◌, ◌∙◌, ◌∷◌}
use Rattle.std.specs.List.{AllByRecursion, IsDistinct, list_any}
use Rattle.std.proofs.lemmas.Bool.{ne_eqb}
use Rattle.std.proofs.lemmas.Bool.Decides.{nat_tests}
use Rattle.std.proofs.lemmas.Map.Steps.{length-le_from_distinct_below}
use Rattle.xf_cells.specs.Words.{next_count}
use Rattle.xf_trie.specs.declared.trie.Trie.{Trie}
use Rattle.xf_trie.specs.Nodes.{Lies, place_of}
use Rattle.xf_trie.specs.Pools.{Frees, IsPool, Lacks, Layout, Once}
use Rattle.xf_trie.specs.Spares.{gave, head_of, live_of, next_of}
use Rattle.xf_trie.proofs.Rooms.{block}
use Rattle.xf_trie.proofs.Stores.{here, other}
use Rattle.xf_trie.proofs.Taking.{SameNext, frees_same, next_same}
use Rattle.xf_trie.proofs.Tidying.{gave_out}

any_step : (n q x : ℕ) (b : Bool) → x < n → (b ≡ true → q < n) → (eqb q x || b) ≡ true → q < n
any_step n q x b h f e = grind (arith, nat_tests)

differs : (x : ℕ) (xs : List ℕ) → Lacks x xs → AllByRecursion (λ y. eqb x y ≡ false) xs
differs x [] m = search rules
differs x (y ∷ ys) m = (ne_eqb x y m.0, differs x ys m.1)

distinct : (xs : List ℕ) → Once xs → IsDistinct eqb xs
unfolding IsDistinct
distinct [] a = search rules
distinct (x ∷ xs) a = (differs x xs a.0, distinct xs a.1)

frees_any : (trie : Trie) (i : List ℕ) (at q : ℕ) (xs : List ℕ) → Frees trie i at xs → list_any (eqb q) xs ≡ true → q < trie.count
frees_any trie i at q [] f m = absurd (cc)
frees_any trie i at q (x ∷ xs) f m = any_step trie.count q x (list_any (eqb q) xs) f.1 (λ e. frees_any trie i (next_of trie i x) q xs f.2 e) m

one_more : (trie : Trie) (i : List ℕ) (slot : ℕ) (free : List ℕ) → slot < trie.count → Lacks slot free → IsPool trie i free → length free + 1 ≤ trie.count
one_more trie i slot free b n p =
    let h : length (slot ∷ free) ≤ trie.count = length-le_from_distinct_below (slot ∷ free) trie.count (distinct (slot ∷ free) (n, p.once))
    (λ q m. any_step trie.count q slot (list_any (eqb q) free) b (λ e. frees_any trie i (head_of trie i) q free p.frees e) m) in
    omega arith

frees_at : (trie : Trie) (i : List ℕ) (at : ℕ) (xs : List ℕ) → Frees trie i at xs → at ≤ trie.count
frees_at trie i at [] f = omega arith
frees_at trie i at (x ∷ xs) f = let e : at ≡ x = f.0 in let b : x < trie.count = f.1 in omega arith

-- a node that is given back comes first

next_gave : (trie : Trie) (i : List ℕ) (slot at : ℕ) (xs : List ℕ) → Layout trie → Frees trie i at xs → Lacks slot xs → SameNext trie i (gave trie i slot) xs
next_gave trie i slot at [] y f n = tt
next_gave trie i slot at (x ∷ xs) y f n =
    let d : slot ≢ x = n.0 in (
      next_same trie i (gave trie i slot) x (gave_out trie i slot (place_of trie x + 6) (λ e. d (omega arith)) (y.free x 6 f.1 (lit< tt)) (y.live x 6 f.1 (lit< tt))),
      next_gave trie i slot (next_of trie i x) xs y f.2 n.1,
    )

back_next : (h s w : ℕ) → h < 2 ^ 32 → w ≡ next_count h → (if w == 0 then s + 1 else w - 1) ≡ h
back_next h s w b e = grind (arith, nat_tests)

head_gave : (trie : Trie) (i : List ℕ) (slot : ℕ) → Lies trie (length i) → head_of trie (gave trie i slot) ≡ slot
unfolding gave
head_gave trie i slot l =
    let f : trie.free + 2 ≤ length i = l.free in
    let a : List ℕ = slice_set i (place_of trie slot + 6) (next_count (head_of trie i)) in
    let la : length a ≡ length i = length-set i (place_of trie slot + 6) (next_count (head_of trie i)) in
    other (slice_set a trie.free slot) (trie.free + 1) (live_of trie i - 1) trie.free (omega arith) ∙ here a trie.free slot (omega arith)

live_gave : (trie : Trie) (i : List ℕ) (slot : ℕ) → Lies trie (length i) → live_of trie (gave trie i slot) ≡ live_of trie i - 1
unfolding gave
live_gave trie i slot l =
    let f : trie.free + 2 ≤ length i = l.free in
    let a : List ℕ = slice_set i (place_of trie slot + 6) (next_count (head_of trie i)) in
    let la : length a ≡ length i = length-set i (place_of trie slot + 6) (next_count (head_of trie i)) in
    let lb : length (slice_set a trie.free slot) ≡ length a = length-set a trie.free slot in
    here (slice_set a trie.free slot) (trie.free + 1) (live_of trie i - 1) (omega arith)

word_gave : (trie : Trie) (i : List ℕ) (slot : ℕ) → Lies trie (length i) → Layout trie → slot < trie.count
    → slice_index (gave trie i slot) (place_of trie slot + 6) ≡ next_count (head_of trie i)
unfolding gave
word_gave trie i slot l y b =
    let w : place_of trie slot + 8 ≤ length i = block trie slot (length i) l b in
    let a : List ℕ = slice_set i (place_of trie slot + 6) (next_count (head_of trie i)) in
    other (slice_set a trie.free slot) (trie.free + 1) (live_of trie i - 1) (place_of trie slot + 6) (y.live slot 6 b (lit< tt))
    ∙ other a trie.free slot (place_of trie slot + 6) (y.free slot 6 b (lit< tt))
    ∙ here i (place_of trie slot + 6) (next_count (head_of trie i)) (omega arith)

pub pool_gave : (trie : Trie) (i : List ℕ) (slot : ℕ) (free : List ℕ) → Lies trie (length i) → Layout trie → slot < trie.count → Lacks slot free
    → IsPool trie i free → IsPool trie (gave trie i slot) (slot ∷ free)
pool_gave trie i slot free l y b n p =
    let h : head_of trie i ≤ trie.count = frees_at trie i (head_of trie i) free p.frees in
    let c : trie.nodes + 8 * trie.count ≤ length i = l.nodes in
    let z : length i < 2 ^ 32 = l.fits in
    let next : next_of trie (gave trie i slot) slot ≡ head_of trie i =
    back_next (head_of trie i) slot (slice_index (gave trie i slot) (place_of trie slot + 6)) (omega arith) (word_gave trie i slot l y b) in
    let more : length free + 1 ≤ trie.count = one_more trie i slot free b n p in
    let live : live_of trie (gave trie i slot) ≡ live_of trie i - 1 = live_gave trie i slot l in
    let count : live_of trie i + length free ≡ trie.count = p.count in
    record {
      frees = (
        head_gave trie i slot l,
        b,
        frees_same trie i (gave trie i slot) (head_of trie i) (next_of trie (gave trie i slot) slot) free next (next_gave trie i slot (head_of trie i) free y p.frees n) p.frees,
      );
      once = (n, p.once);
      count = omega arith;
    }
