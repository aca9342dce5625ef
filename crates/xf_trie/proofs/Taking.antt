-- What taking nodes makes of the free ones.
use Rattle.std.proofs.Common.{◌≡◌, ℕ, ◌+◌, ◌-◌, ◌<◌, ◌≤◌, List, [], ap, arith, if◌then◌else◌, length, length-set, lit<, slice_index, slice_set, ◌==◌, ◌∙◌, ◌∷◌}
use Rattle.std.specs.Prelude.{⊤}
use Rattle.xf_trie.specs.declared.trie.Trie.{Trie}
use Rattle.xf_trie.specs.Nodes.{Lies, place_of}
use Rattle.xf_trie.specs.Pools.{Frees, IsPool, Layout}
use Rattle.xf_trie.specs.Spares.{CanTake, head_of, live_of, next_of, took}
use Rattle.xf_trie.proofs.PutWays.{Ready, Rooted}
use Rattle.xf_trie.proofs.Rooms.{Spread}
use Rattle.xf_trie.proofs.Stores.{here, other, took_out}

pub next_same : (trie : Trie) (i j : List ℕ) (s : ℕ) → slice_index j (place_of trie s + 6) ≡ slice_index i (place_of trie s + 6) → next_of trie j s ≡ next_of trie i s
next_same trie i j s e = ap (λ (w : ℕ). if w == 0 then s + 1 else w - 1) e

pub head_took : (trie : Trie) (i : List ℕ) → Lies trie (length i) → head_of trie (took trie i) ≡ next_of trie i (head_of trie i)
unfolding took
head_took trie i l =
    let f : trie.free + 2 ≤ length i = l.free in
    other (slice_set i trie.free (next_of trie i (head_of trie i))) (trie.free + 1) (live_of trie i + 1) trie.free (omega arith)
    ∙ here i trie.free (next_of trie i (head_of trie i)) (omega arith)

pub live_took : (trie : Trie) (i : List ℕ) → Lies trie (length i) → live_of trie (took trie i) ≡ live_of trie i + 1
unfolding took
live_took trie i l =
    let f : trie.free + 2 ≤ length i = l.free in
    here (slice_set i trie.free (next_of trie i (head_of trie i))) (trie.free + 1) (live_of trie i + 1)
    (omega (arith, length-set i trie.free (next_of trie i (head_of trie i))))

pub next_took : (trie : Trie) (i : List ℕ) (s : ℕ) → Layout trie → s < trie.count → next_of trie (took trie i) s ≡ next_of trie i s
next_took trie i s y b = next_same trie i (took trie i) s (took_out trie i (place_of trie s + 6) (y.free s 6 b (lit< tt)) (y.live s 6 b (lit< tt)))

-- what comes after each of these free nodes is the same in both images
abbrev pub SameNext : Trie → List ℕ → List ℕ → List ℕ → Type 0
SameNext trie i j [] = ⊤
SameNext trie i j (x ∷ xs) = (next_of trie j x ≡ next_of trie i x) × SameNext trie i j xs

pub frees_same : (trie : Trie) (i j : List ℕ) (at to : ℕ) (xs : List ℕ)
    → to ≡ at → SameNext trie i j xs → Frees trie i at xs → Frees trie j to xs
frees_same trie i j at to [] e f s = e ∙ s
frees_same trie i j at to (x ∷ xs) e f s =
    (e ∙ s.0, s.1, frees_same trie i j (next_of trie i x) (next_of trie j x) xs f.0 f.1 s.2)

-- two free nodes come first
pub ready : (trie : Trie) (i : List ℕ) (s1 s2 : ℕ) (rest : List ℕ) → Lies trie (length i) → IsPool trie i (s1 ∷ (s2 ∷ rest)) → Ready trie i s1 s2
ready trie i s1 s2 rest l p = record {
  first = p.frees.0;
  second = head_took trie i l ∙ ap (λ h. next_of trie i h) p.frees.0 ∙ p.frees.2.0;
  first_below = p.frees.1;
  second_below = p.frees.2.1;
  differ = p.once.0.0;
}

pub can_take : (trie : Trie) (i : List ℕ) (s1 s2 : ℕ) (rest : List ℕ) → Lies trie (length i) → IsPool trie i (s1 ∷ (s2 ∷ rest)) → CanTake trie i × CanTake trie (took trie i)
can_take trie i s1 s2 rest l p =
    let r : Ready trie i s1 s2 = ready trie i s1 s2 rest l p in
    let c : live_of trie i + length (s1 ∷ (s2 ∷ rest)) ≡ trie.count = p.count in
    let b1 : s1 < trie.count = r.first_below in
    let b2 : s2 < trie.count = r.second_below in
    let e1 : head_of trie i ≡ s1 = r.first in
    let e2 : head_of trie (took trie i) ≡ s2 = r.second in
    let e3 : live_of trie (took trie i) ≡ live_of trie i + 1 = live_took trie i l in
    (record { head = omega arith; live = omega arith }, record { head = omega arith; live = omega arith })

-- two spare nodes can be taken
pub can_both : (trie : Trie) (i : List ℕ) (free : List ℕ) → Lies trie (length i) → IsPool trie i free → 2 ≤ length free → CanTake trie i × CanTake trie (took trie i)
can_both trie i [] l p h = absurd (omega arith)
can_both trie i (s1 ∷ []) l p h = absurd (omega arith)
can_both trie i (s1 ∷ (s2 ∷ rest)) l p h = can_take trie i s1 s2 rest l p

pub spread : (trie : Trie) → Layout trie → Spread trie
spread trie y = record { free = y.free; live = y.live }

pub rooted : (trie : Trie) → Layout trie → Rooted trie
rooted trie y = record { nodes = y.root; free = y.root_free; live = y.root_live }
