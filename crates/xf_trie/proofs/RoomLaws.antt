-- Where two nodes are free there is room, and where there is room two can be taken.
use Rattle.std.proofs.Common.{◌≡◌, ℕ, ◌+◌, ◌<◌, ◌≤◌, Bool, List, [], ap, arith, length, nat_lt, subst, sym, true, ◌&&◌, ◌∙◌, ◌∷◌}
use Rattle.std.proofs.lemmas.Bool.{and_from, and_parts, lt-ltb, ltb-true}
use Rattle.xf_trie.specs.declared.trie.Trie.{Trie}
use Rattle.xf_trie.specs.Forests.{IsForest, at_root}
use Rattle.xf_trie.specs.Nodes.{Lies}
use Rattle.xf_trie.specs.Pools.{IsPool}
use Rattle.xf_trie.specs.Rooms.{has_room}
use Rattle.xf_trie.specs.Spares.{CanTake, head_of, live_of, next_of, took}
use Rattle.xf_trie.specs.Trees.{Tree}
use Rattle.xf_trie.proofs.Taking.{head_took, live_took}

-- the three tests that there is room
pub record Roomy (trie : Trie) (image : List ℕ) : Type 0 where
  pub head : head_of trie image < trie.count
  pub next : next_of trie image (head_of trie image) < trie.count
  pub live : live_of trie image + 1 < trie.count

pub roomy : (trie : Trie) (image : List ℕ) → has_room trie image ≡ true → Roomy trie image
roomy trie image e =
    let one : (nat_lt (head_of trie image) trie.count && nat_lt (next_of trie image (head_of trie image)) trie.count ≡ true) × (nat_lt (live_of trie image + 1) trie.count ≡ true) = and_parts _ _ e in
    let two : (nat_lt (head_of trie image) trie.count ≡ true) × (nat_lt (next_of trie image (head_of trie image)) trie.count ≡ true) = and_parts _ _ one.0 in
    record {
      head = ltb-true _ _ two.0;
      next = ltb-true _ _ two.1;
      live = ltb-true _ _ one.1;
    }

pub room_can : (trie : Trie) (image : List ℕ) (size : ℕ) → length image ≡ size → Lies trie size → has_room trie image ≡ true → CanTake trie image × CanTake trie (took trie image)
room_can trie image size n l e =
    let r : Roomy trie image = roomy trie image e in
    let lies : Lies trie (length image) = subst (λ (x : ℕ). Lies trie x) (sym n) l in
    let head : head_of trie image < trie.count = r.head in
    let next : next_of trie image (head_of trie image) < trie.count = r.next in
    let live : live_of trie image + 1 < trie.count = r.live in
    let a : head_of trie (took trie image) ≡ next_of trie image (head_of trie image) = head_took trie image lies in
    let b : live_of trie (took trie image) ≡ live_of trie image + 1 = live_took trie image lies in
    (record { head = head; live = omega arith }, record { head = omega arith; live = omega arith })

pub pool_room : (trie : Trie) (image free : List ℕ) → IsPool trie image free → 2 ≤ length free → has_room trie image ≡ true
pool_room trie image [] p h = absurd (omega arith)
pool_room trie image (a ∷ []) p h = absurd (omega arith)
pool_room trie image (a ∷ (b ∷ rest)) p h =
    let head : head_of trie image ≡ a = p.frees.0 in
    let first : a < trie.count = p.frees.1 in
    let next : next_of trie image (head_of trie image) ≡ b = ap (λ s. next_of trie image s) head ∙ p.frees.2.0 in
    let second : b < trie.count = p.frees.2.1 in
    let count : live_of trie image + length (a ∷ (b ∷ rest)) ≡ trie.count = p.count in
    let one : nat_lt (head_of trie image) trie.count ≡ true = lt-ltb (head_of trie image) trie.count (omega arith) in
    let two : nat_lt (next_of trie image (head_of trie image)) trie.count ≡ true = lt-ltb (next_of trie image (head_of trie image)) trie.count (omega arith) in
    and_from _ _ (and_from _ _ one two) (lt-ltb (live_of trie image + 1) trie.count (omega arith))

pub forest_room : (trie : Trie) (image : List ℕ) (roots : ℕ → Bool) (trees : ℕ → Tree) (free : List ℕ) (root : ℕ)
    → IsForest trie image roots trees free → 2 ≤ length free → has_room (at_root trie root) image ≡ true
forest_room trie image roots trees free root f h = pool_room trie image free f.pool h
