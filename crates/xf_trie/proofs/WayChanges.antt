-- A change at the end of a way, seen from its front.
use Rattle.std.proofs.Common.{◌≡◌, ◌≢◌, ℕ, zero, suc, ◌+◌, ◌<◌, ◌≤◌, Bool, List, None, Option, Some, ap, arith, false, if◌then◌else◌, lit<, nat_lt, not, refl, rules, slice_index, subst, sym, true, ◌&&◌, ◌∙◌}
use Rattle.xf_trie.specs.declared.trie.Node.{Node}
use Rattle.xf_trie.specs.declared.trie.Trie.{Trie}
use Rattle.xf_trie.specs.Insertions.{below_of, shared_with, spot_from}
use Rattle.xf_trie.specs.Keys.{agrees, bit}
use Rattle.xf_trie.specs.Nodes.{child_at, link_of, node_at, place_of, slot_of}
use Rattle.xf_trie.specs.Puts.{put_here, put_tree}
use Rattle.xf_trie.specs.Slots.{Disjoint, Distinct, Misses}
use Rattle.xf_trie.specs.Trees.{Fork, Leaf, Stands, Tree}
use Rattle.xf_trie.proofs.Nodes.{named_below, node_same}
use Rattle.xf_trie.proofs.Paths.{height}
use Rattle.xf_trie.proofs.Slots.{disjoint_sym}
use Rattle.xf_trie.proofs.Standing.{Inside, OutOf, SameNodes, inside, link_other, out_link, out_words, stands_at, stands_same}
use Rattle.xf_trie.proofs.Stores.{here}
use Rattle.xf_trie.proofs.Ways.{spot_goes, spot_names, spot_other, spot_stops, step_none, step_of}

-- the nodes' words that a change at a link leaves: but for two nodes, the node at the link and the link
abbrev pub Leaves : Trie → List ℕ → List ℕ → ℕ → ℕ → ℕ → Type 0
Leaves trie i j s1 s2 q =
    (s k : ℕ) → s < trie.count → k < 6 → s ≢ s1 → s ≢ s2 → slot_of trie.count (slice_index i q) ≢ Some s → place_of trie s + k ≢ q
    → slice_index j (place_of trie s + k) ≡ slice_index i (place_of trie s + k)

-- what is away from a change
pub record Away (trie : Trie) (i : List ℕ) (q s : ℕ) : Type 0 where
  pub names : slot_of trie.count (slice_index i q) ≢ Some s
  pub place : (k : ℕ) → k < 6 → place_of trie s + k ≢ q

same_beside : (trie : Trie) (i j : List ℕ) (s1 s2 q up : ℕ) (t u : Tree) → Leaves trie i j s1 s2 q
    → ((s : ℕ) → s ≢ up → Misses s u → Away trie i q s) → Misses s1 t → Misses s2 t → Misses up t → Disjoint t u → Inside trie.count t → SameNodes trie i j t
same_beside trie i j s1 s2 q up Leaf u f a m1 m2 mu d n = search rules
same_beside trie i j s1 s2 q up (Fork node l r) u f a m1 m2 mu d n =
    let w : Away trie i q node.slot = a node.slot (λ e. mu.0 (sym e)) d.0 in (
      (λ k b. f node.slot k n.0 b (λ e. m1.0 (sym e)) (λ e. m2.0 (sym e)) w.names (w.place k b)),
      same_beside trie i j s1 s2 q up l u f a m1.1 m2.1 mu.1 d.1 n.1,
      same_beside trie i j s1 s2 q up r u f a m1.2 m2.2 mu.2 d.2 n.2,
    )

away_from : (trie : Trie) (i : List ℕ) (key len up left : ℕ) (side : Bool) (u : Tree) → height u ≤ left
    → Stands trie i (slot_of trie.count (slice_index i (link_of trie up side))) u
    → (s : ℕ) → s ≢ up → Misses s u → Away trie i (spot_from trie i key len left (link_of trie up side)) s
away_from trie i key len up left side u h st s n m = record {
  names = spot_names trie i key len s left (link_of trie up side) u h st m;
  place = λ k b. spot_other trie i key len (place_of trie s + k) left (link_of trie up side) u h st
      (link_other trie up side (place_of trie s + k) (λ x c e. n (omega arith))) (out_words trie s k u (omega arith) m);
}

-- The end of the way: what stands there is changed as the tree is.
pub record Ends (trie : Trie) (i j : List ℕ) (s1 s2 key len q : ℕ) : Type 0 where
  pub leaves : Leaves trie i j s1 s2 q
  pub ends : (u : Tree) → Stands trie i (slot_of trie.count (slice_index i q)) u → Misses s1 u → Misses s2 u → Distinct u → OutOf trie q u
      → below_of trie i key len q ≡ None → Stands trie j (slot_of trie.count (slice_index j q)) (put_tree s1 s2 key len u)

end_at : (trie : Trie) (i j : List ℕ) (s1 s2 key len q place : ℕ) (t : Tree) → Ends trie i j s1 s2 key len q → q ≡ place
    → Stands trie i (slot_of trie.count (slice_index i place)) t → Misses s1 t → Misses s2 t → Distinct t → OutOf trie place t
    → below_of trie i key len place ≡ None → Stands trie j (slot_of trie.count (slice_index j place)) (put_tree s1 s2 key len t)
end_at trie i j s1 s2 key len q place t f e s m1 m2 d o b =
    subst (λ (p : ℕ). Stands trie j (slot_of trie.count (slice_index j p)) (put_tree s1 s2 key len t)) e
    (f.ends t (subst (λ (p : ℕ). Stands trie i (slot_of trie.count (slice_index i p)) t) (sym e) s) m1 m2 d
    (subst (λ (p : ℕ). OutOf trie p t) (sym e) o) (subst (λ (p : ℕ). below_of trie i key len p ≡ None) (sym e) b))

head_link : (trie : Trie) (slot k : ℕ) (side : Bool) → k < 4 → place_of trie slot + k ≢ link_of trie slot side
head_link trie slot k false b = λ e. absurd (omega arith)
head_link trie slot k true b = λ e. absurd (omega arith)

other_link : (trie : Trie) (i j : List ℕ) (slot : ℕ) (side : Bool)
    → ((k : ℕ) → k < 6 → place_of trie slot + k ≢ link_of trie slot side → slice_index j (place_of trie slot + k) ≡ slice_index i (place_of trie slot + k))
    → slice_index j (link_of trie slot (not side)) ≡ slice_index i (link_of trie slot (not side))
other_link trie i j slot false f = f 5 (lit< tt) (λ e. absurd (omega arith))
other_link trie i j slot true f = f 4 (lit< tt) (λ e. absurd (omega arith))

link_word : (trie : Trie) (i j : List ℕ) (s1 s2 q slot : ℕ) (side : Bool) → Leaves trie i j s1 s2 q → slot < trie.count → slot ≢ s1 → slot ≢ s2
    → slot_of trie.count (slice_index i q) ≢ Some slot → link_of trie slot side ≢ q → slice_index j (link_of trie slot side) ≡ slice_index i (link_of trie slot side)
link_word trie i j s1 s2 q slot false f h a b c d = f slot 4 h (lit< tt) a b c d
link_word trie i j s1 s2 q slot true f h a b c d = f slot 5 h (lit< tt) a b c d

put_shape : (s1 s2 key len : ℕ) (trie : Trie) (j : List ℕ) (node : Node) (l r : Tree) (at : Option ℕ) (v b : Bool)
    → (agrees node.key key node.len && nat_lt node.len len) ≡ v → bit key node.len ≡ b
    → Stands trie j at (if v then (if b then Fork node l (put_tree s1 s2 key len r) else Fork node (put_tree s1 s2 key len l) r) else put_here s1 s2 key len node l r (shared_with node key len))
    → Stands trie j at (put_tree s1 s2 key len (Fork node l r))
put_shape s1 s2 key len trie j node l r at v b ev eb s =
    subst (λ (x : Bool). Stands trie j at (if x then (if bit key node.len then Fork node l (put_tree s1 s2 key len r) else Fork node (put_tree s1 s2 key len l) r) else put_here s1 s2 key len node l r (shared_with node key len))) (sym ev)
    (subst (λ (y : Bool). Stands trie j at (if v then (if y then Fork node l (put_tree s1 s2 key len r) else Fork node (put_tree s1 s2 key len l) r) else put_here s1 s2 key len node l r (shared_with node key len))) (sym eb) s)

-- the node above the way's rest stays
up_stands : (trie : Trie) (i j : List ℕ) (s1 s2 key len q place left : ℕ) (node : Node) (l r : Tree) (side : Bool) (u : Tree)
    → Leaves trie i j s1 s2 q → Stands trie i (slot_of trie.count (slice_index i place)) (Fork node l r)
    → s1 ≢ node.slot → s2 ≢ node.slot → Misses node.slot u → height u ≤ left → OutOf trie place (Fork node l r) → OutOf trie place u
    → Stands trie i (slot_of trie.count (slice_index i (link_of trie node.slot side))) u
    → q ≡ spot_from trie i key len left (link_of trie node.slot side)
    → (place ≢ q → slice_index j place ≡ slice_index i place)
    → (slot_of trie.count (slice_index j place) ≡ Some node.slot) × (node_at trie j node.slot ≡ node)
    × (child_at trie j node.slot (not side) ≡ child_at trie i node.slot (not side))
    × (link_of trie node.slot side ≢ q → slice_index j (link_of trie node.slot side) ≡ slice_index i (link_of trie node.slot side))
up_stands trie i j s1 s2 key len q place left node l r side u f s n1 n2 mu h o ou st e here =
    let names : slot_of trie.count (slice_index i q) ≢ Some node.slot =
    subst (λ (p : ℕ). slot_of trie.count (slice_index i p) ≢ Some node.slot) (sym e) (spot_names trie i key len node.slot left (link_of trie node.slot side) u h st mu) in
    let np : place ≢ q =
    subst (λ (p : ℕ). place ≢ p) (sym e) (spot_other trie i key len place left (link_of trie node.slot side) u h st (link_other trie node.slot side place o.0) ou) in
    let word : (k : ℕ) → k < 6 → place_of trie node.slot + k ≢ link_of trie node.slot side → slice_index j (place_of trie node.slot + k) ≡ slice_index i (place_of trie node.slot + k) =
    λ k b n. f node.slot k (named_below trie.count (slice_index i place) node.slot s.0) b (λ x. n1 (sym x)) (λ x. n2 (sym x)) names
    (subst (λ (p : ℕ). place_of trie node.slot + k ≢ p) (sym e)
    (spot_other trie i key len (place_of trie node.slot + k) left (link_of trie node.slot side) u h st n (out_words trie node.slot k u (omega arith) mu))) in (
      ap (λ w. slot_of trie.count w) (here np) ∙ s.0,
      node_same trie i j node.slot (λ k b. word k (omega arith) (head_link trie node.slot k side b)) ∙ s.1,
      ap (λ w. slot_of trie.count w) (other_link trie i j node.slot side word),
      link_word trie i j s1 s2 q node.slot side f (named_below trie.count (slice_index i place) node.slot s.0) (λ x. n1 (sym x)) (λ x. n2 (sym x)) names,
    )

put_go : (trie : Trie) (i j : List ℕ) (s1 s2 key len q place n : ℕ) (node : Node) (l r : Tree) (v b : Bool) → Ends trie i j s1 s2 key len q
    → (agrees node.key key node.len && nat_lt node.len len) ≡ v → bit key node.len ≡ b
    → height (Fork node l r) ≤ suc n
    → Stands trie i (slot_of trie.count (slice_index i place)) (Fork node l r)
    → Misses s1 (Fork node l r) → Misses s2 (Fork node l r) → Distinct (Fork node l r) → OutOf trie place (Fork node l r)
    → q ≡ spot_from trie i key len (suc n) place
    → (place ≢ q → slice_index j place ≡ slice_index i place)
    → (q ≡ spot_from trie i key len n (link_of trie node.slot false) → (link_of trie node.slot false ≢ q → slice_index j (link_of trie node.slot false) ≡ slice_index i (link_of trie node.slot false))
    → Stands trie j (slot_of trie.count (slice_index j (link_of trie node.slot false))) (put_tree s1 s2 key len l))
    → (q ≡ spot_from trie i key len n (link_of trie node.slot true) → (link_of trie node.slot true ≢ q → slice_index j (link_of trie node.slot true) ≡ slice_index i (link_of trie node.slot true))
    → Stands trie j (slot_of trie.count (slice_index j (link_of trie node.slot true))) (put_tree s1 s2 key len r))
    → Stands trie j (slot_of trie.count (slice_index j place)) (put_tree s1 s2 key len (Fork node l r))
put_go trie i j s1 s2 key len q place n node l r false b f ev eb h s m1 m2 d o e here hl hr =
    let none : below_of trie i key len place ≡ None = step_of trie i key len place node.slot node false s.0 s.1 ev in
    end_at trie i j s1 s2 key len q place (Fork node l r) f (e ∙ spot_stops trie i key len (suc n) place none) s m1 m2 d o none
put_go trie i j s1 s2 key len q place n node l r true false f ev eb h s m1 m2 d o e here hl hr =
    let way : q ≡ spot_from trie i key len n (link_of trie node.slot false) =
    e ∙ spot_goes trie i key len n place (link_of trie node.slot false) (step_of trie i key len place node.slot node true s.0 s.1 ev ∙ ap (λ x. Some (link_of trie node.slot x)) eb) in
    let up = up_stands trie i j s1 s2 key len q place n node l r false l f.leaves s m1.0 m2.0 d.0 (omega arith) o o.1 s.2 way here in
    let beside : SameNodes trie i j r = same_beside trie i j s1 s2 q node.slot r l f.leaves
    (λ x a m. subst (λ (p : ℕ). Away trie i p x) (sym way) (away_from trie i key len node.slot n false l (omega arith) s.2 x a m)) m1.2 m2.2 d.1 (disjoint_sym l r d.2) (inside trie i (slice_index i (link_of trie node.slot true)) r s.3) in
    put_shape s1 s2 key len trie j node l r (slot_of trie.count (slice_index j place)) true false ev eb
    (up.0, up.1, hl way up.3, stands_at trie j (child_at trie i node.slot true) (child_at trie j node.slot true) r up.2 (stands_same trie i j (child_at trie i node.slot true) r beside s.3))
put_go trie i j s1 s2 key len q place n node l r true true f ev eb h s m1 m2 d o e here hl hr =
    let way : q ≡ spot_from trie i key len n (link_of trie node.slot true) =
    e ∙ spot_goes trie i key len n place (link_of trie node.slot true) (step_of trie i key len place node.slot node true s.0 s.1 ev ∙ ap (λ x. Some (link_of trie node.slot x)) eb) in
    let up = up_stands trie i j s1 s2 key len q place n node l r true r f.leaves s m1.0 m2.0 d.1 (omega arith) o o.2 s.3 way here in
    let beside : SameNodes trie i j l = same_beside trie i j s1 s2 q node.slot l r f.leaves
    (λ x a m. subst (λ (p : ℕ). Away trie i p x) (sym way) (away_from trie i key len node.slot n true r (omega arith) s.3 x a m)) m1.1 m2.1 d.0 d.2 (inside trie i (slice_index i (link_of trie node.slot false)) l s.2) in
    put_shape s1 s2 key len trie j node l r (slot_of trie.count (slice_index j place)) true true ev eb
    (up.0, up.1, stands_at trie j (child_at trie i node.slot false) (child_at trie j node.slot false) l up.2 (stands_same trie i j (child_at trie i node.slot false) l beside s.2), hr way up.3)

-- the words after a change at the end of the way hold the changed tree
pub put_stands : (trie : Trie) (i j : List ℕ) (s1 s2 key len q place left : ℕ) (t : Tree) → Ends trie i j s1 s2 key len q
    → height t ≤ left → Stands trie i (slot_of trie.count (slice_index i place)) t
    → Misses s1 t → Misses s2 t → Distinct t → OutOf trie place t
    → q ≡ spot_from trie i key len left place
    → (place ≢ q → slice_index j place ≡ slice_index i place)
    → Stands trie j (slot_of trie.count (slice_index j place)) (put_tree s1 s2 key len t)
put_stands trie i j s1 s2 key len q place left Leaf f h s m1 m2 d o e here =
    let none : below_of trie i key len place ≡ None = step_none trie i key len place s in
    end_at trie i j s1 s2 key len q place Leaf f (e ∙ spot_stops trie i key len left place none) s m1 m2 d o none
put_stands trie i j s1 s2 key len q place zero (Fork node l r) f h s m1 m2 d o e here = absurd (omega arith)
put_stands trie i j s1 s2 key len q place (suc n) (Fork node l r) f h s m1 m2 d o e here =
    put_go trie i j s1 s2 key len q place n node l r (agrees node.key key node.len && nat_lt node.len len) (bit key node.len) f refl refl h s m1 m2 d o e here
    (λ w g. put_stands trie i j s1 s2 key len q (link_of trie node.slot false) n l f (omega arith) s.2 m1.1 m2.1 d.3 (out_link trie node.slot false l d.0) w g)
    (λ w g. put_stands trie i j s1 s2 key len q (link_of trie node.slot true) n r f (omega arith) s.3 m1.2 m2.2 d.4 (out_link trie node.slot true r d.1) w g)
