-- A node of which the mark or a child was changed.
use Rattle.std.proofs.Common.{◌≡◌, ◌≢◌, ℕ, suc, ◌+◌, ◌<◌, Bool, List, None, Option, Some, ap, arith, false, if◌then◌else◌, length, length-set, lit<, nat_lt, refl, slice_index, subst, sym, true, ◌&&◌, ◌∙◌}
use Rattle.xf_trie.specs.declared.trie.Node.{Node}
use Rattle.xf_trie.specs.declared.trie.Trie.{Trie}
use Rattle.xf_trie.specs.Insertions.{marked_at}
use Rattle.xf_trie.specs.Keys.{agrees, bit}
use Rattle.xf_trie.specs.Nodes.{Lies, child_at, link_of, place_of, slot_of}
use Rattle.xf_trie.specs.Puts.{with_mark}
use Rattle.xf_trie.specs.Removals.{removed_from, tidied, unmark_in, unmarked}
use Rattle.xf_trie.specs.Slots.{Disjoint, Distinct, Misses}
use Rattle.xf_trie.specs.Takes.{tidy_tree}
use Rattle.xf_trie.specs.Trees.{Fork, Leaf, Stands, Tree}
use Rattle.xf_trie.proofs.Nodes.{named_below, node_same}
use Rattle.xf_trie.proofs.Rooms.{Spread}
use Rattle.xf_trie.proofs.Slots.{disjoint_sym}
use Rattle.xf_trie.proofs.Standing.{Inside, OutOf, SameNodes, inside, out_words, stands_at, stands_same}
use Rattle.xf_trie.proofs.Stores.{other}
use Rattle.xf_trie.proofs.Tidying.{Link, Tidied, tidy_is}
use Rattle.xf_trie.proofs.Ways.{step_of}
use Rattle.xf_trie.proofs.Written.{mark_stands}

-- What a removal below a link leaves.
pub record Removed (trie : Trie) (i j : List ℕ) (place : ℕ) (t u : Tree) : Type 0 where
  pub stands : Stands trie j (slot_of trie.count (slice_index j place)) u
  pub rest : (p : ℕ) → p ≢ place → OutOf trie p t → p ≢ trie.free → p ≢ trie.free + 1 → slice_index j p ≡ slice_index i p
  pub size : length j ≡ length i

removed_if : (trie : Trie) (i : List ℕ) (key len n place next : ℕ) (v : Bool)
    → elim (if v then Some next else None) as (λ (x : Option ℕ). List ℕ) [ None ↦ tidied trie (unmarked trie i place) place | Some to ↦ tidied trie (removed_from trie i key len n to) place ]
    ≡ (if v then tidied trie (removed_from trie i key len n next) place else tidied trie (unmarked trie i place) place)
removed_if trie i key len n place next true = refl
removed_if trie i key len n place next false = refl

pub removed_fork : (trie : Trie) (i : List ℕ) (key len n place : ℕ) (node : Node) (l r : Tree)
    → Stands trie i (slot_of trie.count (slice_index i place)) (Fork node l r)
    → removed_from trie i key len (suc n) place
    ≡ (if agrees node.key key node.len && nat_lt node.len len then tidied trie (removed_from trie i key len n (link_of trie node.slot (bit key node.len))) place
    else tidied trie (unmarked trie i place) place)
removed_fork trie i key len n place node l r s =
    ap (λ o. elim o as (λ (x : Option ℕ). List ℕ) [ None ↦ tidied trie (unmarked trie i place) place | Some to ↦ tidied trie (removed_from trie i key len n to) place ])
    (step_of trie i key len place node.slot node (agrees node.key key node.len && nat_lt node.len len) s.0 s.1 refl)
    ∙ removed_if trie i key len n place (link_of trie node.slot (bit key node.len)) (agrees node.key key node.len && nat_lt node.len len)

pub unmark_is : (trie : Trie) (i : List ℕ) (place slot : ℕ) → slot_of trie.count (slice_index i place) ≡ Some slot → unmarked trie i place ≡ marked_at trie i slot false
unfolding unmarked
unmark_is trie i place slot e = ap (λ o. unmark_in trie i o) e

-- the prefix stands at this node
pub at_node : (trie : Trie) (i : List ℕ) (place : ℕ) (node : Node) (l r : Tree) → Lies trie (length i) → Spread trie → Link trie i place (Fork node l r)
    → Stands trie i (slot_of trie.count (slice_index i place)) (Fork node l r) → Distinct (Fork node l r)
    → Removed trie i (tidied trie (unmarked trie i place) place) place (Fork node l r) (tidy_tree (with_mark node false) l r)
at_node trie i place node l r lies sp k s d =
    let j : List ℕ = marked_at trie i node.slot false in
    let b : node.slot < trie.count = named_below trie.count (slice_index i place) node.slot s.0 in
    let st : Stands trie j (slot_of trie.count (slice_index j place)) (Fork (with_mark node false) l r) = mark_stands trie i place node l r false lies s d (k.out.0 3 (lit< tt)) in
    let size : length j ≡ length i = length-set i (place_of trie node.slot + 3) 0 in
    let w : place < length i = k.within in
    let link : Link trie j place (Fork (with_mark node false) l r) = record { within = omega arith; out = k.out; free = k.free; live = k.live } in
    let t : Tidied trie j (tidied trie j place) place node.slot (tidy_tree (with_mark node false) l r) = tidy_is trie j place (with_mark node false) l r sp link d.0 d.1 st in
    subst (λ (x : List ℕ). Removed trie i (tidied trie x place) place (Fork node l r) (tidy_tree (with_mark node false) l r)) (sym (unmark_is trie i place node.slot s.0))
    (record {
      stands = t.stands;
      rest = λ p n o f g. t.rest p n o.0 f g ∙ other i (place_of trie node.slot + 3) 0 p (o.0 3 (lit< tt));
      size = t.size ∙ size;
    })

link_other : (trie : Trie) (s : ℕ) (side : Bool) (p : ℕ) → ((k : ℕ) → k < 8 → p ≢ place_of trie s + k) → p ≢ link_of trie s side
link_other trie s false p f = f 4 (lit< tt)
link_other trie s true p f = f 5 (lit< tt)

same_after : (trie : Trie) (i j : List ℕ) (slot : ℕ) (side : Bool) (c u t : Tree) → Spread trie → Removed trie i j (link_of trie slot side) c u
    → Inside trie.count t → Misses slot t → Disjoint t c → SameNodes trie i j t
same_after trie i j slot side c u Leaf sp f n m d = tt
same_after trie i j slot side c u (Fork node l r) sp f n m d =
    let e : slot ≢ node.slot = m.0 in (
      (λ k b. f.rest (place_of trie node.slot + k) (link_other trie slot side (place_of trie node.slot + k) (λ x y q. e (omega arith)))
          (out_words trie node.slot k c (omega arith) d.0) (sp.free node.slot k n.0 (omega arith)) (sp.live node.slot k n.0 (omega arith))),
      same_after trie i j slot side c u l sp f n.1 m.1 d.1,
      same_after trie i j slot side c u r sp f n.2 m.2 d.2,
    )

-- the prefix stood below this node, where the child was changed
pub zero_stands : (trie : Trie) (i j : List ℕ) (place : ℕ) (node : Node) (l r u : Tree) → Spread trie → Link trie i place (Fork node l r)
    → Stands trie i (slot_of trie.count (slice_index i place)) (Fork node l r) → Distinct (Fork node l r)
    → Removed trie i j (link_of trie node.slot false) l u → Stands trie j (slot_of trie.count (slice_index j place)) (Fork node u r)
zero_stands trie i j place node l r u sp k s d f =
    let b : node.slot < trie.count = named_below trie.count (slice_index i place) node.slot s.0 in
    let here : slice_index j place ≡ slice_index i place = f.rest place (k.out.0 4 (lit< tt)) k.out.1 k.free k.live in
    let word : (m : ℕ) → m < 8 → m ≢ 4 → slice_index j (place_of trie node.slot + m) ≡ slice_index i (place_of trie node.slot + m) =
    λ m c n. f.rest (place_of trie node.slot + m) (λ e. n (omega arith)) (out_words trie node.slot m l c d.0) (sp.free node.slot m b c) (sp.live node.slot m b c) in (
      ap (λ x. slot_of trie.count x) here ∙ s.0,
      node_same trie i j node.slot (λ m c. word m (omega arith) (λ e. absurd (omega arith))) ∙ s.1,
      f.stands,
      stands_at trie j (child_at trie i node.slot true) (child_at trie j node.slot true) r (ap (λ x. slot_of trie.count x) (word 5 (lit< tt) (λ e. absurd (omega arith))))
          (stands_same trie i j (child_at trie i node.slot true) r
          (same_after trie i j node.slot false l u r sp f (inside trie i (slice_index i (link_of trie node.slot true)) r s.3) d.1 (disjoint_sym l r d.2)) s.3),
    )

pub one_stands : (trie : Trie) (i j : List ℕ) (place : ℕ) (node : Node) (l r u : Tree) → Spread trie → Link trie i place (Fork node l r)
    → Stands trie i (slot_of trie.count (slice_index i place)) (Fork node l r) → Distinct (Fork node l r)
    → Removed trie i j (link_of trie node.slot true) r u → Stands trie j (slot_of trie.count (slice_index j place)) (Fork node l u)
one_stands trie i j place node l r u sp k s d f =
    let b : node.slot < trie.count = named_below trie.count (slice_index i place) node.slot s.0 in
    let here : slice_index j place ≡ slice_index i place = f.rest place (k.out.0 5 (lit< tt)) k.out.2 k.free k.live in
    let word : (m : ℕ) → m < 8 → m ≢ 5 → slice_index j (place_of trie node.slot + m) ≡ slice_index i (place_of trie node.slot + m) =
    λ m c n. f.rest (place_of trie node.slot + m) (λ e. n (omega arith)) (out_words trie node.slot m r c d.1) (sp.free node.slot m b c) (sp.live node.slot m b c) in (
      ap (λ x. slot_of trie.count x) here ∙ s.0,
      node_same trie i j node.slot (λ m c. word m (omega arith) (λ e. absurd (omega arith))) ∙ s.1,
      stands_at trie j (child_at trie i node.slot false) (child_at trie j node.slot false) l (ap (λ x. slot_of trie.count x) (word 4 (lit< tt) (λ e. absurd (omega arith))))
          (stands_same trie i j (child_at trie i node.slot false) l
          (same_after trie i j node.slot true r u l sp f (inside trie i (slice_index i (link_of trie node.slot false)) l s.2) d.0 d.2) s.2),
      f.stands,
    )
