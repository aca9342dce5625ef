-- The words after a removal, on the way back.
use Rattle.std.proofs.Common.{◌≡◌, ℕ, zero, suc, ◌+◌, ◌<◌, ◌≤◌, Bool, List, None, Option, Some, ap, arith, false, if◌then◌else◌, length, lit<, nat_lt, refl, slice_index, subst, sym, true, ◌&&◌, ◌∙◌}
use Rattle.xf_trie.specs.declared.trie.Node.{Node}
use Rattle.xf_trie.specs.declared.trie.Trie.{Trie}
use Rattle.xf_trie.specs.Keys.{agrees, bit}
use Rattle.xf_trie.specs.Nodes.{Lies, link_of, place_of, slot_of}
use Rattle.xf_trie.specs.Puts.{with_mark}
use Rattle.xf_trie.specs.Removals.{removed_from, tidied, tidy_in, unmark_in, unmarked}
use Rattle.xf_trie.specs.Slots.{Distinct, Misses}
use Rattle.xf_trie.specs.Takes.{remove_tree, tidy_tree}
use Rattle.xf_trie.specs.Trees.{Fork, Leaf, Stands, Tree}
use Rattle.xf_trie.proofs.Nodes.{named_below}
use Rattle.xf_trie.proofs.Paths.{height}
use Rattle.xf_trie.proofs.RemoveNodes.{Removed, at_node, one_stands, removed_fork, zero_stands}
use Rattle.xf_trie.proofs.RemoveSlots.{misses_remove, out_remove}
use Rattle.xf_trie.proofs.Rooms.{Spread, block}
use Rattle.xf_trie.proofs.Standing.{OutOf, out_link}
use Rattle.xf_trie.proofs.Tidying.{Link, Tidied, tidy_is}
use Rattle.xf_trie.proofs.Ways.{step_none}

pub zero_link : (trie : Trie) (i j : List ℕ) (place : ℕ) (node : Node) (l r u : Tree) → Link trie i place (Fork node l r) → length j ≡ length i → OutOf trie place u
    → Link trie j place (Fork node u r)
zero_link trie i j place node l r u k size ou =
    let w : place < length i = k.within in
    record { within = omega arith; out = (k.out.0, ou, k.out.2); free = k.free; live = k.live }

pub one_link : (trie : Trie) (i j : List ℕ) (place : ℕ) (node : Node) (l r u : Tree) → Link trie i place (Fork node l r) → length j ≡ length i → OutOf trie place u
    → Link trie j place (Fork node l u)
one_link trie i j place node l r u k size ou =
    let w : place < length i = k.within in
    record { within = omega arith; out = (k.out.0, k.out.1, ou); free = k.free; live = k.live }

below_zero : (trie : Trie) (i j : List ℕ) (place : ℕ) (node : Node) (l r u : Tree) → Lies trie (length i) → Spread trie → Link trie i place (Fork node l r)
    → Stands trie i (slot_of trie.count (slice_index i place)) (Fork node l r) → Distinct (Fork node l r)
    → Removed trie i j (link_of trie node.slot false) l u → Misses node.slot u → OutOf trie place u
    → Removed trie i (tidied trie j place) place (Fork node l r) (tidy_tree node u r)
below_zero trie i j place node l r u lies sp k s d f mu ou =
    let t : Tidied trie j (tidied trie j place) place node.slot (tidy_tree node u r) =
    tidy_is trie j place node u r sp (zero_link trie i j place node l r u k f.size ou) mu d.1 (zero_stands trie i j place node l r u sp k s d f) in
    record {
      stands = t.stands;
      rest = λ p n o g h. t.rest p n o.0 g h ∙ f.rest p (o.0 4 (lit< tt)) o.1 g h;
      size = t.size ∙ f.size;
    }

below_one : (trie : Trie) (i j : List ℕ) (place : ℕ) (node : Node) (l r u : Tree) → Lies trie (length i) → Spread trie → Link trie i place (Fork node l r)
    → Stands trie i (slot_of trie.count (slice_index i place)) (Fork node l r) → Distinct (Fork node l r)
    → Removed trie i j (link_of trie node.slot true) r u → Misses node.slot u → OutOf trie place u
    → Removed trie i (tidied trie j place) place (Fork node l r) (tidy_tree node l u)
below_one trie i j place node l r u lies sp k s d f mu ou =
    let t : Tidied trie j (tidied trie j place) place node.slot (tidy_tree node l u) =
    tidy_is trie j place node l u sp (one_link trie i j place node l r u k f.size ou) d.0 mu (one_stands trie i j place node l r u sp k s d f) in
    record {
      stands = t.stands;
      rest = λ p n o g h. t.rest p n o.0 g h ∙ f.rest p (o.0 5 (lit< tt)) o.2 g h;
      size = t.size ∙ f.size;
    }

-- the link below lies as the one above does
pub link_below : (trie : Trie) (i : List ℕ) (slot : ℕ) (side : Bool) (t : Tree) → Lies trie (length i) → Spread trie → slot < trie.count → Misses slot t
    → Link trie i (link_of trie slot side) t
link_below trie i slot false t lies sp b m =
    let h : place_of trie slot + 8 ≤ length i = block trie slot (length i) lies b in
    record { within = omega arith; out = out_link trie slot false t m; free = sp.free slot 4 b (lit< tt); live = sp.live slot 4 b (lit< tt) }
link_below trie i slot true t lies sp b m =
    let h : place_of trie slot + 8 ≤ length i = block trie slot (length i) lies b in
    record { within = omega arith; out = out_link trie slot true t m; free = sp.free slot 5 b (lit< tt); live = sp.live slot 5 b (lit< tt) }

pub removed_go : (trie : Trie) (i : List ℕ) (key len n place : ℕ) (node : Node) (l r : Tree) (v b : Bool) → Lies trie (length i) → Spread trie
    → Link trie i place (Fork node l r) → Stands trie i (slot_of trie.count (slice_index i place)) (Fork node l r) → Distinct (Fork node l r)
    → Removed trie i (removed_from trie i key len n (link_of trie node.slot false)) (link_of trie node.slot false) l (remove_tree key len l)
    → Removed trie i (removed_from trie i key len n (link_of trie node.slot true)) (link_of trie node.slot true) r (remove_tree key len r)
    → Removed trie i (if v then tidied trie (removed_from trie i key len n (link_of trie node.slot b)) place else tidied trie (unmarked trie i place) place) place (Fork node l r)
    (if v then (if b then tidy_tree node l (remove_tree key len r) else tidy_tree node (remove_tree key len l) r) else tidy_tree (with_mark node false) l r)
removed_go trie i key len n place node l r true true lies sp k s d fl fr =
    below_one trie i _ place node l r (remove_tree key len r) lies sp k s d fr (misses_remove node.slot key len r d.1) (out_remove trie place key len r k.out.2)
removed_go trie i key len n place node l r true false lies sp k s d fl fr =
    below_zero trie i _ place node l r (remove_tree key len l) lies sp k s d fl (misses_remove node.slot key len l d.0) (out_remove trie place key len l k.out.1)
removed_go trie i key len n place node l r false b lies sp k s d fl fr = at_node trie i place node l r lies sp k s d

pub removed_leaf : (trie : Trie) (i : List ℕ) (key len n place : ℕ) → slot_of trie.count (slice_index i place) ≡ None → removed_from trie i key len (suc n) place ≡ i
unfolding unmarked tidied
removed_leaf trie i key len n place s =
    ap (λ o. elim o as (λ (x : Option ℕ). List ℕ) [ None ↦ tidied trie (unmarked trie i place) place | Some to ↦ tidied trie (removed_from trie i key len n to) place ])
    (step_none trie i key len place s)
    ∙ ap (λ o. tidied trie (unmark_in trie i o) place) s ∙ ap (λ o. tidy_in trie i place o) s

-- the words after a removal hold the tree without the prefix, and other words stay
pub removed_is : (trie : Trie) (i : List ℕ) (key len left place : ℕ) (t : Tree) → height t ≤ left → Lies trie (length i) → Spread trie
    → Link trie i place t → Stands trie i (slot_of trie.count (slice_index i place)) t → Distinct t
    → Removed trie i (removed_from trie i key len left place) place t (remove_tree key len t)
removed_is trie i key len zero place Leaf h lies sp k s d = record { stands = s; rest = λ p n o f g. refl; size = refl }
removed_is trie i key len (suc n) place Leaf h lies sp k s d =
    subst (λ (j : List ℕ). Removed trie i j place Leaf Leaf) (sym (removed_leaf trie i key len n place s)) (record { stands = s; rest = λ p n o f g. refl; size = refl })
removed_is trie i key len zero place (Fork node l r) h lies sp k s d = absurd (omega arith)
removed_is trie i key len (suc n) place (Fork node l r) h lies sp k s d =
    let b : node.slot < trie.count = named_below trie.count (slice_index i place) node.slot s.0 in
    subst (λ (j : List ℕ). Removed trie i j place (Fork node l r) (remove_tree key len (Fork node l r))) (sym (removed_fork trie i key len n place node l r s))
    (removed_go trie i key len n place node l r (agrees node.key key node.len && nat_lt node.len len) (bit key node.len) lies sp k s d
    (removed_is trie i key len n (link_of trie node.slot false) l (omega arith) lies sp (link_below trie i node.slot false l lies sp b d.0) s.2 d.3)
    (removed_is trie i key len n (link_of trie node.slot true) r (omega arith) lies sp (link_below trie i node.slot true r lies sp b d.1) s.3 d.4))
