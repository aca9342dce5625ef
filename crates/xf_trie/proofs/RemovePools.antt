-- The free nodes after a removal.
use Rattle.std.proofs.Common.{ℕ, zero, suc, ◌+◌, ◌<◌, ◌≤◌, Bool, List, append_assoc, arith, false, if◌then◌else◌, length, length-set, lit<, nat_lt, slice_index, subst, sym, true, ◌&&◌, ◌++◌}
use Rattle.xf_trie.specs.declared.trie.Node.{Node}
use Rattle.xf_trie.specs.declared.trie.Trie.{Trie}
use Rattle.xf_trie.specs.Insertions.{marked_at}
use Rattle.xf_trie.specs.Keys.{agrees, bit}
use Rattle.xf_trie.specs.Nodes.{Lies, link_of, place_of, slot_of}
use Rattle.xf_trie.specs.Pools.{Apart, IsPool, Layout}
use Rattle.xf_trie.specs.Puts.{with_mark}
use Rattle.xf_trie.specs.Removals.{removed_from, tidied, unmarked}
use Rattle.xf_trie.specs.Slots.{Distinct}
use Rattle.xf_trie.specs.Takes.{remove_frees, remove_tree, tidy_frees}
use Rattle.xf_trie.specs.Trees.{Fork, Leaf, Stands, Tree}
use Rattle.xf_trie.proofs.Aparts.{apart_left, apart_right, lacks_free}
use Rattle.xf_trie.proofs.Nodes.{named_below}
use Rattle.xf_trie.proofs.Paths.{height}
use Rattle.xf_trie.proofs.PutPools.{pool_mark}
use Rattle.xf_trie.proofs.RemoveFrees.{lacks_append, lacks_frees}
use Rattle.xf_trie.proofs.RemoveNodes.{Removed, one_stands, removed_fork, unmark_is, zero_stands}
use Rattle.xf_trie.proofs.RemoveWays.{link_below, removed_is, removed_leaf}
use Rattle.xf_trie.proofs.Taking.{spread}
use Rattle.xf_trie.proofs.TidyPools.{Still, tidy_pool}
use Rattle.xf_trie.proofs.Tidying.{Link}
use Rattle.xf_trie.proofs.Written.{mark_stands}

still_link : (trie : Trie) (slot : ℕ) (side : Bool) → Layout trie → slot < trie.count → Still trie (link_of trie slot side)
still_link trie slot false y b = record { next = λ s h e. absurd (omega arith); free = λ e. y.free slot 4 b (lit< tt) (sym e); live = λ e. y.live slot 4 b (lit< tt) (sym e) }
still_link trie slot true y b = record { next = λ s h e. absurd (omega arith); free = λ e. y.free slot 5 b (lit< tt) (sym e); live = λ e. y.live slot 5 b (lit< tt) (sym e) }

back_go : (trie : Trie) (i : List ℕ) (key len n place : ℕ) (node : Node) (l r : Tree) (free : List ℕ) (v b : Bool) → Lies trie (length i) → Layout trie → Still trie place
    → Link trie i place (Fork node l r) → Stands trie i (slot_of trie.count (slice_index i place)) (Fork node l r) → Distinct (Fork node l r) → Apart free (Fork node l r)
    → Removed trie i (removed_from trie i key len n (link_of trie node.slot false)) (link_of trie node.slot false) l (remove_tree key len l)
    → Removed trie i (removed_from trie i key len n (link_of trie node.slot true)) (link_of trie node.slot true) r (remove_tree key len r)
    → IsPool trie i free
    → IsPool trie (removed_from trie i key len n (link_of trie node.slot false)) (remove_frees key len l ++ free)
    → IsPool trie (removed_from trie i key len n (link_of trie node.slot true)) (remove_frees key len r ++ free)
    → IsPool trie (if v then tidied trie (removed_from trie i key len n (link_of trie node.slot b)) place else tidied trie (unmarked trie i place) place)
    ((if v then (if b then tidy_frees node l (remove_tree key len r) ++ remove_frees key len r else tidy_frees node (remove_tree key len l) r ++ remove_frees key len l)
    else tidy_frees (with_mark node false) l r) ++ free)
back_go trie i key len n place node l r free true true z y q k s d a fl fr p pl pr =
    let j : List ℕ = removed_from trie i key len n (link_of trie node.slot true) in
    subst (λ (xs : List ℕ). IsPool trie (tidied trie j place) xs) (sym (append_assoc (tidy_frees node l (remove_tree key len r)) (remove_frees key len r) free))
    (tidy_pool trie j place node l (remove_tree key len r) (remove_frees key len r ++ free) (subst (λ (m : ℕ). Lies trie m) (sym fr.size) z) y q
    (one_stands trie i j place node l r (remove_tree key len r) (spread trie y) k s d fr)
    (lacks_append node.slot (remove_frees key len r) free (lacks_frees node.slot key len r d.1) (lacks_free 0 node l r free a)) pr)
back_go trie i key len n place node l r free true false z y q k s d a fl fr p pl pr =
    let j : List ℕ = removed_from trie i key len n (link_of trie node.slot false) in
    subst (λ (xs : List ℕ). IsPool trie (tidied trie j place) xs) (sym (append_assoc (tidy_frees node (remove_tree key len l) r) (remove_frees key len l) free))
    (tidy_pool trie j place node (remove_tree key len l) r (remove_frees key len l ++ free) (subst (λ (m : ℕ). Lies trie m) (sym fl.size) z) y q
    (zero_stands trie i j place node l r (remove_tree key len l) (spread trie y) k s d fl)
    (lacks_append node.slot (remove_frees key len l) free (lacks_frees node.slot key len l d.0) (lacks_free 0 node l r free a)) pl)
back_go trie i key len n place node l r free false b z y q k s d a fl fr p pl pr =
    let c : node.slot < trie.count = named_below trie.count (slice_index i place) node.slot s.0 in
    let j : List ℕ = marked_at trie i node.slot false in
    subst (λ (x : List ℕ). IsPool trie (tidied trie x place) (tidy_frees (with_mark node false) l r ++ free)) (sym (unmark_is trie i place node.slot s.0))
    (tidy_pool trie j place (with_mark node false) l r free (subst (λ (m : ℕ). Lies trie m) (sym (length-set i (place_of trie node.slot + 3) 0)) z) y q
    (mark_stands trie i place node l r false z s d (k.out.0 3 (lit< tt))) (lacks_free 0 node l r free a) (pool_mark trie i node.slot false free y c p))

pub pool_removed : (trie : Trie) (i : List ℕ) (key len left place : ℕ) (t : Tree) (free : List ℕ) → height t ≤ left → Lies trie (length i) → Layout trie → Still trie place
    → Link trie i place t → Stands trie i (slot_of trie.count (slice_index i place)) t → Distinct t → Apart free t → IsPool trie i free
    → IsPool trie (removed_from trie i key len left place) (remove_frees key len t ++ free)
pool_removed trie i key len zero place Leaf free h z y q k s d a p = p
pool_removed trie i key len (suc n) place Leaf free h z y q k s d a p = subst (λ (j : List ℕ). IsPool trie j free) (sym (removed_leaf trie i key len n place s)) p
pool_removed trie i key len zero place (Fork node l r) free h z y q k s d a p = absurd (omega arith)
pool_removed trie i key len (suc n) place (Fork node l r) free h z y q k s d a p =
    let b : node.slot < trie.count = named_below trie.count (slice_index i place) node.slot s.0 in
    let kl : Link trie i (link_of trie node.slot false) l = link_below trie i node.slot false l z (spread trie y) b d.0 in
    let kr : Link trie i (link_of trie node.slot true) r = link_below trie i node.slot true r z (spread trie y) b d.1 in
    subst (λ (j : List ℕ). IsPool trie j (remove_frees key len (Fork node l r) ++ free)) (sym (removed_fork trie i key len n place node l r s))
    (back_go trie i key len n place node l r free (agrees node.key key node.len && nat_lt node.len len) (bit key node.len) z y q k s d a
    (removed_is trie i key len n (link_of trie node.slot false) l (omega arith) z (spread trie y) kl s.2 d.3)
    (removed_is trie i key len n (link_of trie node.slot true) r (omega arith) z (spread trie y) kr s.3 d.4) p
    (pool_removed trie i key len n (link_of trie node.slot false) l free (omega arith) z y (still_link trie node.slot false y b) kl s.2 d.3 (apart_left free node l r a) p)
    (pool_removed trie i key len n (link_of trie node.slot true) r free (omega arith) z y (still_link trie node.slot true y b) kr s.3 d.4 (apart_right free node l r a) p))
