-- A node that gives its place to its child.
use Rattle.std.proofs.Common.{◌≡◌, ◌≢◌, ℕ, ◌+◌, ◌<◌, Bool, List, Option, Some, ap, arith, false, if◌then◌else◌, length, length-set, lit<, refl, slice_index, slice_set, subst, sym, true, ◌==◌, ◌∙◌}
use Rattle.xf_trie.specs.declared.trie.Node.{Node}
use Rattle.xf_trie.specs.declared.trie.Trie.{Trie}
use Rattle.xf_trie.specs.Nodes.{child_at, place_of, slot_of}
use Rattle.xf_trie.specs.Removals.{tidied, tidy_in, tidy_node}
use Rattle.xf_trie.specs.Slots.{Misses}
use Rattle.xf_trie.specs.Spares.{gave}
use Rattle.xf_trie.specs.Takes.{tidy_fork, tidy_tree}
use Rattle.xf_trie.specs.Trees.{Fork, Leaf, Stands, Tree}
use Rattle.xf_trie.proofs.Rooms.{Spread}
use Rattle.xf_trie.proofs.Standing.{Inside, OutOf, SameNodes, inside, stands_at, stands_same}
use Rattle.xf_trie.proofs.Stores.{here, other}

pub gave_out : (trie : Trie) (i : List ℕ) (slot p : ℕ) → p ≢ place_of trie slot + 6 → p ≢ trie.free → p ≢ trie.free + 1 → slice_index (gave trie i slot) p ≡ slice_index i p
unfolding gave
gave_out trie i slot p n f g = other _ _ _ p g ∙ other _ _ _ p f ∙ other _ _ _ p n

length-gave : (trie : Trie) (i : List ℕ) (slot : ℕ) → length (gave trie i slot) ≡ length i
unfolding gave
length-gave trie i slot = length-set _ _ _ ∙ length-set _ _ _ ∙ length-set _ _ _

-- words that stay when a node at a link gives its place away
abbrev pub Rest : Trie → List ℕ → List ℕ → ℕ → ℕ → Type 0
Rest trie i j place slot = (p : ℕ) → p ≢ place → ((k : ℕ) → k < 8 → p ≢ place_of trie slot + k) → p ≢ trie.free → p ≢ trie.free + 1 → slice_index j p ≡ slice_index i p

-- What a tidying leaves: a tree at the link, and the other words.
pub record Tidied (trie : Trie) (i j : List ℕ) (place slot : ℕ) (t : Tree) : Type 0 where
  pub stands : Stands trie j (slot_of trie.count (slice_index j place)) t
  pub rest : Rest trie i j place slot
  pub size : length j ≡ length i

splice_rest : (trie : Trie) (i : List ℕ) (place slot w : ℕ) → Rest trie i (gave trie (slice_set i place w) slot) place slot
splice_rest trie i place slot w p n o f g = gave_out trie (slice_set i place w) slot p (o 6 (lit< tt)) f g ∙ other i place w p n

same_rest : (trie : Trie) (i j : List ℕ) (place slot : ℕ) (t : Tree) → Spread trie → Rest trie i j place slot
    → Inside trie.count t → Misses slot t → OutOf trie place t → SameNodes trie i j t
same_rest trie i j place slot Leaf sp f n m o = tt
same_rest trie i j place slot (Fork node l r) sp f n m o =
    let d : slot ≢ node.slot = m.0 in (
      (λ k b. f (place_of trie node.slot + k) (λ e. o.0 k (omega arith) (sym e)) (λ x c e. d (omega arith)) (sp.free node.slot k n.0 (omega arith)) (sp.live node.slot k n.0 (omega arith))),
      same_rest trie i j place slot l sp f n.1 m.1 o.1,
      same_rest trie i j place slot r sp f n.2 m.2 o.2,
    )

-- a child takes its parent's place
splice : (trie : Trie) (i : List ℕ) (place slot w : ℕ) (t : Tree) → Spread trie → place < length i
    → ((k : ℕ) → k < 8 → place ≢ place_of trie slot + k) → place ≢ trie.free → place ≢ trie.free + 1
    → Stands trie i (slot_of trie.count w) t → Misses slot t → OutOf trie place t
    → Tidied trie i (gave trie (slice_set i place w) slot) place slot t
splice trie i place slot w t sp b o f g s m op =
    let j : List ℕ = gave trie (slice_set i place w) slot in
    let at : slice_index j place ≡ w = gave_out trie (slice_set i place w) slot place (o 6 (lit< tt)) f g ∙ here i place w b in
    record {
      stands = stands_at trie j (slot_of trie.count w) (slot_of trie.count (slice_index j place)) t (ap (λ x. slot_of trie.count x) at)
          (stands_same trie i j (slot_of trie.count w) t (same_rest trie i j place slot t sp (splice_rest trie i place slot w) (inside trie i w t s) m op) s);
      rest = splice_rest trie i place slot w;
      size = length-gave trie (slice_set i place w) slot ∙ length-set i place w;
    }

stays : (trie : Trie) (i : List ℕ) (place slot : ℕ) (t : Tree) → Stands trie i (slot_of trie.count (slice_index i place)) t → Tidied trie i i place slot t
stays trie i place slot t s = record { stands = s; rest = λ p n o f g. refl; size = refl }

-- a link at which a tree stands lies apart from its nodes and from the words of the free ones
pub record Link (trie : Trie) (i : List ℕ) (place : ℕ) (t : Tree) : Type 0 where
  pub within : place < length i
  pub out : OutOf trie place t
  pub free : place ≢ trie.free
  pub live : place ≢ trie.free + 1

tidy_fork_is : (trie : Trie) (i : List ℕ) (place : ℕ) (node : Node) (l r : Tree) → Spread trie → Link trie i place (Fork node l r)
    → Misses node.slot l → Misses node.slot r → Stands trie i (slot_of trie.count (slice_index i place)) (Fork node l r)
    → Tidied trie i (tidy_node trie i place node.slot (child_at trie i node.slot false) (child_at trie i node.slot true)) place node.slot (tidy_fork node l r)
tidy_fork_is trie i place node Leaf r sp k ml mr s =
    subst (λ (o : Option ℕ). Tidied trie i (tidy_node trie i place node.slot o (child_at trie i node.slot true)) place node.slot r) (sym s.2)
    (splice trie i place node.slot (slice_index i (place_of trie node.slot + 5)) r sp k.within k.out.0 k.free k.live s.3 mr k.out.2)
tidy_fork_is trie i place node (Fork child a b) Leaf sp k ml mr s =
    subst (λ (o : Option ℕ). Tidied trie i (tidy_node trie i place node.slot o (child_at trie i node.slot true)) place node.slot (Fork child a b)) (sym s.2.0)
    (subst (λ (o : Option ℕ). Tidied trie i (tidy_node trie i place node.slot (Some child.slot) o) place node.slot (Fork child a b)) (sym s.3)
    (splice trie i place node.slot (slice_index i (place_of trie node.slot + 4)) (Fork child a b) sp k.within k.out.0 k.free k.live s.2 ml k.out.1))
tidy_fork_is trie i place node (Fork child a b) (Fork next c d) sp k ml mr s =
    subst (λ (o : Option ℕ). Tidied trie i (tidy_node trie i place node.slot o (child_at trie i node.slot true)) place node.slot (Fork node (Fork child a b) (Fork next c d))) (sym s.2.0)
    (subst (λ (o : Option ℕ). Tidied trie i (tidy_node trie i place node.slot (Some child.slot) o) place node.slot (Fork node (Fork child a b) (Fork next c d))) (sym s.3.0)
    (stays trie i place node.slot (Fork node (Fork child a b) (Fork next c d)) s))

tidy_if : (trie : Trie) (i j : List ℕ) (place slot : ℕ) (m : Bool) (x y : Tree) → Tidied trie i i place slot x → Tidied trie i j place slot y
    → Tidied trie i (if m then i else j) place slot (if m then x else y)
tidy_if trie i j place slot true x y p q = p
tidy_if trie i j place slot false x y p q = q

pub tidy_is : (trie : Trie) (i : List ℕ) (place : ℕ) (node : Node) (l r : Tree) → Spread trie → Link trie i place (Fork node l r)
    → Misses node.slot l → Misses node.slot r → Stands trie i (slot_of trie.count (slice_index i place)) (Fork node l r)
    → Tidied trie i (tidied trie i place) place node.slot (tidy_tree node l r)
unfolding tidied
tidy_is trie i place node l r sp k ml mr s =
    let m : (slice_index i (place_of trie node.slot + 3) == 1) ≡ node.marked = ap (λ (n : Node). n.marked) s.1 in
    subst (λ (o : Option ℕ). Tidied trie i (tidy_in trie i place o) place node.slot (tidy_tree node l r)) (sym s.0)
    (subst (λ (b : Bool). Tidied trie i (if b then i else tidy_node trie i place node.slot (child_at trie i node.slot false) (child_at trie i node.slot true)) place node.slot (tidy_tree node l r)) (sym m)
    (tidy_if trie i (tidy_node trie i place node.slot (child_at trie i node.slot false) (child_at trie i node.slot true)) place node.slot node.marked (Fork node l r) (tidy_fork node l r)
    (stays trie i place node.slot (Fork node l r) s) (tidy_fork_is trie i place node l r sp k ml mr s)))
