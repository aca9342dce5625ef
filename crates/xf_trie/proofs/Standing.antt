-- Trees in words of which others were written.
use Rattle.std.proofs.Common.{◌≡◌, ◌≢◌, ℕ, ◌+◌, ◌<◌, Bool, List, Option, ap, arith, false, lit<, rules, slice_index, subst, sym, true, ◌∙◌}
use Rattle.std.specs.Prelude.{⊤}
use Rattle.xf_trie.specs.declared.trie.Trie.{Trie}
use Rattle.xf_trie.specs.Nodes.{child_at, link_of, place_of, slot_of}
use Rattle.xf_trie.specs.Slots.{Misses}
use Rattle.xf_trie.specs.Trees.{Fork, Leaf, Stands, Tree}
use Rattle.xf_trie.proofs.Nodes.{SameNode, head_same, named_below, node_same}

-- a place is no word of a tree's nodes
abbrev pub OutOf : Trie → ℕ → Tree → Type 0
OutOf trie place Leaf = ⊤
OutOf trie place (Fork node left right) =
    ((k : ℕ) → k < 8 → place ≢ place_of trie node.slot + k) × OutOf trie place left × OutOf trie place right

-- the words of a tree's nodes are the same in both images
abbrev pub SameNodes : Trie → List ℕ → List ℕ → Tree → Type 0
SameNodes trie i j Leaf = ⊤
SameNodes trie i j (Fork node l r) = SameNode trie i j node.slot × SameNodes trie i j l × SameNodes trie i j r

pub child_same : (trie : Trie) (i j : List ℕ) (slot : ℕ) (side : Bool) → SameNode trie i j slot → child_at trie j slot side ≡ child_at trie i slot side
child_same trie i j slot false f = ap (λ w. slot_of trie.count w) (f 4 (lit< tt))
child_same trie i j slot true f = ap (λ w. slot_of trie.count w) (f 5 (lit< tt))

pub stands_same : (trie : Trie) (i j : List ℕ) (at : Option ℕ) (t : Tree) → SameNodes trie i j t → Stands trie i at t → Stands trie j at t
stands_same trie i j at Leaf f s = s
stands_same trie i j at (Fork node l r) f s = (
  s.0,
  node_same trie i j node.slot (head_same trie i j node.slot f.0) ∙ s.1,
  subst (λ (o : Option ℕ). Stands trie j o l) (sym (child_same trie i j node.slot false f.0)) (stands_same trie i j (child_at trie i node.slot false) l f.1 s.2),
  subst (λ (o : Option ℕ). Stands trie j o r) (sym (child_same trie i j node.slot true f.0)) (stands_same trie i j (child_at trie i node.slot true) r f.2 s.3),
)

pub stands_at : (trie : Trie) (i : List ℕ) (at to : Option ℕ) (t : Tree) → to ≡ at → Stands trie i at t → Stands trie i to t
stands_at trie i at to t e s = subst (λ (o : Option ℕ). Stands trie i o t) (sym e) s

-- each node of a tree is one of so many
abbrev pub Inside : ℕ → Tree → Type 0
Inside count Leaf = ⊤
Inside count (Fork node l r) = (node.slot < count) × Inside count l × Inside count r

pub inside : (trie : Trie) (i : List ℕ) (w : ℕ) (t : Tree) → Stands trie i (slot_of trie.count w) t → Inside trie.count t
inside trie i w Leaf s = search rules
inside trie i w (Fork node l r) s = (
  named_below trie.count w node.slot s.0,
  inside trie i (slice_index i (place_of trie node.slot + 4)) l s.2,
  inside trie i (slice_index i (place_of trie node.slot + 5)) r s.3,
)

-- places

pub out_words : (trie : Trie) (s k : ℕ) (t : Tree) → k < 8 → Misses s t → OutOf trie (place_of trie s + k) t
out_words trie s k Leaf b m = search rules
out_words trie s k (Fork node l r) b m =
    let n : s ≢ node.slot = m.0 in
    ((λ q c e. n (omega arith)), out_words trie s k l b m.1, out_words trie s k r b m.2)

pub out_link : (trie : Trie) (s : ℕ) (side : Bool) (t : Tree) → Misses s t → OutOf trie (link_of trie s side) t
out_link trie s false t m = out_words trie s 4 t (lit< tt) m
out_link trie s true t m = out_words trie s 5 t (lit< tt) m

pub link_other : (trie : Trie) (s : ℕ) (side : Bool) (p : ℕ) → ((k : ℕ) → k < 8 → p ≢ place_of trie s + k) → p ≢ link_of trie s side
link_other trie s false p f = f 4 (lit< tt)
link_other trie s true p f = f 5 (lit< tt)

pub out_inside : (trie : Trie) (p : ℕ) (t : Tree) → Inside trie.count t → ((s k : ℕ) → s < trie.count → k < 8 → place_of trie s + k ≢ p) → OutOf trie p t
out_inside trie p Leaf n f = search rules
out_inside trie p (Fork node l r) n f =
    ((λ k b e. f node.slot k n.0 b (sym e)), out_inside trie p l n.1 f, out_inside trie p r n.2 f)
