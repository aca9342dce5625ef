-- Where the way down to a prefix ends.
use Rattle.std.proofs.Common.{◌≡◌, ◌≢◌, ℕ, zero, suc, ◌≤◌, Bool, List, None, Option, Some, ap, arith, false, if◌then◌else◌, lit<, nat_lt, refl, slice_index, subst, sym, true, ◌&&◌, ◌∙◌}
use Rattle.xf_trie.specs.declared.trie.Node.{Node}
use Rattle.xf_trie.specs.declared.trie.Trie.{Trie}
use Rattle.xf_trie.specs.Insertions.{below_at, below_of, spot_from}
use Rattle.xf_trie.specs.Keys.{agrees, bit}
use Rattle.xf_trie.specs.Nodes.{link_of, node_at, slot_of}
use Rattle.xf_trie.specs.Slots.{Misses}
use Rattle.xf_trie.specs.Trees.{Fork, Leaf, Stands, Tree}
use Rattle.xf_trie.proofs.Paths.{height}
use Rattle.xf_trie.proofs.Standing.{OutOf}

pub step_of : (trie : Trie) (i : List ℕ) (key len place slot : ℕ) (node : Node) (v : Bool)
    → slot_of trie.count (slice_index i place) ≡ Some slot → node_at trie i slot ≡ node
    → (agrees node.key key node.len && nat_lt node.len len) ≡ v
    → below_of trie i key len place ≡ (if v then Some (link_of trie slot (bit key node.len)) else None)
unfolding below_of
step_of trie i key len place slot node v e f g =
    ap (λ o. below_at trie i key len o) e
    ∙ ap (λ (m : Node). if agrees m.key key m.len && nat_lt m.len len then Some (link_of trie slot (bit key m.len)) else None) f
    ∙ ap (λ (b : Bool). if b then Some (link_of trie slot (bit key node.len)) else None) g

pub step_none : (trie : Trie) (i : List ℕ) (key len place : ℕ) → slot_of trie.count (slice_index i place) ≡ None → below_of trie i key len place ≡ None
unfolding below_of
step_none trie i key len place e = ap (λ o. below_at trie i key len o) e

pub spot_stops : (trie : Trie) (i : List ℕ) (key len left place : ℕ) → below_of trie i key len place ≡ None → spot_from trie i key len left place ≡ place
spot_stops trie i key len zero place e = refl
spot_stops trie i key len (suc n) place e = ap (λ o. elim o as (λ (x : Option ℕ). ℕ) [ None ↦ place | Some next ↦ spot_from trie i key len n next ]) e

pub spot_goes : (trie : Trie) (i : List ℕ) (key len n place next : ℕ) → below_of trie i key len place ≡ Some next → spot_from trie i key len (suc n) place ≡ spot_from trie i key len n next
spot_goes trie i key len n place next e = ap (λ o. elim o as (λ (x : Option ℕ). ℕ) [ None ↦ place | Some to ↦ spot_from trie i key len n to ]) e

spot_if : (trie : Trie) (i : List ℕ) (key len n place next : ℕ) (v : Bool)
    → elim (if v then Some next else None) as (λ (x : Option ℕ). ℕ) [ None ↦ place | Some to ↦ spot_from trie i key len n to ]
    ≡ (if v then spot_from trie i key len n next else place)
spot_if trie i key len n place next true = refl
spot_if trie i key len n place next false = refl

pub spot_fork : (trie : Trie) (i : List ℕ) (key len n place : ℕ) (node : Node) (l r : Tree)
    → Stands trie i (slot_of trie.count (slice_index i place)) (Fork node l r)
    → spot_from trie i key len (suc n) place
    ≡ (if agrees node.key key node.len && nat_lt node.len len then spot_from trie i key len n (link_of trie node.slot (bit key node.len)) else place)
spot_fork trie i key len n place node l r s =
    ap (λ o. elim o as (λ (x : Option ℕ). ℕ) [ None ↦ place | Some to ↦ spot_from trie i key len n to ])
    (step_of trie i key len place node.slot node (agrees node.key key node.len && nat_lt node.len len) s.0 s.1 refl)
    ∙ spot_if trie i key len n place (link_of trie node.slot (bit key node.len)) (agrees node.key key node.len && nat_lt node.len len)

pub pick : (Q : ℕ → Type 0) (f : Bool → ℕ) (place : ℕ) (v b : Bool) → Q place → Q (f false) → Q (f true) → Q (if v then f b else place)
pick Q f place true true p x y = y
pick Q f place true false p x y = x
pick Q f place false b p x y = p

-- where the way ends is neither a word of another node nor another place
pub spot_other : (trie : Trie) (i : List ℕ) (key len p left place : ℕ) (t : Tree) → height t ≤ left
    → Stands trie i (slot_of trie.count (slice_index i place)) t → p ≢ place → OutOf trie p t → p ≢ spot_from trie i key len left place
spot_other trie i key len p left place Leaf h s n o = λ e. n (e ∙ spot_stops trie i key len left place (step_none trie i key len place s))
spot_other trie i key len p zero place (Fork node l r) h s n o = absurd (omega arith)
spot_other trie i key len p (suc m) place (Fork node l r) h s n o =
    subst (λ (q : ℕ). p ≢ q) (sym (spot_fork trie i key len m place node l r s))
    (pick (λ q. p ≢ q) (λ b. spot_from trie i key len m (link_of trie node.slot b)) place (agrees node.key key node.len && nat_lt node.len len) (bit key node.len) n
    (spot_other trie i key len p m (link_of trie node.slot false) l (omega arith) s.2 (o.0 4 (lit< tt)) o.1)
    (spot_other trie i key len p m (link_of trie node.slot true) r (omega arith) s.3 (o.0 5 (lit< tt)) o.2))

none_some : (o : Option ℕ) (s : ℕ) → o ≡ None → o ≢ Some s
none_some o s e = λ f. absurd (cc)

some_some : (o : Option ℕ) (s x : ℕ) → o ≡ Some x → s ≢ x → o ≢ Some s
some_some o s x e n = λ f. n (cc)

-- where the way ends no node of elsewhere is named
pub spot_names : (trie : Trie) (i : List ℕ) (key len slot left place : ℕ) (t : Tree) → height t ≤ left
    → Stands trie i (slot_of trie.count (slice_index i place)) t → Misses slot t
    → slot_of trie.count (slice_index i (spot_from trie i key len left place)) ≢ Some slot
spot_names trie i key len slot left place Leaf h s m =
    subst (λ (q : ℕ). slot_of trie.count (slice_index i q) ≢ Some slot) (sym (spot_stops trie i key len left place (step_none trie i key len place s)))
    (none_some (slot_of trie.count (slice_index i place)) slot s)
spot_names trie i key len slot zero place (Fork node l r) h s m = absurd (omega arith)
spot_names trie i key len slot (suc n) place (Fork node l r) h s m =
    subst (λ (q : ℕ). slot_of trie.count (slice_index i q) ≢ Some slot) (sym (spot_fork trie i key len n place node l r s))
    (pick (λ q. slot_of trie.count (slice_index i q) ≢ Some slot) (λ b. spot_from trie i key len n (link_of trie node.slot b)) place
    (agrees node.key key node.len && nat_lt node.len len) (bit key node.len)
    (some_some (slot_of trie.count (slice_index i place)) slot node.slot s.0 m.0)
    (spot_names trie i key len slot n (link_of trie node.slot false) l (omega arith) s.2 m.1)
    (spot_names trie i key len slot n (link_of trie node.slot true) r (omega arith) s.3 m.2))
