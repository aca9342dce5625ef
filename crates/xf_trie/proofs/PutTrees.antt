-- A tree with one prefix more is a tree.
use Rattle.std.proofs.Common.{◌≡◌, ◌≢◌, ℕ, ◌+◌, ◌^◌, ◌<◌, ◌≤◌, Bool, arith, false, if◌then◌else◌, min, nat_lt, not, refl, rules, subst, sym, true, ◌&&◌, ◌==◌, ◌∙◌}
use Rattle.std.proofs.lemmas.Bool.{and_parts, eqb-false, eqb-true, ltb-true, not-false, not-true}
use Rattle.xf_trie.specs.declared.trie.Node.{Node}
use Rattle.xf_trie.specs.Insertions.{shared_with}
use Rattle.xf_trie.specs.Keys.{agrees, bit, common}
use Rattle.xf_trie.specs.Puts.{node_of, put_here, put_tree, with_mark}
use Rattle.xf_trie.specs.Trees.{Fork, IsTree, Leaf, Tree, Under, is_fork}
use Rattle.xf_trie.proofs.Agreeing.{agrees_more, agrees_self, agrees_sym, agrees_trans}
use Rattle.xf_trie.proofs.Shared.{common_agrees, common_least, common_most, common_sides}

agrees_both : (k a b n : ℕ) → agrees k a n ≡ true → agrees k b n ≡ true → agrees a b n ≡ true
agrees_both k a b n x y = agrees_trans a k b n (agrees_sym k a n x) y

under_here : (s1 s2 key len k n : ℕ) (side : Bool) (node : Node) (l r : Tree) (shared : ℕ) (a b c d : Bool) → Under k n side (Fork node l r)
    → n < len → n < shared → agrees k key n ≡ true → bit key n ≡ side
    → Under k n side (if a then Fork (with_mark node true) l r
    else if b then (if c then Fork (node_of s1 key len true) Leaf (Fork node l r) else Fork (node_of s1 key len true) (Fork node l r) Leaf)
    else (if d then Fork (node_of s2 key shared false) (Fork node l r) (Fork (node_of s1 key len true) Leaf Leaf)
    else Fork (node_of s2 key shared false) (Fork (node_of s1 key len true) Leaf Leaf) (Fork node l r)))
under_here s1 s2 key len k n side node l r shared true b c d u h g e f = u
under_here s1 s2 key len k n side node l r shared false true true d u h g e f = (h, e, f)
under_here s1 s2 key len k n side node l r shared false true false d u h g e f = (h, e, f)
under_here s1 s2 key len k n side node l r shared false false c true u h g e f = (g, e, f)
under_here s1 s2 key len k n side node l r shared false false c false u h g e f = (g, e, f)

under_go : (s1 s2 key len k n : ℕ) (side : Bool) (node : Node) (l r x y : Tree) (v b : Bool) (rest : Tree) → Under k n side (Fork node l r)
    → Under k n side rest → Under k n side (if v then (if b then Fork node l y else Fork node x r) else rest)
under_go s1 s2 key len k n side node l r x y true true rest u w = u
under_go s1 s2 key len k n side node l r x y true false rest u w = u
under_go s1 s2 key len k n side node l r x y false b rest u w = w

pub under_put : (s1 s2 key len k n : ℕ) (side : Bool) (t : Tree) → Under k n side t
    → n < len → len ≤ 128 → agrees k key n ≡ true → bit key n ≡ side → Under k n side (put_tree s1 s2 key len t)
under_put s1 s2 key len k n side Leaf u h hl e f = (h, e, f)
under_put s1 s2 key len k n side (Fork node l r) u h hl e f =
    let more : n < node.len = u.0 in
    let both : agrees node.key key n ≡ true = agrees_both k node.key key n u.1 e in
    let deep : agrees node.key key (n + 1) ≡ true = agrees_more node.key key n (omega arith) both (u.2 ∙ sym f) in
    let least : n + 1 ≤ common node.key key (min node.len len) = common_least node.key key (min node.len len) (n + 1) (omega arith) deep in
    under_go s1 s2 key len k n side node l r (put_tree s1 s2 key len l) (put_tree s1 s2 key len r)
    (agrees node.key key node.len && nat_lt node.len len) (bit key node.len) (put_here s1 s2 key len node l r (shared_with node key len)) u
    (under_here s1 s2 key len k n side node l r (shared_with node key len) (shared_with node key len == node.len) (shared_with node key len == len)
    (bit node.key len) (bit key (shared_with node key len)) u h (omega arith) e f)

is_fork_if : (v : Bool) (x y : Tree) → is_fork x ≡ true → is_fork y ≡ true → is_fork (if v then x else y) ≡ true
is_fork_if true x y p q = p
is_fork_if false x y p q = q

pub put_fork : (s1 s2 key len : ℕ) (t : Tree) → is_fork (put_tree s1 s2 key len t) ≡ true
put_fork s1 s2 key len Leaf = refl
put_fork s1 s2 key len (Fork node l r) =
    is_fork_if (agrees node.key key node.len && nat_lt node.len len) _ _
    (is_fork_if (bit key node.len) _ _ refl refl)
    (is_fork_if (shared_with node key len == node.len) _ _ refl
    (is_fork_if (shared_with node key len == len) _ _ (is_fork_if (bit node.key len) _ _ refl refl) (is_fork_if (bit key (shared_with node key len)) _ _ refl refl)))

is_here : (s1 s2 key len : ℕ) (node : Node) (l r : Tree) (shared : ℕ) (a b c d : Bool) → IsTree (Fork node l r) → len ≤ 128 → key < 2 ^ 128
    → (shared == node.len) ≡ a → (shared == len) ≡ b → bit node.key len ≡ c → bit key shared ≡ d
    → shared ≤ node.len → shared ≤ len → agrees node.key key shared ≡ true → (shared < node.len → shared < len → bit key shared ≡ not (bit node.key shared))
    → IsTree (if a then Fork (with_mark node true) l r
    else if b then (if c then Fork (node_of s1 key len true) Leaf (Fork node l r) else Fork (node_of s1 key len true) (Fork node l r) Leaf)
    else (if d then Fork (node_of s2 key shared false) (Fork node l r) (Fork (node_of s1 key len true) Leaf Leaf)
    else Fork (node_of s2 key shared false) (Fork (node_of s1 key len true) Leaf Leaf) (Fork node l r)))
is_here s1 s2 key len node l r shared true b c d w hl hk ea eb ec ed m1 m2 e f =
    (record { len = w.0.len; key = w.0.key }, w.1, w.2, w.3, w.4, (λ x. absurd (cc)))
is_here s1 s2 key len node l r shared false true true d w hl hk ea eb ec ed m1 m2 e f =
    let same : shared ≡ len = eqb-true shared len eb in
    let n : shared ≢ node.len = eqb-false shared node.len ea in
    let at : agrees key node.key len ≡ true = agrees_sym node.key key len (subst (λ (x : ℕ). agrees node.key key x ≡ true) same e) in
    (record { len = hl; key = hk }, (search rules), (omega arith, at, ec), (search rules), w, (λ x. absurd (cc)))
is_here s1 s2 key len node l r shared false true false d w hl hk ea eb ec ed m1 m2 e f =
    let same : shared ≡ len = eqb-true shared len eb in
    let n : shared ≢ node.len = eqb-false shared node.len ea in
    let at : agrees key node.key len ≡ true = agrees_sym node.key key len (subst (λ (x : ℕ). agrees node.key key x ≡ true) same e) in
    (record { len = hl; key = hk }, (omega arith, at, ec), (search rules), w, (search rules), (λ x. absurd (cc)))
is_here s1 s2 key len node l r shared false false c true w hl hk ea eb ec ed m1 m2 e f =
    let n1 : shared ≢ node.len = eqb-false shared node.len ea in
    let n2 : shared ≢ len = eqb-false shared len eb in
    let side : bit node.key shared ≡ false = not-true (bit node.key shared) (sym (f (omega arith) (omega arith)) ∙ ed) in (
      record { len = omega arith; key = hk },
      (omega arith, agrees_sym node.key key shared e, side),
      (omega arith, agrees_self key shared, ed),
      w,
      (record { len = hl; key = hk }, search rules, search rules, search rules, search rules, (λ x. absurd (cc))),
      (λ x. (refl, refl)),
    )
is_here s1 s2 key len node l r shared false false c false w hl hk ea eb ec ed m1 m2 e f =
    let n1 : shared ≢ node.len = eqb-false shared node.len ea in
    let n2 : shared ≢ len = eqb-false shared len eb in
    let side : bit node.key shared ≡ true = not-false (bit node.key shared) (sym (f (omega arith) (omega arith)) ∙ ed) in (
      record { len = omega arith; key = hk },
      (omega arith, agrees_self key shared, ed),
      (omega arith, agrees_sym node.key key shared e, side),
      (record { len = hl; key = hk }, search rules, search rules, search rules, search rules, (λ x. absurd (cc))),
      w,
      (λ x. (refl, refl)),
    )

is_go : (s1 s2 key len : ℕ) (node : Node) (l r : Tree) (v b : Bool) (rest : Tree) → IsTree (Fork node l r) → len ≤ 128
    → (agrees node.key key node.len && nat_lt node.len len) ≡ v → bit key node.len ≡ b
    → IsTree (put_tree s1 s2 key len l) → IsTree (put_tree s1 s2 key len r) → IsTree rest
    → IsTree (if v then (if b then Fork node l (put_tree s1 s2 key len r) else Fork node (put_tree s1 s2 key len l) r) else rest)
is_go s1 s2 key len node l r true true rest w hl ev eb wl wr ww = (
  w.0,
  w.1,
  under_put s1 s2 key len node.key node.len true r w.2 (ltb-true node.len len (and_parts _ _ ev).1) hl (and_parts _ _ ev).0 eb,
  w.3,
  wr,
  (λ x. ((w.5 x).0, put_fork s1 s2 key len r)),
)
is_go s1 s2 key len node l r true false rest w hl ev eb wl wr ww = (
  w.0,
  under_put s1 s2 key len node.key node.len false l w.1 (ltb-true node.len len (and_parts _ _ ev).1) hl (and_parts _ _ ev).0 eb,
  w.2,
  wl,
  w.4,
  (λ x. (put_fork s1 s2 key len l, (w.5 x).1)),
)
is_go s1 s2 key len node l r false b rest w hl ev eb wl wr ww = ww

-- a tree stays a tree
pub is_put : (s1 s2 key len : ℕ) (t : Tree) → IsTree t → len ≤ 128 → key < 2 ^ 128 → IsTree (put_tree s1 s2 key len t)
is_put s1 s2 key len Leaf w hl hk = (record { len = hl; key = hk }, search rules, search rules, search rules, search rules, (λ x. absurd (cc)))
is_put s1 s2 key len (Fork node l r) w hl hk =
    let most : common node.key key (min node.len len) ≤ min node.len len = common_most node.key key (min node.len len) in
    let lens : node.len ≤ 128 = w.0.len in
    is_go s1 s2 key len node l r (agrees node.key key node.len && nat_lt node.len len) (bit key node.len) (put_here s1 s2 key len node l r (shared_with node key len)) w hl refl refl
    (is_put s1 s2 key len l w.3 hl hk) (is_put s1 s2 key len r w.4 hl hk)
    (is_here s1 s2 key len node l r (shared_with node key len) (shared_with node key len == node.len) (shared_with node key len == len) (bit node.key len) (bit key (shared_with node key len))
    w hl hk refl refl refl refl (omega arith) (omega arith) (common_agrees node.key key (min node.len len) w.0.key hk)
    (λ x y. common_sides node.key key (min node.len len) w.0.key hk (omega arith) (omega arith)))
