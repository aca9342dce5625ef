-- What is found after a change.
use Rattle.std.proofs.Common.{◌≡◌, ℕ, ◌<◌, ◌≤◌, Bool, List, None, Some, [], ap, arith, cond, false, filter, find, if◌then◌else◌, length, refl, subst, sym, true, ◌++◌, ◌∙◌, ◌∷◌}
use Rattle.xf_trie.specs.declared.trie.Node.{Node}
use Rattle.xf_trie.specs.Puts.{Puts}
use Rattle.xf_trie.specs.Takes.{Takes}
use Rattle.xf_trie.specs.Trees.{IsTree, Tree, is_prefix, items_of}
use Rattle.xf_trie.proofs.Singles.{one_item}

find_past : (p : Node → Bool) (front back : List Node) (x : Node) → p x ≡ false → find p (front ++ (x ∷ back)) ≡ find p (front ++ back)
find_past p [] back x e = ap (λ (b : Bool). cond b (Some x) (find p back)) e
find_past p (y ∷ front) back x e = ap (λ o. cond (p y) (Some y) o) (find_past p front back x e)

find_past_if : (p : Node → Bool) (front back : List Node) (x : Node) (b : Bool) → p x ≡ false → find p (front ++ (if b then x ∷ back else back)) ≡ find p (front ++ back)
find_past_if p front back x true e = find_past p front back x e
find_past_if p front back x false e = refl

-- a search that this prefix doesn't pass finds what it found before
pub puts_find : (key len slot : ℕ) (old new : List Node) (p : Node → Bool) (q : Puts key len slot old new) → p q.node ≡ false → find p new ≡ find p old
puts_find key len slot old new p q e =
    ap (λ xs. find p xs) q.now ∙ find_past p q.front q.back q.node e
    ∙ sym (ap (λ xs. find p xs) q.was ∙ find_past_if p q.front q.back q.node q.before e)

pub takes_find : (key len : ℕ) (old new : List Node) (p : Node → Bool) (q : Takes key len old new) → p q.node ≡ false → find p new ≡ find p old
takes_find key len old new p q e =
    ap (λ xs. find p xs) q.now ∙ sym (ap (λ xs. find p xs) q.was ∙ find_past p q.front q.back q.node e)

past_step : (p : Node → Bool) (y : Node) (front back : List Node) (x : Node) (b : Bool) → p y ≡ b → p x ≡ true
    → length (cond b (y ∷ filter p (front ++ (x ∷ back))) (filter p (front ++ (x ∷ back)))) ≤ 1
    → (length (filter p (front ++ (x ∷ back))) ≤ 1 → find p (front ++ (x ∷ back)) ≡ Some x) → 0 < length (filter p (front ++ (x ∷ back)))
    → cond b (Some y) (find p (front ++ (x ∷ back))) ≡ Some x
past_step p y front back x true e f h g k = absurd (omega arith)
past_step p y front back x false e f h g k = g h

has_step : (p : Node → Bool) (y : Node) (zs : List Node) (b : Bool) → 0 < length zs → 0 < length (cond b (y ∷ zs) zs)
has_step p y zs true h = omega arith
has_step p y zs false h = h

has_some : (p : Node → Bool) (front back : List Node) (x : Node) → p x ≡ true → 0 < length (filter p (front ++ (x ∷ back)))
has_some p [] back x e =
    let g : length (cond (p x) (x ∷ filter p back) (filter p back)) ≡ length (x ∷ filter p back) = ap (λ (c : Bool). length (cond c (x ∷ filter p back) (filter p back))) e in omega arith
has_some p (y ∷ front) back x e = has_step p y (filter p (front ++ (x ∷ back))) (p y) (has_some p front back x e)

find_only : (p : Node → Bool) (front back : List Node) (x : Node) → p x ≡ true → length (filter p (front ++ (x ∷ back))) ≤ 1 → find p (front ++ (x ∷ back)) ≡ Some x
find_only p [] back x e h = ap (λ (b : Bool). cond b (Some x) (find p back)) e
find_only p (y ∷ front) back x e h =
    past_step p y front back x (p y) refl e h (λ g. find_only p front back x e g) (has_some p front back x e)

-- after a put the prefix is found, with its node
pub puts_there : (key len slot : ℕ) (old : List Node) (t : Tree) → IsTree t → (q : Puts key len slot old (items_of t)) → find (is_prefix key len) (items_of t) ≡ Some q.node
puts_there key len slot old t w q =
    ap (λ xs. find (is_prefix key len) xs) q.now
    ∙ find_only (is_prefix key len) q.front q.back q.node q.this (subst (λ (xs : List Node). length (filter (is_prefix key len) xs) ≤ 1) q.now (one_item key len t w))

-- after a removal it isn't

none_step : (p : Node → Bool) (x : Node) (xs : List Node) (b : Bool) → length (cond b (x ∷ filter p xs) (filter p xs)) ≤ 0
    → (length (filter p xs) ≤ 0 → find p xs ≡ None) → cond b (Some x) (find p xs) ≡ None
none_step p x xs true h f = absurd (omega arith)
none_step p x xs false h f = f h

find_none : (p : Node → Bool) (xs : List Node) → length (filter p xs) ≤ 0 → find p xs ≡ None
find_none p [] h = refl
find_none p (x ∷ xs) h = none_step p x xs (p x) h (λ g. find_none p xs g)

none_first : (p : Node → Bool) (back : List Node) (x : Node) → p x ≡ true → length (filter p (x ∷ back)) ≤ 1 → length (filter p back) ≤ 0
none_first p back x e h =
    let g : length (cond (p x) (x ∷ filter p back) (filter p back)) ≡ length (x ∷ filter p back) = ap (λ (c : Bool). length (cond c (x ∷ filter p back) (filter p back))) e in omega arith

left_step : (p : Node → Bool) (y : Node) (front back : List Node) (x : Node) (b : Bool)
    → length (cond b (y ∷ filter p (front ++ (x ∷ back))) (filter p (front ++ (x ∷ back)))) ≤ 1 → 0 < length (filter p (front ++ (x ∷ back)))
    → (length (filter p (front ++ (x ∷ back))) ≤ 1 → find p (front ++ back) ≡ None) → cond b (Some y) (find p (front ++ back)) ≡ None
left_step p y front back x true h k f = absurd (omega arith)
left_step p y front back x false h k f = f h

none_left : (p : Node → Bool) (front back : List Node) (x : Node) → p x ≡ true → length (filter p (front ++ (x ∷ back))) ≤ 1 → find p (front ++ back) ≡ None
none_left p [] back x e h = find_none p back (none_first p back x e h)
none_left p (y ∷ front) back x e h = left_step p y front back x (p y) h (has_some p front back x e) (λ g. none_left p front back x e g)

pub takes_gone : (key len : ℕ) (new : List Node) (t : Tree) → IsTree t → (q : Takes key len (items_of t) new) → find (is_prefix key len) new ≡ None
takes_gone key len new t w q =
    ap (λ xs. find (is_prefix key len) xs) q.now
    ∙ none_left (is_prefix key len) q.front q.back q.node q.this (subst (λ (xs : List Node). length (filter (is_prefix key len) xs) ≤ 1) q.was (one_item key len t w))
