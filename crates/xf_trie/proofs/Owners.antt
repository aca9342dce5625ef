-- Owners keep trees apart.
use Rattle.std.proofs.Common.{◌≡◌, ◌≢◌, ℕ, Bool, List, [], ap, eq-eqb, false, if◌then◌else◌, refl, sym, true, ◌==◌, ◌||◌, ◌∙◌, ◌∷◌}
use Rattle.std.specs.Prelude.{⊤}
use Rattle.std.proofs.lemmas.Bool.{ne_eqb, or_from}
use Rattle.xf_trie.specs.Forests.{Owned, OwnedAll}
use Rattle.xf_trie.specs.Pools.{Apart, Lacks}
use Rattle.xf_trie.specs.Slots.{Disjoint, Misses}
use Rattle.xf_trie.specs.Trees.{Fork, Leaf, Tree}
use Rattle.xf_trie.proofs.Aparts.{apart_left, apart_right, lacks_free}
use Rattle.xf_trie.proofs.Stores.{other}

-- a slot is in a tree
abbrev pub tree_has : ℕ → Tree → Bool
tree_has slot Leaf = false
tree_has slot (Fork node left right) = (slot == node.slot) || (tree_has slot left || tree_has slot right)

-- a slot is in a list
abbrev pub list_has : ℕ → List ℕ → Bool
list_has slot [] = false
list_has slot (other ∷ others) = (slot == other) || list_has slot others

owned_misses : (owner : ℕ → ℕ) (s x r : ℕ) (t : Tree) → owner s ≡ x → x ≢ r → Owned owner r t → Misses s t
owned_misses owner s x r Leaf e n o = tt
owned_misses owner s x r (Fork node a b) e n o =
    ((λ q. n (sym e ∙ ap owner q ∙ o.0)), owned_misses owner s x r a e n o.1, owned_misses owner s x r b e n o.2)

pub owned_disjoint : (owner : ℕ → ℕ) (x r : ℕ) (t u : Tree) → x ≢ r → Owned owner x t → Owned owner r u → Disjoint t u
owned_disjoint owner x r Leaf u n o p = tt
owned_disjoint owner x r (Fork node a b) u n o p =
    (owned_misses owner node.slot x r u o.0 n p, owned_disjoint owner x r a u n o.1 p, owned_disjoint owner x r b u n o.2 p)

pub owned_apart : (owner : ℕ → ℕ) (x r : ℕ) (xs : List ℕ) (t : Tree) → x ≢ r → OwnedAll owner x xs → Owned owner r t → Apart xs t
owned_apart owner x r [] t n o p = tt
owned_apart owner x r (s ∷ xs) t n o p = (owned_misses owner s x r t o.0 n p, owned_apart owner x r xs t n o.1 p)

-- the owners after a change

pub owner_after : (ℕ → ℕ) → ℕ → ℕ → Tree → List ℕ → ℕ → ℕ
owner_after owner root spare tree free s = if tree_has s tree then root else if list_has s free then spare else owner s

or_one : (a b : Bool) → b ≡ true → (a || b) ≡ true
or_one true b e = refl
or_one false b e = e

or_zero : (a b : Bool) → a ≡ true → (a || b) ≡ true
or_zero a b e = ap (λ (x : Bool). x || b) e

pub not_same : (s x : ℕ) → s ≡ x → (s == x) ≡ false → ⊥
not_same s x e f = let g : (s == x) ≡ true = eq-eqb s x e in absurd (cc)

has_not : (s : ℕ) (t : Tree) → Misses s t → tree_has s t ≡ false
has_not s Leaf m = refl
has_not s (Fork node a b) m = or_from _ _ (ne_eqb s node.slot m.0) (or_from _ _ (has_not s a m.1) (has_not s b m.2))

list_not : (s : ℕ) (xs : List ℕ) → Lacks s xs → list_has s xs ≡ false
list_not s [] m = refl
list_not s (x ∷ xs) m = or_from _ _ (ne_eqb s x m.0) (list_not s xs m.1)

-- every node of a tree passes a test
abbrev AllIn : (ℕ → Bool) → Tree → Type 0
AllIn f Leaf = ⊤
AllIn f (Fork node a b) = (f node.slot ≡ true) × AllIn f a × AllIn f b

all_more : (f g : ℕ → Bool) (t : Tree) → ((s : ℕ) → f s ≡ true → g s ≡ true) → AllIn f t → AllIn g t
all_more f g Leaf h a = tt
all_more f g (Fork node x y) h a = (h node.slot a.0, all_more f g x h a.1, all_more f g y h a.2)

pub all_has : (t : Tree) → AllIn (λ s. tree_has s t) t
all_has Leaf = tt
all_has (Fork node a b) = (
  or_zero (node.slot == node.slot) _ (eq-eqb node.slot node.slot refl),
  all_more (λ s. tree_has s a) (λ s. tree_has s (Fork node a b)) a (λ s e. or_one (s == node.slot) _ (or_zero (tree_has s a) (tree_has s b) e)) (all_has a),
  all_more (λ s. tree_has s b) (λ s. tree_has s (Fork node a b)) b (λ s e. or_one (s == node.slot) _ (or_one (tree_has s a) (tree_has s b) e)) (all_has b),
)

pub own_new : (owner : ℕ → ℕ) (root spare : ℕ) (tree t : Tree) (free : List ℕ) → AllIn (λ s. tree_has s tree) t → Owned (owner_after owner root spare tree free) root t
unfolding owner_after
own_new owner root spare tree Leaf free a = tt
own_new owner root spare tree (Fork node x y) free a = (
  ap (λ (b : Bool). if b then root else if list_has node.slot free then spare else owner node.slot) a.0,
  own_new owner root spare tree x free a.1,
  own_new owner root spare tree y free a.2,
)

after_other : (owner : ℕ → ℕ) (root spare : ℕ) (tree : Tree) (free : List ℕ) (s : ℕ) → Misses s tree → Lacks s free → owner_after owner root spare tree free s ≡ owner s
unfolding owner_after
after_other owner root spare tree free s m l =
    ap (λ (b : Bool). if b then root else if list_has s free then spare else owner s) (has_not s tree m)
    ∙ ap (λ (b : Bool). if b then spare else owner s) (list_not s free l)

pub own_other : (owner : ℕ → ℕ) (root spare r : ℕ) (tree t : Tree) (free : List ℕ) → Owned owner r t → Disjoint t tree → Apart free t → Owned (owner_after owner root spare tree free) r t
own_other owner root spare r tree Leaf free o d a = tt
own_other owner root spare r tree (Fork node x y) free o d a = (
  after_other owner root spare tree free node.slot d.0 (lacks_free 0 node x y free a) ∙ o.0,
  own_other owner root spare r tree x free o.1 d.1 (apart_left free node x y a),
  own_other owner root spare r tree y free o.2 d.2 (apart_right free node x y a),
)

pub own_spare : (owner : ℕ → ℕ) (root spare : ℕ) (tree : Tree) (all xs : List ℕ) → Apart xs tree → ((s : ℕ) → list_has s xs ≡ true → list_has s all ≡ true)
    → OwnedAll (owner_after owner root spare tree all) spare xs
unfolding owner_after
own_spare owner root spare tree all [] a h = tt
own_spare owner root spare tree all (s ∷ xs) a h = (
  ap (λ (b : Bool). if b then root else if list_has s all then spare else owner s) (has_not s tree a.0)
      ∙ ap (λ (b : Bool). if b then spare else owner s) (h s (or_zero (s == s) (list_has s xs) (eq-eqb s s refl))),
  own_spare owner root spare tree all xs a.1 (λ z e. h z (or_one (z == s) (list_has z xs) e)),
)
