-- What is found in a tree after a prefix was put into it.
use Rattle.std.proofs.Common.{◌≡◌, ℕ, ◌++◌, Bool, true, false, if◌then◌else◌, List, [], ◌∷◌, None, Some, find, refl, ap, sym, ◌∙◌, subst}
use Rattle.xf_trie.specs.declared.trie.Node.{Node}
use Rattle.xf_trie.specs.Puts.{Puts}
use Rattle.xf_trie.specs.Trees.{IsTree, Tree, is_prefix, items_of}
use Rattle.xf_trie.specs.Walks.{slot_found}
use Rattle.xf_trie.proofs.Found.{puts_find, puts_there, takes_gone}
use Rattle.xf_inexact.specs.Holds.{AllNodes, node_in}

-- each prefix that is found in a tree is found in another one, with its node
abbrev pub Finds : Tree → Tree → Type 0
Finds t u = (key len node : ℕ) → node_in t key len ≡ Some node → node_in u key len ≡ Some node

-- the inserted prefixes before a put
was : (key len slot : ℕ) (old new : List Node) (b : Bool) (q : Puts key len slot old new) → q.before ≡ b → old ≡ q.front ++ (if b then q.node ∷ q.back else q.back)
was key len slot old new b q e = q.was ∙ ap (λ (v : Bool). q.front ++ (if v then q.node ∷ q.back else q.back)) e

-- a prefix that was found is found
pub put_finds : (key len slot : ℕ) (t u : Tree) → IsTree u → Puts key len slot (items_of t) (items_of u) → Finds t u
put_finds key len slot t u w q = λ k l n e. turn k l n (is_prefix k l q.node) refl e
  where
    there : (k l n : ℕ) (b : Bool) → q.before ≡ b → is_prefix k l q.node ≡ true → node_in t k l ≡ Some n → node_in u k l ≡ Some n
    there k l n true g f e =
        ap (λ (xs : List Node). slot_found (find (is_prefix k l) xs)) (q.now ∙ sym (was key len slot (items_of t) (items_of u) true q g)) ∙ e
    there k l n false g f e =
        let none : node_in t k l ≡ None = ap slot_found (takes_gone k l (items_of t) u w (record {
          front = q.front;
          back = q.back;
          node = q.node;
          this = f;
          was = q.now;
          now = was key len slot (items_of t) (items_of u) false q g;
        })) in
        absurd (cc)

    turn : (k l n : ℕ) (v : Bool) → is_prefix k l q.node ≡ v → node_in t k l ≡ Some n → node_in u k l ≡ Some n
    turn k l n true f e = there k l n q.before refl f e
    turn k l n false f e = ap slot_found (puts_find key len slot (items_of t) (items_of u) (is_prefix k l) q f) ∙ e

-- and so is the one that was put
pub put_found : (key len slot : ℕ) (t u : Tree) → IsTree u → Puts key len slot (items_of t) (items_of u) → node_in u key len ≡ Some slot
put_found key len slot t u w q = ap slot_found (puts_there key len slot (items_of t) u w q) ∙ ap (λ (s : ℕ). Some s) q.at

all_middle : (test : ℕ → Bool) (front back : List Node) (node : Node) (b : Bool) → test node.slot ≡ true
    → AllNodes test (front ++ (if b then node ∷ back else back)) → AllNodes test (front ++ (node ∷ back))
all_middle test [] back node true e a = a
all_middle test [] back node false e a = (e, a)
all_middle test (x ∷ front) back node b e a = (a.0, all_middle test front back node b e a.1)

-- what all pass and the new one passes, all pass then
pub put_all : (key len slot : ℕ) (old new : List Node) (test : ℕ → Bool) → Puts key len slot old new → test slot ≡ true → AllNodes test old → AllNodes test new
put_all key len slot old new test q e a =
    subst (λ (xs : List Node). AllNodes test xs) (sym q.now)
    (all_middle test q.front q.back q.node q.before (ap test q.at ∙ e) (subst (λ (xs : List Node). AllNodes test xs) q.was a))
