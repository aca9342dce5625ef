-- The nodes of a policy stay where all that was found is found.
use Rattle.std.proofs.Common.{◌≡◌, ℕ, ◌++◌, ◌&&◌, ◌||◌, not, Bool, true, false, List, ◌∷◌, Option, None, Some, refl, ap, sym, ◌∙◌, subst}
use Rattle.std.proofs.lemmas.Bool.{and_from, and_parts}
use Rattle.xf_exact.specs.Parts.{is_in_exact}
use Rattle.xf_index.specs.Indexes.{AllAre, is_number}
use Rattle.xf_trie.specs.Keys.{key_of}
use Rattle.xf_trie.specs.Trees.{Tree}
use Rattle.xf_types.specs.declared.policy.Policy.{Policy}
use Rattle.xf_inexact.specs.declared.inexact.Inexact.{Inexact}
use Rattle.xf_inexact.specs.Grown.{bin_key_of, bucket_of}
use Rattle.xf_inexact.specs.Holds.{is_needed, is_own, node_under, policy_bin, policy_destination, policy_node}
use Rattle.xf_inexact.specs.Places.{below_root, bucket_root}
use Rattle.xf_inexact.proofs.GrowFinds.{Finds}
use Rattle.xf_inexact.proofs.Needs.{any_mid, any_more}

-- what is found in each tree is found in the other one at its root
abbrev pub AllFind : (ℕ → Tree) → (ℕ → Tree) → Type 0
AllFind trees others = (root : ℕ) → Finds (trees root) (others root)

-- a node that there is stays
abbrev pub Stays : Option ℕ → Option ℕ → Type 0
Stays a b = (node : ℕ) → a ≡ Some node → b ≡ Some node

bin_stays : (x : Inexact) (trees others : ℕ → Tree) (p : Policy) → AllFind trees others → Stays (policy_bin x trees p) (policy_bin x others p)
bin_stays x trees others p f = λ n e. f (bucket_root x (bucket_of p)) (bin_key_of p) 128 n e

under_stays : (x : Inexact) (trees others : ℕ → Tree) (a b : Option ℕ) (key len : ℕ) → AllFind trees others → Stays a b
    → Stays (node_under x trees a key len) (node_under x others b key len)
under_stays x trees others None b key len f s = λ n e. absurd (cc)
under_stays x trees others (Some d) b key len f s =
    λ n e. subst (λ (o : Option ℕ). node_under x others o key len ≡ Some n) (sym (s d refl)) (f (below_root x d) key len n e)

destination_stays : (x : Inexact) (trees others : ℕ → Tree) (p : Policy) → AllFind trees others → Stays (policy_destination x trees p) (policy_destination x others p)
destination_stays x trees others p f =
    under_stays x trees others (policy_bin x trees p) (policy_bin x others p) (key_of p.spec.sel.dst.addr) p.spec.sel.dst.len f (bin_stays x trees others p f)

pub node_stays : (x : Inexact) (trees others : ℕ → Tree) (p : Policy) → AllFind trees others → Stays (policy_node x trees p) (policy_node x others p)
node_stays x trees others p f =
    under_stays x trees others (policy_destination x trees p) (policy_destination x others p) (key_of p.spec.sel.src.addr) p.spec.sel.src.len f
    (destination_stays x trees others p f)

number_stays : (a b : Option ℕ) (n : ℕ) → Stays a b → is_number n a ≡ true → is_number n b ≡ true
number_stays None b n s e = absurd (cc)
number_stays (Some m) b n s e = subst (λ (o : Option ℕ). is_number n o ≡ true) (sym (s m refl)) e

either : (a b c d : Bool) → (a ≡ true → c ≡ true) → (b ≡ true → d ≡ true) → (a || b) ≡ true → (c || d) ≡ true
either true b c d f g e = ap (λ (v : Bool). v || d) (f refl)
either false b true d f g e = refl
either false b false d f g e = g e

-- so a policy's own nodes are its own
own_stays : (x : Inexact) (trees others : ℕ → Tree) (n : ℕ) (p : Policy) → AllFind trees others → is_own x trees n p ≡ true → is_own x others n p ≡ true
own_stays x trees others n p f e =
    either _ _ _ _
    (λ h. either _ _ _ _ (number_stays (policy_bin x trees p) (policy_bin x others p) n (bin_stays x trees others p f))
    (number_stays (policy_destination x trees p) (policy_destination x others p) n (destination_stays x trees others p f)) h)
    (number_stays (policy_node x trees p) (policy_node x others p) n (node_stays x trees others p f)) e

-- what is needed is needed with one policy more
pub needed_stays : (x : Inexact) (trees others : ℕ → Tree) (h4 h6 : ℕ × ℕ) (test : Policy → Bool) (front back : List (ℕ × Policy)) (e : ℕ × Policy) (n : ℕ)
    → AllFind trees others → AllAre test true (front ++ back)
    → is_needed x trees h4 h6 (front ++ back) n ≡ true → is_needed x others h4 h6 (front ++ (e ∷ back)) n ≡ true
needed_stays x trees others h4 h6 test front back e n f a h =
    any_mid (λ q. not (is_in_exact h4 h6 q) && is_own x others n q) front back e
    ∙ either false _ (not (is_in_exact h4 h6 e.1) && is_own x others n e.1) _ (λ g. absurd (cc))
    (λ g. any_more test (λ q. not (is_in_exact h4 h6 q) && is_own x trees n q) (λ q. not (is_in_exact h4 h6 q) && is_own x others n q) (front ++ back) a
    (λ q t g. let w = and_parts (not (is_in_exact h4 h6 q)) (is_own x trees n q) g in and_from _ _ w.0 (own_stays x trees others n q f w.1)) g) h

-- and so are the own nodes of that one
pub needed_new : (x : Inexact) (trees : ℕ → Tree) (h4 h6 : ℕ × ℕ) (front back : List (ℕ × Policy)) (slot n : ℕ) (p : Policy)
    → is_in_exact h4 h6 p ≡ false → is_own x trees n p ≡ true → is_needed x trees h4 h6 (front ++ ((slot, p) ∷ back)) n ≡ true
needed_new x trees h4 h6 front back slot n p e h =
    any_mid (λ q. not (is_in_exact h4 h6 q) && is_own x trees n q) front back (slot, p)
    ∙ either true false _ _ (λ g. and_from _ _ (ap not e) h) (λ g. absurd (cc)) refl
