-- Lists of entries: what some policy needs, and which chains they are in.
use Rattle.std.proofs.Common.{◌≡◌, ℕ, ◌||◌, ◌++◌, Bool, true, false, cond, List, [], ◌∷◌, Option, refl, ap, ◌∙◌, subst}
use Rattle.std.specs.List.{list_any}
use Rattle.xf_chain.specs.declared.family.Family.{Family}
use Rattle.xf_chain.specs.Families.{chain_at}
use Rattle.xf_chain.specs.Lists.{IsChain}
use Rattle.xf_index.specs.Indexes.{AllAre, Indexed, is_number, picked}
use Rattle.xf_types.specs.declared.policy.Policy.{Policy}

or_more : (a b c d : Bool) → (a || b) ≡ true → (a ≡ true → c ≡ true) → (b ≡ true → d ≡ true) → (c || d) ≡ true
or_more true b c d e f g = ap (λ v. v || d) (f refl)
or_more false b true d e f g = refl
or_more false b false d e f g = g e

or_none : (a b : Bool) → (a || b) ≡ false → (a ≡ false) × (b ≡ false)
or_none true b e = absurd (cc)
or_none false b e = (refl, e)

or_swap : (a b c : Bool) → (a || (b || c)) ≡ (b || (a || c))
or_swap true true c = refl
or_swap true false c = refl
or_swap false b c = refl

pub are_more : (f g : Policy → Bool) (es : List (ℕ × Policy)) → AllAre f true es → ((q : Policy) → f q ≡ true → g q ≡ true) → AllAre g true es
are_more f g [] a k = tt
are_more f g (e ∷ es) a k = (k e.1 a.0, are_more f g es a.1 k)

-- a test that answers alike for each
pub any_same : (test f g : Policy → Bool) (es : List (ℕ × Policy)) → AllAre test true es → ((q : Policy) → test q ≡ true → f q ≡ g q)
    → list_any (λ (e : ℕ × Policy). f e.1) es ≡ list_any (λ (e : ℕ × Policy). g e.1) es
any_same test f g [] a k = refl
any_same test f g (e ∷ es) a k =
    ap (λ b. b || list_any (λ (d : ℕ × Policy). f d.1) es) (k e.1 a.0) ∙ ap (λ b. g e.1 || b) (any_same test f g es a.1 k)

pub any_more : (test f g : Policy → Bool) (es : List (ℕ × Policy)) → AllAre test true es → ((q : Policy) → test q ≡ true → f q ≡ true → g q ≡ true)
    → list_any (λ (e : ℕ × Policy). f e.1) es ≡ true → list_any (λ (e : ℕ × Policy). g e.1) es ≡ true
any_more test f g [] a k h = absurd (cc)
any_more test f g (e ∷ es) a k h =
    or_more (f e.1) (list_any (λ (d : ℕ × Policy). f d.1) es) (g e.1) (list_any (λ (d : ℕ × Policy). g d.1) es) h (k e.1 a.0) (λ j. any_more test f g es a.1 k j)

pub any_never : (test f : Policy → Bool) (es : List (ℕ × Policy)) → AllAre test true es → ((q : Policy) → test q ≡ true → f q ≡ false)
    → list_any (λ (e : ℕ × Policy). f e.1) es ≡ false
any_never test f [] a k = refl
any_never test f (e ∷ es) a k = ap (λ b. b || list_any (λ (d : ℕ × Policy). f d.1) es) (k e.1 a.0) ∙ any_never test f es a.1 k

-- a test that none passes
pub all_and : (test f g : Policy → Bool) (es : List (ℕ × Policy)) → AllAre test true es → list_any (λ (e : ℕ × Policy). f e.1) es ≡ false
    → ((q : Policy) → test q ≡ true → f q ≡ false → g q ≡ true) → AllAre g true es
all_and test f g [] a h k = tt
all_and test f g (e ∷ es) a h k =
    let n = or_none (f e.1) (list_any (λ (d : ℕ × Policy). f d.1) es) h in (k e.1 a.0 n.0, all_and test f g es a.1 n.1 k)

-- one entry of a list
pub any_mid : (f : Policy → Bool) (front back : List (ℕ × Policy)) (e : ℕ × Policy)
    → list_any (λ (d : ℕ × Policy). f d.1) (front ++ (e ∷ back)) ≡ (f e.1 || list_any (λ (d : ℕ × Policy). f d.1) (front ++ back))
any_mid f [] back e = refl
any_mid f (x ∷ front) back e =
    ap (λ b. f x.1 || b) (any_mid f front back e) ∙ or_swap (f x.1) (f e.1) (list_any (λ (d : ℕ × Policy). f d.1) (front ++ back))

pub are_mid : (test : Policy → Bool) (b : Bool) (front back : List (ℕ × Policy)) (e : ℕ × Policy) → AllAre test b (front ++ (e ∷ back))
    → (test e.1 ≡ b) × AllAre test b (front ++ back)
are_mid test b [] back e a = a
are_mid test b (x ∷ front) back e a = let r = are_mid test b front back e a.1 in (r.0, (a.0, r.1))

-- keys that agree for these entries
picked_kept : (test : Policy → Bool) (one other : Policy → Option ℕ) (number : ℕ) (es : List (ℕ × Policy)) → AllAre test true es
    → ((q : Policy) → test q ≡ true → one q ≡ other q) → picked one number es ≡ picked other number es
picked_kept test one other number [] a k = refl
picked_kept test one other number (e ∷ es) a k =
    ap (λ o. cond (is_number number o) (e.0 ∷ picked one number es) (picked one number es)) (k e.1 a.0)
    ∙ ap (λ xs. cond (is_number number (other e.1)) (e.0 ∷ xs) xs) (picked_kept test one other number es a.1 k)

pub indexed_kept : (family : Family) (image : List ℕ) (test : Policy → Bool) (one other : Policy → Option ℕ) (es : List (ℕ × Policy)) → AllAre test true es
    → ((q : Policy) → test q ≡ true → one q ≡ other q) → Indexed family image one es → Indexed family image other es
indexed_kept family image test one other es a k is = record {
  chains = λ number n. subst (λ (xs : List ℕ). IsChain (chain_at family number) image xs) (picked_kept test one other number es a k) (is.chains number n);
}

-- a list has a slot
abbrev pub has_slot : List ℕ → Bool
has_slot [] = false
has_slot (slot ∷ slots) = true

-- a chain has a slot where some entry's record stands in it
pub picked_any : (key : Policy → Option ℕ) (number : ℕ) (es : List (ℕ × Policy))
    → has_slot (picked key number es) ≡ list_any (λ (e : ℕ × Policy). is_number number (key e.1)) es
picked_any key number [] = refl
picked_any key number (e ∷ es) = turn (is_number number (key e.1)) (picked_any key number es)
  where
    turn : (b : Bool) → has_slot (picked key number es) ≡ list_any (λ (d : ℕ × Policy). is_number number (key d.1)) es
        → has_slot (cond b (e.0 ∷ picked key number es) (picked key number es)) ≡ (b || list_any (λ (d : ℕ × Policy). is_number number (key d.1)) es)
    turn true h = refl
    turn false h = h
