-- A path in words some of which were written.
use Rattle.std.proofs.Common.{◌≡◌, ◌≢◌, ℕ, ◌<◌, List, [], ◌∷◌, ◌++◌, Some, refl, ap, sym, ◌∙◌, subst, rules, slice_index}
use Rattle.std.specs.Prelude.{⊤}
use Rattle.xf_chain.specs.declared.chain.Chain.{Chain}
use Rattle.xf_chain.specs.Chains.{slot_of, place_of}
use Rattle.xf_chain.specs.Lists.{Path, Within}
use Rattle.xf_chain.proofs.Places.{Clear, Ways, last_place, last_other}

-- the links of these slots are the same in both images
abbrev pub Same : Chain → List ℕ → List ℕ → List ℕ → Type 0
Same c i j [] = ⊤
Same c i j (x ∷ xs) = (slice_index j (place_of c x) ≡ slice_index i (place_of c x)) × Same c i j xs

-- the links on the way through these slots are the same in both images, and the last of them is at a place
abbrev pub Stays : Chain → List ℕ → List ℕ → ℕ → ℕ → List ℕ → Type 0
Stays c i j target from [] = from ≡ target
Stays c i j target from (x ∷ xs) = (slice_index j from ≡ slice_index i from) × Stays c i j target (place_of c x) xs

pub path_same : (c : Chain) (i j : List ℕ) (from to : ℕ) (xs : List ℕ)
    → slice_index j to ≡ slice_index i from → Same c i j xs → Path c i from xs → Path c j to xs
path_same c i j from to [] e s p = ap (λ w. slot_of c.slots w) e ∙ p
path_same c i j from to (x ∷ xs) e s p = (ap (λ w. slot_of c.slots w) e ∙ p.0, path_same c i j (place_of c x) (place_of c x) xs s.0 s.1 p.1)

pub insert_path : (c : Chain) (i j : List ℕ) (target slot from : ℕ) (front back : List ℕ)
    → slot_of c.slots (slice_index j target) ≡ Some slot
    → slice_index j (place_of c slot) ≡ slice_index i target
    → Stays c i j target from front → Same c i j back
    → Path c i from (front ++ back) → Path c j from (front ++ (slot ∷ back))
insert_path c i j target slot from [] back a b s t p = (
  subst (λ (q : ℕ). slot_of c.slots (slice_index j q) ≡ Some slot) (sym s) a,
  path_same c i j from (place_of c slot) back (b ∙ ap (λ q. slice_index i q) (sym s)) t p,
)
insert_path c i j target slot from (x ∷ front) back a b s t p =
    (ap (λ w. slot_of c.slots w) s.0 ∙ p.0, insert_path c i j target slot (place_of c x) front back a b s.1 t p.1)

pub unlink_path : (c : Chain) (i j : List ℕ) (target slot from : ℕ) (front back : List ℕ)
    → slice_index j target ≡ slice_index i (place_of c slot)
    → Stays c i j target from front → Same c i j back
    → Path c i from (front ++ (slot ∷ back)) → Path c j from (front ++ back)
unlink_path c i j target slot from [] back b s t p =
    path_same c i j (place_of c slot) from back (ap (λ q. slice_index j q) s ∙ b) t p.1
unlink_path c i j target slot from (x ∷ front) back b s t p =
    (ap (λ w. slot_of c.slots w) s.0 ∙ p.0, unlink_path c i j target slot (place_of c x) front back b s.1 t p.1)

-- what two places that were written leave

pub stays : (c : Chain) (i j : List ℕ) (other from : ℕ) (xs : List ℕ)
    → ((q : ℕ) → q ≢ last_place c from xs → q ≢ other → slice_index j q ≡ slice_index i q)
    → Ways c from xs → from ≢ other → Clear c other xs → Stays c i j (last_place c from xs) from xs
stays c i j other from [] f w n k = refl
stays c i j other from (x ∷ xs) f w n k =
    (f from (last_other c from x xs w.0) n, stays c i j other (place_of c x) xs f w.1 k.0 k.1)

pub stays_one : (c : Chain) (i j : List ℕ) (from : ℕ) (xs : List ℕ)
    → ((q : ℕ) → q ≢ last_place c from xs → slice_index j q ≡ slice_index i q)
    → Ways c from xs → Stays c i j (last_place c from xs) from xs
stays_one c i j from [] f w = refl
stays_one c i j from (x ∷ xs) f w = (f from (last_other c from x xs w.0), stays_one c i j (place_of c x) xs f w.1)

pub same : (c : Chain) (i j : List ℕ) (target other : ℕ) (xs : List ℕ)
    → ((q : ℕ) → q ≢ target → q ≢ other → slice_index j q ≡ slice_index i q)
    → Clear c target xs → Clear c other xs → Same c i j xs
same c i j target other [] f k l = search rules
same c i j target other (x ∷ xs) f k l = (f (place_of c x) k.0 l.0, same c i j target other xs f k.1 l.1)

pub same_within : (c : Chain) (i j : List ℕ) (xs : List ℕ)
    → ((slot : ℕ) → slot < c.slots → slice_index j (place_of c slot) ≡ slice_index i (place_of c slot))
    → Within c.slots xs → Same c i j xs
same_within c i j [] f w = search rules
same_within c i j (x ∷ xs) f w = (f x w.0, same_within c i j xs f w.1)
