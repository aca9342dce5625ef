-- The head of a key, before and after one head more is split.
use Rattle.std.proofs.Common.{◌≡◌, ◌≢◌, ℕ, ◌+◌, ◌<◌, ◌⊎◌, inl, inr, Bool, true, false, ◌==◌, Option, None, Some, refl, ap, sym, arith}
use Rattle.std.proofs.lemmas.Bool.Decides.{nat_tests}
use Rattle.xf_index.specs.Indexes.{is_number}
use Rattle.xf_index.proofs.Picks.{is_not_own}
use Rattle.xf_doubling.specs.Heads.{head_number, head_of}
use Rattle.xf_doubling.specs.Splits.{either, goes}
use Rattle.xf_doubling.proofs.Numbers.{head_fresh, head_stays, head_parts, head_grown}

-- before, none stands at the new head
pub key_fresh : (half moved : ℕ) (key : Option ℕ) → moved < half → is_number (half + moved) (head_of half moved key) ≡ false
key_fresh half moved None l = refl
key_fresh half moved (Some hash) l = is_not_own (half + moved) (head_number half moved hash) (λ e. head_fresh half moved hash l (sym e))

-- one of another head stays there
pub key_stays : (half moved : ℕ) (key : Option ℕ) → is_number moved (head_of half moved key) ≡ false → head_of half (moved + 1) key ≡ head_of half moved key
key_stays half moved None e = refl
key_stays half moved (Some hash) e = ap (λ n. Some n) (head_stays half moved hash (other (head_number half moved hash) e))
  where
    other : (n : ℕ) → (n == moved) ≡ false → n ≢ moved
    other n e = grind (arith, nat_tests)

-- one of the head that is split goes to the new head, or stays
parted : (half moved new : ℕ) (b : Bool) → moved < half → ((new ≡ moved) ⊎ (new ≡ half + moved)) → (new == (half + moved)) ≡ b
    → Some new ≡ either b (Some (half + moved)) (Some moved)
parted half moved new true l p e = let q : new ≡ half + moved = grind (arith, nat_tests) in ap (λ n. Some n) q
parted half moved new false l (inl q) e = ap (λ n. Some n) q
parted half moved new false l (inr q) e = absurd (grind (arith, nat_tests))

pub key_parts : (half moved : ℕ) (key : Option ℕ) → moved < half → is_number moved (head_of half moved key) ≡ true
    → (head_of half moved key ≡ Some moved) × (head_of half (moved + 1) key ≡ either (goes half moved key) (Some (half + moved)) (Some moved))
key_parts half moved None l e = absurd (cc)
key_parts half moved (Some hash) l e =
    let q : head_number half moved hash ≡ moved = grind (arith, nat_tests) in
    (ap (λ n. Some n) q, parted half moved (head_number half (moved + 1) hash) (goes half moved (Some hash)) l (head_parts half moved hash l q) refl)

pub key_grown : (half : ℕ) (key : Option ℕ) → 0 < half → head_of (half + half) 0 key ≡ head_of half half key
key_grown half None l = refl
key_grown half (Some hash) l = ap (λ n. Some n) (head_grown half hash l)
