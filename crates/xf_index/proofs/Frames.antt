-- Where the words of a family lie, and what a change of one of its chains leaves.
use Rattle.std.proofs.Common.{◌≡◌, ◌≢◌, ℕ, ◌+◌, ◌<◌, ◌≤◌, List, Option, None, Some, length, refl, ◌∙◌, arith, get_or-set_other, slice_index, slice_set, length-set}
use Rattle.xf_chain.specs.declared.chain.Chain.{Chain}
use Rattle.xf_chain.specs.Chains.{Lies, Below, place_of, from_of}
use Rattle.xf_chain.specs.Lists.{Spread}
use Rattle.xf_chain.specs.declared.family.Family.{Family}
use Rattle.xf_chain.specs.Families.{chain_at, Lays, IsOf, Outside, put_in, taken_out}

pub lays_lies : (family : Family) (size number : ℕ) → Lays family size → number < family.count → Lies (chain_at family number) size
lays_lies family size number l n = record {
  head = let a = l.heads in let c = l.links in omega (arith, a, c, n);
  links = λ s h. let a = l.heads in let c = l.links in omega (arith, a, c, h);
  fits = let a = l.links in let c = l.fits in omega (arith, a, c);
}

pub lays_spread : (family : Family) (size number : ℕ) → Lays family size → number < family.count → Spread (chain_at family number)
lays_spread family size number l n = record {
  stride = omega arith;
  head = λ s h e. let a = l.heads in omega (arith, a, e, n);
}

-- a place of the family, and one that isn't

pub from_in : (family : Family) (size number : ℕ) (after : Option ℕ) → Lays family size → number < family.count → Below family.slots after
    → (family.heads ≤ from_of (chain_at family number) after) × (from_of (chain_at family number) after < family.links + family.slots)
from_in family size number None l n w = (omega arith, let a = l.heads in omega (arith, a, n))
from_in family size number (Some s) l n w = (let a = l.heads in omega (arith, a, n, w), omega (arith, w))

not_in : (family : Family) (q p : ℕ) → Outside family q → family.heads ≤ p → p < family.links + family.slots → q ≢ p
not_in family q p o h l = λ e. let k : family.links + family.slots ≤ q = o (omega (arith, e, h)) in omega (arith, k, e, l)

pub put_outside : (family : Family) (image : List ℕ) (size : ℕ) (number after : Option ℕ) (slot q : ℕ) → Lays family size → IsOf family number → Below family.slots after → slot < family.slots
    → Outside family q → slice_index (put_in family image number after slot) q ≡ slice_index image q
put_outside family image size None after slot q l n w s o = refl
put_outside family image size (Some number) after slot q l n w s o =
    let c : Chain = chain_at family number in
    let t : ℕ = from_of c after in
    let p : ℕ = place_of c slot in
    let k = from_in family size number after l n w in
    get_or-set_other (slice_set image p (slice_index image t)) t q (slot + 1) 0 (not_in family q t o k.0 k.1)
    ∙ get_or-set_other image p q (slice_index image t) 0 (not_in family q p o (let a = l.heads in omega (arith, a, n, s)) (omega (arith, s)))

pub taken_outside : (family : Family) (image : List ℕ) (size : ℕ) (number after : Option ℕ) (slot q : ℕ) → Lays family size → IsOf family number → Below family.slots after
    → Outside family q → slice_index (taken_out family image number after slot) q ≡ slice_index image q
taken_outside family image size None after slot q l n w o = refl
taken_outside family image size (Some number) after slot q l n w o =
    let c : Chain = chain_at family number in
    let k = from_in family size number after l n w in
    get_or-set_other image (from_of c after) q (slice_index image (place_of c slot)) 0 (not_in family q (from_of c after) o k.0 k.1)

pub put_length : (family : Family) (image : List ℕ) (number after : Option ℕ) (slot : ℕ) → length (put_in family image number after slot) ≡ length image
put_length family image None after slot = refl
put_length family image (Some number) after slot =
    let c : Chain = chain_at family number in
    length-set (slice_set image (place_of c slot) (slice_index image (from_of c after))) (from_of c after) (slot + 1)
    ∙ length-set image (place_of c slot) (slice_index image (from_of c after))

pub taken_length : (family : Family) (image : List ℕ) (number after : Option ℕ) (slot : ℕ) → length (taken_out family image number after slot) ≡ length image
taken_length family image None after slot = refl
taken_length family image (Some number) after slot =
    let c : Chain = chain_at family number in
    length-set image (from_of c after) (slice_index image (place_of c slot))
