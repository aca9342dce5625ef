-- Chains that were emptied.
use Rattle.std.proofs.Common.{◌≡◌, ℕ, zero, suc, ◌+◌, ◌-◌, ◌<◌, ◌≤◌, List, [], None, length, refl, ap, ◌∙◌, arith, rules, get_or-set_same, get_or-set_other, slice_index, slice_set, length-set}
use Rattle.xf_chain.specs.Chains.{slot_of}
use Rattle.xf_chain.specs.Lists.{IsChain}
use Rattle.xf_chain.specs.declared.family.Family.{Family}
use Rattle.xf_chain.specs.Families.{chain_at, Lays, emptied}

pub emptied_step : (head left : ℕ) (image : List ℕ) → 0 < left → emptied (head + 1) (left - 1) (slice_set image head 0) ≡ emptied head left image
emptied_step head zero image h = absurd (omega arith)
emptied_step head (suc more) image h = let e : suc more - 1 ≡ more = omega arith in ap (λ n. emptied (head + 1) n (slice_set image head 0)) e

pub emptied_length : (head more : ℕ) (image : List ℕ) → length (emptied head more image) ≡ length image
emptied_length head zero image = refl
emptied_length head (suc more) image = emptied_length (head + 1) more (slice_set image head 0) ∙ length-set image head 0

-- the words below the heads, and above them

pub emptied_below : (head more : ℕ) (image : List ℕ) (q : ℕ) → q < head → slice_index (emptied head more image) q ≡ slice_index image q
emptied_below head zero image q h = refl
emptied_below head (suc more) image q h =
    emptied_below (head + 1) more (slice_set image head 0) q (omega arith) ∙ get_or-set_other image head q 0 0 (λ e. omega (arith, e, h))

pub emptied_above : (head more : ℕ) (image : List ℕ) (q : ℕ) → head + more ≤ q → slice_index (emptied head more image) q ≡ slice_index image q
emptied_above head zero image q h = refl
emptied_above head (suc more) image q h =
    emptied_above (head + 1) more (slice_set image head 0) q (omega (arith, h)) ∙ get_or-set_other image head q 0 0 (λ e. omega (arith, e, h))

emptied_at : (head more : ℕ) (image : List ℕ) (n : ℕ) → n < more → head + more ≤ length image → slice_index (emptied head more image) (head + n) ≡ 0
emptied_at head zero image n h l = absurd (omega (arith, h))
emptied_at head (suc more) image zero h l =
    let e : head + zero ≡ head = omega arith in
    ap (λ q. slice_index (emptied (head + 1) more (slice_set image head 0)) q) e
    ∙ (emptied_below (head + 1) more (slice_set image head 0) head (omega arith) ∙ get_or-set_same image head 0 0 (omega (arith, l)))
emptied_at head (suc more) image (suc n) h l =
    let e : head + suc n ≡ (head + 1) + n = omega arith in
    let k : length (slice_set image head 0) ≡ length image = length-set image head 0 in
    ap (λ q. slice_index (emptied (head + 1) more (slice_set image head 0)) q) e
    ∙ emptied_at (head + 1) more (slice_set image head 0) n (omega (arith, h)) (omega (arith, l, k))

none_at : (slots word : ℕ) → word ≡ 0 → slot_of slots word ≡ None
none_at slots word e = ap (λ w. slot_of slots w) e

-- each chain is empty
pub chain_emptied : (family : Family) (image : List ℕ) (number : ℕ) → Lays family (length image) → number < family.count
    → IsChain (chain_at family number) (emptied family.heads family.count image) []
chain_emptied family image number l n = record {
  path = none_at family.slots _ (emptied_at family.heads family.count image number n (let a = l.heads in let c = l.links in omega (arith, a, c)));
  apart = search rules;
  within = search rules;
}
