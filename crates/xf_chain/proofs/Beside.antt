-- A chain that stays, since none of its own words was written.
use Rattle.std.proofs.Common.{◌≡◌, ◌≢◌, ℕ, ◌<◌, List, slice_index}
use Rattle.xf_chain.specs.declared.chain.Chain.{Chain}
use Rattle.xf_chain.specs.Chains.{place_of}
use Rattle.xf_chain.specs.Lists.{IsChain}
use Rattle.xf_chain.proofs.Places.{Clear}
use Rattle.xf_chain.proofs.Paths.{path_same, same, same_within}

-- another chain, none of whose links was written, stays as it is
pub chain_stays : (c : Chain) (i j : List ℕ) (xs : List ℕ)
    → slice_index j c.head ≡ slice_index i c.head
    → ((slot : ℕ) → slot < c.slots → slice_index j (place_of c slot) ≡ slice_index i (place_of c slot))
    → IsChain c i xs → IsChain c j xs
chain_stays c i j xs e f is = record {
  path = path_same c i j c.head c.head xs e (same_within c i j xs f is.within) is.path;
  apart = is.apart;
  within = is.within;
}

-- a chain of which two places were written, both none of its own, stays, even if it shares its links with the other chain
pub chain_beside : (c : Chain) (i j : List ℕ) (p q : ℕ) (xs : List ℕ)
    → ((r : ℕ) → r ≢ p → r ≢ q → slice_index j r ≡ slice_index i r)
    → c.head ≢ p → c.head ≢ q → Clear c p xs → Clear c q xs → IsChain c i xs → IsChain c j xs
chain_beside c i j p q xs f hp hq kp kq is = record {
  path = path_same c i j c.head c.head xs (f c.head hp hq) (same c i j p q xs f kp kq) is.path;
  apart = is.apart;
  within = is.within;
}
