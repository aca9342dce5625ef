-- Words of zeros hold empty trees, and how many nodes are spare.
use Rattle.std.proofs.Common.{◌≡◌, ℕ, zero, suc, ◌+◌, ◌-◌, ◌<◌, ◌≤◌, Bool, List, ap, arith, false, if◌then◌else◌, length, nat_lt, refl, slice_index, true, ◌==◌}
use Rattle.std.specs.List.{range_with_len}
use Rattle.std.proofs.lemmas.Bool.{ltb-false, ltb-true}
use Rattle.std.proofs.lemmas.List.{get_or-replicate, get_or_past, length-replicate}
use Rattle.std.proofs.lemmas.List.FromFn.{length-range_with_len}
use Rattle.xf_cells.specs.Words.{zeros}
use Rattle.xf_trie.specs.declared.trie.Trie.{Trie}
use Rattle.xf_trie.specs.Empty.{IsEmpty}
use Rattle.xf_trie.specs.Nodes.{place_of, slot_of}
use Rattle.xf_trie.specs.Pools.{Frees, IsPool, IsPrefixSet, Lacks, Layout, Once}
use Rattle.xf_trie.specs.Spares.{head_of, live_of, next_of, spare_of}
use Rattle.xf_trie.specs.Trees.{Leaf}
use Rattle.xf_trie.proofs.Aparts.{apart_leaf}

zero_next : (trie : Trie) (i : List ℕ) (s : ℕ) → slice_index i (place_of trie s + 6) ≡ 0 → next_of trie i s ≡ s + 1
zero_next trie i s e = ap (λ (w : ℕ). if w == 0 then s + 1 else w - 1) e

frees_zero : (trie : Trie) (i : List ℕ) (at from n : ℕ) → ((p : ℕ) → slice_index i p ≡ 0) → at ≡ from → from + n ≡ trie.count → Frees trie i at (range_with_len from n)
frees_zero trie i at from zero z a e = omega arith
frees_zero trie i at from (suc n) z a e =
    (a, omega arith, frees_zero trie i (next_of trie i from) (from + 1) n z (zero_next trie i from (z (place_of trie from + 6))) (omega arith))

lacks_up : (s from n : ℕ) → s < from → Lacks s (range_with_len from n)
lacks_up s from zero h = tt
lacks_up s from (suc n) h = ((λ e. absurd (omega arith)), lacks_up s (from + 1) n (omega arith))

once_up : (from n : ℕ) → Once (range_with_len from n)
once_up from zero = tt
once_up from (suc n) = (lacks_up from (from + 1) n (omega arith), once_up (from + 1) n)

pub empty_is : (trie : Trie) (i : List ℕ) → ((p : ℕ) → slice_index i p ≡ 0) → IsEmpty trie i
empty_is trie i z =
    let live : live_of trie i ≡ 0 = z (trie.free + 1) in
    record {
      tree = record {
        stands = ap (λ w. slot_of trie.count w) (z trie.root);
        ordered = tt;
        once = tt;
        pool = record {
          frees = frees_zero trie i (head_of trie i) 0 trie.count z (z trie.free) (omega arith);
          once = once_up 0 trie.count;
          count = omega (arith, length-range_with_len 0 trie.count);
        };
        apart = apart_leaf (range_with_len 0 trie.count);
      };
      spare = omega arith;
    }

pub spare_is : (trie : Trie) (i : List ℕ) (free : List ℕ) → IsPool trie i free → spare_of trie i ≡ length free
spare_is trie i free p = let e : live_of trie i + length free ≡ trie.count = p.count in omega arith

zeros_if : (n p : ℕ) (v : Bool) → nat_lt p n ≡ v → slice_index (zeros n) p ≡ 0
zeros_if n p true e = get_or-replicate n p 0 0 (ltb-true p n e)
zeros_if n p false e = get_or_past (zeros n) p 0 (let h : n ≤ p = ltb-false p n e in let f : length (zeros n) ≡ n = length-replicate n 0 in omega arith)

pub zeros_at : (n p : ℕ) → slice_index (zeros n) p ≡ 0
zeros_at n p = zeros_if n p (nat_lt p n) refl

pub zeros_set : (trie : Trie) (size : ℕ) → Layout trie → IsPrefixSet trie (zeros size)
zeros_set trie size y = record {
  layout = y;
  tree = Leaf;
  free = range_with_len 0 trie.count;
  holds = (empty_is trie (zeros size) (λ p. zeros_at size p)).tree;
}
