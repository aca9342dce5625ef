-- Where the words of the trees lie. They are areas in a row, for n policies, from a place on:
--
--   64           the roots of the trees of bins, by the hash of a bin
--   6 * n        by node, the root of the tree below it
--   6 * n        by node, the head of its chain of policies
--   n            the links of these chains, by policy slot
--   2            the words of the free nodes
--   48 * n       the nodes, 6 * n of them
use Rattle.std.specs.Prelude.{ℕ, ◌+◌, ◌*◌, ◌^◌, ◌<◌, ◌≤◌, ◌&&◌, Bool, nat_le, nat_lt}
use Rattle.xf_chain.specs.declared.family.Family.{Family}
use Rattle.xf_trie.specs.declared.trie.Trie.{Trie}
use Rattle.xf_image.specs.Layout.{IsArea, end_of as policies_end}
use Rattle.xf_inexact.specs.declared.inexact.Inexact.{Inexact}

-- how many nodes there are
abbrev pub count_of : Inexact → ℕ
count_of x = 6 * x.area.slots

-- the tree with its root at a place
abbrev pub tree_at : Inexact → ℕ → Trie
tree_at x root = record {
  root = root;
  nodes = x.base + 66 + 13 * x.area.slots;
  free = x.base + 64 + 13 * x.area.slots;
  count = 6 * x.area.slots;
}

-- the place of the root of a bucket of bins
abbrev pub bucket_root : Inexact → ℕ → ℕ
bucket_root x bucket = x.base + bucket

-- the place of the root of the tree below a node
abbrev pub below_root : Inexact → ℕ → ℕ
below_root x node = x.base + 64 + node

-- the tree of the bins of a bucket
abbrev pub bins_of : Inexact → ℕ → Trie
bins_of x bucket = tree_at x (bucket_root x bucket)

-- the tree below a node
abbrev pub below_of : Inexact → ℕ → Trie
below_of x node = tree_at x (below_root x node)

-- the chains of policies, by node
abbrev pub chains_of : Inexact → Family
chains_of x = record {
  heads = x.base + 64 + 6 * x.area.slots;
  count = 6 * x.area.slots;
  links = x.base + 64 + 12 * x.area.slots;
  slots = x.area.slots;
}

-- the pool of the nodes, whichever tree they are in
abbrev pub pool_of : Inexact → Trie
pool_of x = tree_at x 0

-- a place has the root of a tree
abbrev pub is_root : Inexact → ℕ → Bool
is_root x place = nat_le x.base place && nat_lt place (x.base + 64 + 6 * x.area.slots)

-- the first place behind these words
abbrev pub end_of : Inexact → ℕ
end_of x = x.base + 66 + 61 * x.area.slots

-- the words come after those of the policies, and so low that each of their places is a number of 32 bits
pub record IsInexact (x : Inexact) : Type 0 where
  pub area : IsArea x.area
  pub after : policies_end x.area ≤ x.base
  pub base : x.base < 2 ^ 26

-- they lie in so many words
pub record Fits (x : Inexact) (size : ℕ) : Type 0 where
  pub places : IsInexact x
  pub words : end_of x ≤ size
  pub fits : size < 2 ^ 32
