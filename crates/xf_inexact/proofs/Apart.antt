-- The areas lie in a row.
use Rattle.std.proofs.Common.{◌≡◌, ℕ, ◌+◌, ◌*◌, ◌<◌, ◌≤◌, true, arith}
use Rattle.std.proofs.lemmas.Bool.Decides.{nat_tests}
use Rattle.xf_chain.specs.Families.{Lays, Outside}
use Rattle.xf_trie.specs.Forests.{Layouts}
use Rattle.xf_trie.specs.Nodes.{Lies}
use Rattle.xf_trie.specs.Pools.{Beside}
use Rattle.xf_image.specs.Layout.{Fits as PoliciesFit, end_of as policies_end}
use Rattle.xf_inexact.specs.declared.inexact.Inexact.{Inexact}
use Rattle.xf_inexact.specs.Places.{Fits, IsInexact, below_root, bucket_root, chains_of, count_of, end_of, is_root, pool_of, tree_at}

-- a root's place
pub least_root : (x : Inexact) (root : ℕ) → is_root x root ≡ true → x.base ≤ root
least_root x root e = grind (arith, nat_tests)

pub most_root : (x : Inexact) (root : ℕ) → is_root x root ≡ true → root < x.base + 64 + 6 * x.area.slots
most_root x root e = grind (arith, nat_tests)

pub policies_fit : (x : Inexact) (size : ℕ) → Fits x size → PoliciesFit x.area size
policies_fit x size f = let a = f.places.after in let w = f.words in
    record { area = f.places.area; words = omega (arith, a, w); fits = f.fits }

pub root_lies : (x : Inexact) (size root : ℕ) → Fits x size → is_root x root ≡ true → Lies (tree_at x root) size
root_lies x size root f e = let w = f.words in let m = most_root x root e in
    record { root = omega (arith, w, m); nodes = omega (arith, w); free = omega (arith, w); fits = f.fits }

pub chains_lay : (x : Inexact) (size : ℕ) → Fits x size → Lays (chains_of x) size
chains_lay x size f = let w = f.words in record { heads = omega arith; links = omega (arith, w); fits = f.fits }

pub bucket_is : (x : Inexact) (bucket : ℕ) → bucket < 64 → is_root x (bucket_root x bucket) ≡ true
bucket_is x bucket h = grind (arith, nat_tests)

pub below_is : (x : Inexact) (node : ℕ) → node < count_of x → is_root x (below_root x node) ≡ true
below_is x node h = grind (arith, nat_tests)

pub trees_lay : (x : Inexact) → Layouts (pool_of x) (is_root x)
trees_lay x = record {
  each = λ r e. let m = most_root x r e in record {
    free = λ s k h w. omega (arith, h, w);
    live = λ s k h w. omega (arith, h, w);
    root = λ s k h w. omega (arith, h, w, m);
    root_free = omega (arith, m);
    root_live = omega (arith, m);
  };
}

pub root_outside : (x : Inexact) (root : ℕ) → is_root x root ≡ true → Outside (chains_of x) root
root_outside x root e = λ h. let m = most_root x root e in omega (arith, h, m)

pub chain_is_beside : (x : Inexact) (root place : ℕ) → is_root x root ≡ true → (chains_of x).heads ≤ place → place < (chains_of x).links + (chains_of x).slots → Beside (tree_at x root) place
chain_is_beside x root place e h k = let m = most_root x root e in record {
  root = omega (arith, m, h);
  nodes = λ s j a b. omega (arith, a, b, k);
  free = omega (arith, k);
  live = omega (arith, k);
}

pub policy_is_beside : (x : Inexact) (root place : ℕ) → IsInexact x → is_root x root ≡ true → place < policies_end x.area → Beside (tree_at x root) place
policy_is_beside x root place is e h = let a = is.after in let m = least_root x root e in record {
  root = omega (arith, a, m, h);
  nodes = λ s j b c. omega (arith, a, h);
  free = omega (arith, a, h);
  live = omega (arith, a, h);
}

pub behind_is_beside : (x : Inexact) (root place : ℕ) → is_root x root ≡ true → end_of x ≤ place → Beside (tree_at x root) place
behind_is_beside x root place e h = let m = most_root x root e in record {
  root = omega (arith, m, h);
  nodes = λ s j a b. omega (arith, a, b, h);
  free = omega (arith, h);
  live = omega (arith, h);
}

pub bucket_lies : (x : Inexact) (size bucket : ℕ) → Fits x size → bucket < 64 → Lies (tree_at x (bucket_root x bucket)) size
bucket_lies x size bucket f h = root_lies x size (bucket_root x bucket) f (bucket_is x bucket h)

pub below_lies : (x : Inexact) (size node : ℕ) → Fits x size → node < count_of x → Lies (tree_at x (below_root x node)) size
below_lies x size node f h = root_lies x size (below_root x node) f (below_is x node h)
