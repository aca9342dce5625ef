-- What the calls promise.
use Rattle.std.proofs.Common.{◌≡◌, ℕ, ◌^◌, ◌<◌, ◌≤◌, List, [], arith, drop, length, subst, sym, ◌++◌, ◌∷◌}
use Rattle.std.specs.Prelude.{IsSome}
use Rattle.xf_trie.specs.declared.trie.Trie.{Trie}
use Rattle.xf_trie.specs.Insertions.{inserted, slot_inserted}
use Rattle.xf_trie.specs.Nodes.{Lies}
use Rattle.xf_trie.specs.Pools.{IsPrefixSet, IsTrie, Layout}
use Rattle.xf_trie.specs.Promises.{Inserts, Removes}
use Rattle.xf_trie.specs.Puts.{put_tree, put_uses}
use Rattle.xf_trie.specs.Removals.{removed}
use Rattle.xf_trie.specs.Spares.{CanTake, spare_of, took}
use Rattle.xf_trie.specs.Takes.{remove_frees, remove_tree}
use Rattle.xf_trie.specs.Trees.{Tree}
use Rattle.xf_trie.specs.Walks.{find_of}
use Rattle.xf_trie.proofs.Empties.{spare_is}
use Rattle.xf_trie.proofs.Inserted.{inserts_is}
use Rattle.xf_trie.proofs.Removals.{removes_is}
use Rattle.xf_trie.proofs.Taking.{can_both}

pub inserts_from : (trie : Trie) (before after : List ℕ) (size key len slot : ℕ) → after ≡ inserted trie before key len → slot ≡ slot_inserted trie before key len
    → length before ≡ size → Lies trie size → len ≤ 128 → key < 2 ^ 128 → Inserts trie before after key len slot
inserts_from trie before after size key len slot w s n l hl hk =
    subst (λ (j : List ℕ). Inserts trie before j key len slot) (sym w)
    (subst (λ (x : ℕ). Inserts trie before (inserted trie before key len) key len x) (sym s)
    (inserts_is trie before key len (subst (λ (x : ℕ). Lies trie x) (sym n) l) hl hk))

pub removes_from : (trie : Trie) (before after : List ℕ) (size key len : ℕ) → after ≡ removed trie before key len
    → length before ≡ size → Lies trie size → IsSome (find_of trie before key len) → Removes trie before after key len
removes_from trie before after size key len w n l h =
    subst (λ (j : List ℕ). Removes trie before j key len) (sym w)
    (removes_is trie before key len (subst (λ (x : ℕ). Lies trie x) (sym n) l) h)

-- two spare nodes can be taken
pub can_insert : (trie : Trie) (image : List ℕ) (size : ℕ) → length image ≡ size → Lies trie size → IsPrefixSet trie image → 2 ≤ spare_of trie image
    → CanTake trie image × CanTake trie (took trie image)
can_insert trie image size n l set h =
    let e : spare_of trie image ≡ length set.free = spare_is trie image set.free set.holds.pool in
    can_both trie image set.free (subst (λ (x : ℕ). Lies trie x) (sym n) l) set.holds.pool (omega arith)

-- the words stand for a set of prefixes after a change, too

free_inserted : (trie : Trie) (i j : List ℕ) (key len slot : ℕ) (t : Tree) (free : List ℕ) → 2 ≤ length free → Layout trie → IsTrie trie i t free
    → Inserts trie i j key len slot → IsPrefixSet trie j
free_inserted trie i j key len slot t [] h y w n = absurd (omega arith)
free_inserted trie i j key len slot t (s1 ∷ []) h y w n = absurd (omega arith)
free_inserted trie i j key len slot t (s1 ∷ (s2 ∷ rest)) h y w n = record {
  layout = y;
  tree = put_tree s1 s2 key len t;
  free = drop (put_uses key len t) (s1 ∷ (s2 ∷ rest));
  holds = (n.leaves s1 s2 rest t y w).trie_is;
}

pub set_inserted : (trie : Trie) (i j : List ℕ) (key len slot : ℕ) → IsPrefixSet trie i → 2 ≤ spare_of trie i → Inserts trie i j key len slot → IsPrefixSet trie j
set_inserted trie i j key len slot set h n =
    let e : spare_of trie i ≡ length set.free = spare_is trie i set.free set.holds.pool in
    free_inserted trie i j key len slot set.tree set.free (omega arith) set.layout set.holds n

pub set_removed : (trie : Trie) (i j : List ℕ) (key len : ℕ) → IsPrefixSet trie i → Removes trie i j key len → IsPrefixSet trie j
set_removed trie i j key len set n = record {
  layout = set.layout;
  tree = remove_tree key len set.tree;
  free = remove_frees key len set.tree ++ set.free;
  holds = (n.leaves set.free set.tree set.layout set.holds).trie_is;
}
