-- What a change of one tree makes of a forest.
use Rattle.std.proofs.Common.{◌≡◌, ◌≢◌, ℕ, ◌^◌, ◌<◌, ◌≤◌, Bool, List, drop, false, if◌then◌else◌, length, refl, slice_index, subst, sym, true, ◌++◌, ◌==◌, ◌∷◌}
use Rattle.std.proofs.lemmas.Bool.{eqb-true}
use Rattle.xf_trie.specs.declared.trie.Trie.{Trie}
use Rattle.xf_trie.specs.Forests.{IsForest, Layouts, Owned, at_root, grown}
use Rattle.xf_trie.specs.Insertions.{inserted, slot_inserted}
use Rattle.xf_trie.specs.Nodes.{Lies, slot_of}
use Rattle.xf_trie.specs.Pools.{Apart, Beside, IsTrie, Layout}
use Rattle.xf_trie.specs.Promises.{InsertLeaves}
use Rattle.xf_trie.specs.Puts.{put_tree, put_uses}
use Rattle.xf_trie.specs.Removals.{removed}
use Rattle.xf_trie.specs.Slots.{Disjoint, Distinct}
use Rattle.xf_trie.specs.Takes.{remove_frees, remove_tree}
use Rattle.xf_trie.specs.Trees.{IsTree, Stands, Tree}
use Rattle.xf_trie.proofs.Aparts.{apart_append, apart_drop}
use Rattle.xf_trie.proofs.Inserted.{inserts_is}
use Rattle.xf_trie.proofs.Owners.{all_has, not_same, own_new, own_other, own_spare, owned_apart, owned_disjoint, owner_after}
use Rattle.xf_trie.proofs.PutSlots.{disjoint_put}
use Rattle.xf_trie.proofs.Removals.{removed_others, trie_removed}
use Rattle.xf_trie.proofs.RemoveFrees.{frees_apart}
use Rattle.xf_trie.proofs.RemoveSlots.{disjoint_remove}
use Rattle.xf_trie.proofs.Slots.{disjoint_sym}

pick_grown : (P : Tree → Type 0) (trees : ℕ → Tree) (root r : ℕ) (tree : Tree) (v : Bool) → (r == root) ≡ v
    → (r ≡ root → P tree) → (r ≢ root → P (trees r)) → P (if v then tree else trees r)
pick_grown P trees root r tree true e f g = f (eqb-true r root e)
pick_grown P trees root r tree false e f g = g (λ q. absurd (not_same r root q e))

-- What another tree of the forest keeps.
pub record Keeps (trie : Trie) (j : List ℕ) (r : ℕ) (u tree : Tree) (free : List ℕ) : Type 0 where
  pub stands : Stands trie j (slot_of trie.count (slice_index j r)) u
  pub disjoint : Disjoint u tree
  pub apart : Apart free u

pub forest_changed : (trie : Trie) (i j : List ℕ) (roots : ℕ → Bool) (trees : ℕ → Tree) (before free : List ℕ) (root : ℕ) (tree : Tree)
    → IsForest trie i roots trees before → roots root ≡ true → IsTrie (at_root trie root) j tree free
    → ((r : ℕ) → roots r ≡ true → r ≢ root → Keeps trie j r (trees r) tree free)
    → IsForest trie j roots (grown trees root tree) free
forest_changed trie i j roots trees before free root tree f m w k = record {
  owner = owner_after f.owner root trie.free tree free;
  stands = λ r h. pick_grown (λ t. Stands trie j (slot_of trie.count (slice_index j r)) t) trees root r tree (r == root) refl
      (λ e. subst (λ (x : ℕ). Stands trie j (slot_of trie.count (slice_index j x)) tree) (sym e) w.stands) (λ n. (k r h n).stands);
  ordered = λ r h. pick_grown IsTree trees root r tree (r == root) refl (λ e. w.ordered) (λ n. f.ordered r h);
  once = λ r h. pick_grown Distinct trees root r tree (r == root) refl (λ e. w.once) (λ n. f.once r h);
  owned = λ r h. pick_grown (λ t. Owned (owner_after f.owner root trie.free tree free) r t) trees root r tree (r == root) refl
      (λ e. subst (λ (x : ℕ). Owned (owner_after f.owner root trie.free tree free) x tree) (sym e) (own_new f.owner root trie.free tree tree free (all_has tree)))
      (λ n. own_other f.owner root trie.free r tree (trees r) free (f.owned r h) (k r h n).disjoint (k r h n).apart);
  pool = record { frees = w.pool.frees; once = w.pool.once; count = w.pool.count };
  spare = own_spare f.owner root trie.free tree free free w.apart (λ s e. e);
}

beside_at : (trie : Trie) (roots : ℕ → Bool) (root r : ℕ) → Layouts trie roots → roots r ≡ true → r ≢ root → Beside (at_root trie root) r
beside_at trie roots root r g h n = record {
  root = n;
  nodes = (g.each r h).root;
  free = (g.each r h).root_free;
  live = (g.each r h).root_live;
}

pub trie_of : (trie : Trie) (i : List ℕ) (roots : ℕ → Bool) (trees : ℕ → Tree) (free : List ℕ) (root : ℕ) → Layouts trie roots → IsForest trie i roots trees free → roots root ≡ true
    → IsTrie (at_root trie root) i (trees root) free
trie_of trie i roots trees free root g f m = record {
  stands = f.stands root m;
  ordered = f.ordered root m;
  once = f.once root m;
  pool = record { frees = f.pool.frees; once = f.pool.once; count = f.pool.count };
  apart = owned_apart f.owner trie.free root free (trees root) (λ e. (g.each root m).root_free (sym e)) f.spare (f.owned root m);
}

pub forest_inserted : (trie : Trie) (i : List ℕ) (roots : ℕ → Bool) (trees : ℕ → Tree) (s1 s2 : ℕ) (rest : List ℕ) (root key len : ℕ)
    → Lies (at_root trie root) (length i) → Layouts trie roots → len ≤ 128 → key < 2 ^ 128
    → IsForest trie i roots trees (s1 ∷ (s2 ∷ rest)) → roots root ≡ true
    → IsForest trie (inserted (at_root trie root) i key len) roots (grown trees root (put_tree s1 s2 key len (trees root))) (drop (put_uses key len (trees root)) (s1 ∷ (s2 ∷ rest)))
forest_inserted trie i roots trees s1 s2 rest root key len l g hl hk f m =
    let w : IsTrie (at_root trie root) i (trees root) (s1 ∷ (s2 ∷ rest)) = trie_of trie i roots trees (s1 ∷ (s2 ∷ rest)) root g f m in
    let y : Layout (at_root trie root) = g.each root m in
    let n : InsertLeaves (at_root trie root) i (inserted (at_root trie root) i key len) key len (slot_inserted (at_root trie root) i key len) s1 s2 rest (trees root) =
    (inserts_is (at_root trie root) i key len l hl hk).leaves s1 s2 rest (trees root) y w in
    forest_changed trie i (inserted (at_root trie root) i key len) roots trees (s1 ∷ (s2 ∷ rest)) (drop (put_uses key len (trees root)) (s1 ∷ (s2 ∷ rest))) root (put_tree s1 s2 key len (trees root)) f m
    n.trie_is
    (λ r h d.
    let a : Apart (s1 ∷ (s2 ∷ rest)) (trees r) = owned_apart f.owner trie.free r (s1 ∷ (s2 ∷ rest)) (trees r) (λ e. (g.each r h).root_free (sym e)) f.spare (f.owned r h) in
    let e : Disjoint (trees root) (trees r) = owned_disjoint f.owner root r (trees root) (trees r) (λ q. d (sym q)) (f.owned root m) (f.owned r h) in
    record {
      stands = n.others (trees r) r (beside_at trie roots root r g h d) (f.stands r h) a (disjoint_sym (trees root) (trees r) e);
      disjoint = disjoint_sym (put_tree s1 s2 key len (trees root)) (trees r) (disjoint_put s1 s2 key len (trees root) (trees r) a.0 a.1.0 e);
      apart = apart_drop (put_uses key len (trees root)) (s1 ∷ (s2 ∷ rest)) (trees r) a;
    })

pub forest_removed : (trie : Trie) (i : List ℕ) (roots : ℕ → Bool) (trees : ℕ → Tree) (free : List ℕ) (root key len : ℕ)
    → Lies (at_root trie root) (length i) → Layouts trie roots → IsForest trie i roots trees free → roots root ≡ true
    → IsForest trie (removed (at_root trie root) i key len) roots (grown trees root (remove_tree key len (trees root))) (remove_frees key len (trees root) ++ free)
forest_removed trie i roots trees free root key len l g f m =
    let w : IsTrie (at_root trie root) i (trees root) free = trie_of trie i roots trees free root g f m in
    let y : Layout (at_root trie root) = g.each root m in
    forest_changed trie i (removed (at_root trie root) i key len) roots trees free (remove_frees key len (trees root) ++ free) root (remove_tree key len (trees root)) f m
    (trie_removed (at_root trie root) i key len (trees root) free l y w)
    (λ r h d.
    let a : Apart free (trees r) = owned_apart f.owner trie.free r free (trees r) (λ e. (g.each r h).root_free (sym e)) f.spare (f.owned r h) in
    let e : Disjoint (trees root) (trees r) = owned_disjoint f.owner root r (trees root) (trees r) (λ q. d (sym q)) (f.owned root m) (f.owned r h) in
    record {
      stands = removed_others (at_root trie root) i key len free (trees root) (trees r) r l y w (beside_at trie roots root r g h d) (f.stands r h) (disjoint_sym (trees root) (trees r) e);
      disjoint = disjoint_sym (remove_tree key len (trees root)) (trees r) (disjoint_remove key len (trees root) (trees r) e);
      apart = apart_append (remove_frees key len (trees root)) free (trees r) (frees_apart key len (trees root) (trees r) e) a;
    })
