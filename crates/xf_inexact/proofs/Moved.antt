-- A policy that doesn't need a node has its own where what was found is found, but for that node.
use Rattle.std.proofs.Common.{◌≡◌, ◌≢◌, ℕ, ◌&&◌, ◌||◌, ◌==◌, Bool, true, false, not, Option, None, Some, if◌then◌else◌, is_some, refl, ap, sym, ◌∙◌}
use Rattle.xf_exact.specs.Parts.{is_in_exact}
use Rattle.xf_index.specs.Indexes.{is_number}
use Rattle.xf_trie.specs.Keys.{key_of}
use Rattle.xf_trie.specs.Trees.{Tree}
use Rattle.xf_trie.proofs.Owners.{not_same}
use Rattle.xf_types.specs.declared.policy.Policy.{Policy}
use Rattle.xf_types.specs.Address.{family_of}
use Rattle.xf_inexact.specs.declared.inexact.Inexact.{Inexact}
use Rattle.xf_inexact.specs.Holds.{is_own, node_in, node_under, policy_bin, policy_destination, policy_node}
use Rattle.xf_inexact.specs.Keys.{bin_bucket, bin_key}
use Rattle.xf_inexact.specs.Places.{below_root, bucket_root}
use Rattle.xf_inexact.proofs.Ranks.{Standing, own_is, standing}

-- a policy has its node, or the exact part takes it
abbrev pub is_placed : Inexact → (ℕ → Tree) → ℕ × ℕ → ℕ × ℕ → Policy → Bool
is_placed x trees h4 h6 p = is_in_exact h4 h6 p || is_some (policy_node x trees p)

-- the chain of a policy, as the trees tell it
abbrev pub tree_key : Inexact → (ℕ → Tree) → ℕ × ℕ → ℕ × ℕ → Policy → Option ℕ
tree_key x trees h4 h6 p = if is_in_exact h4 h6 p then None else policy_node x trees p

-- what was found is found, but for one node
abbrev pub Keeps : (ℕ → Tree) → (ℕ → Tree) → ℕ → Type 0
Keeps trees now m = (root key len n : ℕ) → node_in (trees root) key len ≡ Some n → n ≢ m → node_in (now root) key len ≡ Some n

-- A policy's nodes are what they were.
pub record Moved (x : Inexact) (trees now : ℕ → Tree) (q : Policy) : Type 0 where
  pub bin : policy_bin x now q ≡ policy_bin x trees q
  pub destination : policy_destination x now q ≡ policy_destination x trees q
  pub source : policy_node x now q ≡ policy_node x trees q

or_none3 : (a b c : Bool) → (a || b || c) ≡ false → (a ≡ false) × (b ≡ false) × (c ≡ false)
or_none3 true b c e = absurd (cc)
or_none3 false true c e = absurd (cc)
or_none3 false false true e = absurd (cc)
or_none3 false false false e = (refl, refl, refl)

-- the nodes of a policy that doesn't need the node
moved : (x : Inexact) (trees now : ℕ → Tree) (m : ℕ) (q : Policy) → Keeps trees now m → (w : Standing x trees q) → is_own x trees m q ≡ false → Moved x trees now q
moved x trees now m q keeps w e =
    let n = or_none3 (w.bin == m) (w.destination == m) (w.source == m) (sym (own_is x trees m q w) ∙ e) in
    let kd : ℕ = key_of q.spec.sel.dst.addr in
    let ks : ℕ = key_of q.spec.sel.src.addr in
    let b : policy_bin x now q ≡ Some w.bin =
    keeps (bucket_root x (bin_bucket q.spec.ptype (family_of q.spec.sel.dst.addr) q.spec.dir q.spec.if_id))
    (bin_key q.spec.ptype (family_of q.spec.sel.dst.addr) q.spec.dir q.spec.if_id) 128 w.bin w.bin_is (λ s. not_same w.bin m s n.0) in
    let d : policy_destination x now q ≡ Some w.destination =
    ap (λ (o : Option ℕ). node_under x now o kd q.spec.sel.dst.len) b
    ∙ keeps (below_root x w.bin) kd q.spec.sel.dst.len w.destination w.under (λ s. not_same w.destination m s n.1) in
    let s : policy_node x now q ≡ Some w.source =
    ap (λ (o : Option ℕ). node_under x now o ks q.spec.sel.src.len) d
    ∙ keeps (below_root x w.destination) ks q.spec.sel.src.len w.source w.last (λ s. not_same w.source m s n.2) in
    record { bin = b ∙ sym w.bin_is; destination = d ∙ sym w.destination_is; source = s ∙ sym w.source_is }

own_moved : (x : Inexact) (trees now : ℕ → Tree) (n : ℕ) (q : Policy) → Moved x trees now q → is_own x now n q ≡ is_own x trees n q
own_moved x trees now n q m =
    ap (λ (o : Option ℕ). is_number n o || is_number n (policy_destination x now q) || is_number n (policy_node x now q)) m.bin
    ∙ ap (λ (o : Option ℕ). is_number n (policy_bin x trees q) || is_number n o || is_number n (policy_node x now q)) m.destination
    ∙ ap (λ (o : Option ℕ). is_number n (policy_bin x trees q) || is_number n (policy_destination x trees q) || is_number n o) m.source

-- the policies that have a node and don't need this one
abbrev pub is_fine : Inexact → (ℕ → Tree) → ℕ × ℕ → ℕ × ℕ → ℕ → Policy → Bool
is_fine x trees h4 h6 m q = is_in_exact h4 h6 q || (is_some (policy_node x trees q) && not (is_own x trees m q))

pub fine_from : (a b c : Bool) → (a || b) ≡ true → (not a && c) ≡ false → (a || (b && not c)) ≡ true
fine_from true b c e f = refl
fine_from false true true e f = absurd (cc)
fine_from false true false e f = refl
fine_from false false c e f = absurd (cc)

fine_parts : (a b c : Bool) → (a || (b && not c)) ≡ true → a ≡ false → (b ≡ true) × (c ≡ false)
fine_parts true b c e f = absurd (cc)
fine_parts false true true e f = absurd (cc)
fine_parts false true false e f = (refl, refl)
fine_parts false false c e f = absurd (cc)

fine_moved : (x : Inexact) (trees now : ℕ → Tree) (h4 h6 : ℕ × ℕ) (m : ℕ) (q : Policy) → Keeps trees now m → is_fine x trees h4 h6 m q ≡ true
    → is_in_exact h4 h6 q ≡ false → Moved x trees now q
fine_moved x trees now h4 h6 m q keeps e f =
    let p = fine_parts (is_in_exact h4 h6 q) (is_some (policy_node x trees q)) (is_own x trees m q) e f in
    moved x trees now m q keeps (standing x trees q p.0) p.1

-- so they need what they needed
pub fine_own : (x : Inexact) (trees now : ℕ → Tree) (h4 h6 : ℕ × ℕ) (m n : ℕ) (q : Policy) → Keeps trees now m → is_fine x trees h4 h6 m q ≡ true
    → (not (is_in_exact h4 h6 q) && is_own x now n q) ≡ (not (is_in_exact h4 h6 q) && is_own x trees n q)
fine_own x trees now h4 h6 m n q keeps e = turn (is_in_exact h4 h6 q) refl
  where
    turn : (b : Bool) → is_in_exact h4 h6 q ≡ b → (not b && is_own x now n q) ≡ (not b && is_own x trees n q)
    turn true f = refl
    turn false f = own_moved x trees now n q (fine_moved x trees now h4 h6 m q keeps e f)

-- stand where they stood
pub fine_key : (x : Inexact) (trees now : ℕ → Tree) (h4 h6 : ℕ × ℕ) (m : ℕ) (q : Policy) → Keeps trees now m → is_fine x trees h4 h6 m q ≡ true
    → tree_key x trees h4 h6 q ≡ tree_key x now h4 h6 q
fine_key x trees now h4 h6 m q keeps e = turn (is_in_exact h4 h6 q) refl
  where
    turn : (b : Bool) → is_in_exact h4 h6 q ≡ b → (if b then None else policy_node x trees q) ≡ (if b then None else policy_node x now q)
    turn true f = refl
    turn false f = sym (fine_moved x trees now h4 h6 m q keeps e f).source

-- and have a node
pub fine_placed : (x : Inexact) (trees now : ℕ → Tree) (h4 h6 : ℕ × ℕ) (m : ℕ) (q : Policy) → Keeps trees now m → is_fine x trees h4 h6 m q ≡ true
    → is_placed x now h4 h6 q ≡ true
fine_placed x trees now h4 h6 m q keeps e = turn (is_in_exact h4 h6 q) refl
  where
    turn : (b : Bool) → is_in_exact h4 h6 q ≡ b → (b || is_some (policy_node x now q)) ≡ true
    turn true f = refl
    turn false f =
        ap is_some (fine_moved x trees now h4 h6 m q keeps e f).source
        ∙ (fine_parts (is_in_exact h4 h6 q) (is_some (policy_node x trees q)) (is_own x trees m q) e f).0
