-- What stands at the end of a way.
use Rattle.std.proofs.Common.{◌≡◌, ℕ, zero, suc, ◌≤◌, Bool, List, None, ap, arith, false, if◌then◌else◌, nat_lt, refl, slice_index, subst, sym, true, ◌&&◌, ◌==◌, ◌∙◌}
use Rattle.xf_trie.specs.declared.trie.Node.{Node}
use Rattle.xf_trie.specs.declared.trie.Trie.{Trie}
use Rattle.xf_trie.specs.Insertions.{below_of, shared_with, spot_from}
use Rattle.xf_trie.specs.Keys.{agrees, bit}
use Rattle.xf_trie.specs.Nodes.{link_of, slot_of}
use Rattle.xf_trie.specs.Puts.{put_uses}
use Rattle.xf_trie.specs.Trees.{Fork, Leaf, Stands, Tree}
use Rattle.xf_trie.proofs.Paths.{height}
use Rattle.xf_trie.proofs.PutItems.{put_answer}
use Rattle.xf_trie.proofs.Ways.{spot_fork, spot_stops, step_none, step_of}

pub record EndOf (trie : Trie) (i : List ℕ) (key len q : ℕ) (t : Tree) : Type 0 where
  pub tree : Tree
  pub stands : Stands trie i (slot_of trie.count (slice_index i q)) tree
  pub stop : below_of trie i key len q ≡ None
  pub uses : put_uses key len t ≡ put_uses key len tree
  pub answer : (s : ℕ) → put_answer s key len t ≡ put_answer s key len tree

end_here : (trie : Trie) (i : List ℕ) (key len q place : ℕ) (t : Tree) → q ≡ place → Stands trie i (slot_of trie.count (slice_index i place)) t
    → below_of trie i key len place ≡ None → EndOf trie i key len q t
end_here trie i key len q place t e s b =
    subst (λ (p : ℕ). EndOf trie i key len p t) (sym e) (record { tree = t; stands = s; stop = b; uses = refl; answer = λ x. refl })

end_go : (trie : Trie) (i : List ℕ) (key len n place : ℕ) (node : Node) (l r : Tree) (v b : Bool)
    → (agrees node.key key node.len && nat_lt node.len len) ≡ v → bit key node.len ≡ b
    → Stands trie i (slot_of trie.count (slice_index i place)) (Fork node l r)
    → EndOf trie i key len (spot_from trie i key len n (link_of trie node.slot false)) l
    → EndOf trie i key len (spot_from trie i key len n (link_of trie node.slot true)) r
    → EndOf trie i key len (if v then spot_from trie i key len n (link_of trie node.slot b) else place) (Fork node l r)
end_go trie i key len n place node l r false b ev eb s fl fr =
    end_here trie i key len place place (Fork node l r) refl s (step_of trie i key len place node.slot node false s.0 s.1 ev)
end_go trie i key len n place node l r true true ev eb s fl fr = record {
  tree = fr.tree;
  stands = fr.stands;
  stop = fr.stop;
  uses = ap (λ (x : Bool). if x then (if bit key node.len then put_uses key len r else put_uses key len l) else if shared_with node key len == node.len then 0 else if shared_with node key len == len then 1 else 2) ev
      ∙ ap (λ (x : Bool). if x then put_uses key len r else put_uses key len l) eb ∙ fr.uses;
  answer = λ z. ap (λ (x : Bool). if x then (if bit key node.len then put_answer z key len r else put_answer z key len l) else if shared_with node key len == node.len then node.slot else z) ev
      ∙ ap (λ (x : Bool). if x then put_answer z key len r else put_answer z key len l) eb ∙ fr.answer z;
}
end_go trie i key len n place node l r true false ev eb s fl fr = record {
  tree = fl.tree;
  stands = fl.stands;
  stop = fl.stop;
  uses = ap (λ (x : Bool). if x then (if bit key node.len then put_uses key len r else put_uses key len l) else if shared_with node key len == node.len then 0 else if shared_with node key len == len then 1 else 2) ev
      ∙ ap (λ (x : Bool). if x then put_uses key len r else put_uses key len l) eb ∙ fl.uses;
  answer = λ z. ap (λ (x : Bool). if x then (if bit key node.len then put_answer z key len r else put_answer z key len l) else if shared_with node key len == node.len then node.slot else z) ev
      ∙ ap (λ (x : Bool). if x then put_answer z key len r else put_answer z key len l) eb ∙ fl.answer z;
}

pub end_of : (trie : Trie) (i : List ℕ) (key len left place : ℕ) (t : Tree) → height t ≤ left
    → Stands trie i (slot_of trie.count (slice_index i place)) t → EndOf trie i key len (spot_from trie i key len left place) t
end_of trie i key len left place Leaf h s =
    let none : below_of trie i key len place ≡ None = step_none trie i key len place s in
    end_here trie i key len (spot_from trie i key len left place) place Leaf (spot_stops trie i key len left place none) s none
end_of trie i key len zero place (Fork node l r) h s = absurd (omega arith)
end_of trie i key len (suc n) place (Fork node l r) h s =
    subst (λ (q : ℕ). EndOf trie i key len q (Fork node l r)) (sym (spot_fork trie i key len n place node l r s))
    (end_go trie i key len n place node l r (agrees node.key key node.len && nat_lt node.len len) (bit key node.len) refl refl s
    (end_of trie i key len n (link_of trie node.slot false) l (omega arith) s.2) (end_of trie i key len n (link_of trie node.slot true) r (omega arith) s.3))
