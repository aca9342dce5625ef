-- An index made anew.
use Rattle.std.proofs.Common.{◌≡◌, ℕ, List, [], ◌∷◌, Option, None, length, refl, sym, ◌∙◌, subst, rules, slice_index}
use Rattle.xf_chain.specs.Lists.{Apart, Within}
use Rattle.xf_chain.specs.declared.family.Family.{Family}
use Rattle.xf_chain.specs.Families.{Lays, Outside, put_in, emptied}
use Rattle.xf_index.specs.Indexes.{slots_in, Indexed, rebuilt, AreOf}
use Rattle.xf_chain.proofs.Emptied.{emptied_length, chain_emptied}
use Rattle.xf_index.proofs.Picks.{first_place}
use Rattle.xf_index.proofs.Frames.{put_outside, put_length}
use Rattle.xf_index.proofs.Puts.{indexed_put}

pub indexed_empty : {A : Type 0} (family : Family) (image : List ℕ) (key : A → Option ℕ) → Lays family (length image)
    → Indexed family (emptied family.heads family.count image) key []
indexed_empty family image key l = record { chains = λ number n. chain_emptied family image number l n }

pub rebuilt_length : {A : Type 0} (family : Family) (key : A → Option ℕ) (image : List ℕ) (es : List (ℕ × A)) → length (rebuilt family key image es) ≡ length image
rebuilt_length family key image [] = refl
rebuilt_length family key image (e ∷ es) = put_length family (rebuilt family key image es) (key e.1) None e.0 ∙ rebuilt_length family key image es

pub rebuilt_outside : {A : Type 0} (family : Family) (key : A → Option ℕ) (image : List ℕ) (size : ℕ) (es : List (ℕ × A)) (q : ℕ)
    → Lays family size → Within family.slots (slots_in es) → AreOf family key es → Outside family q → slice_index (rebuilt family key image es) q ≡ slice_index image q
rebuilt_outside family key image size [] q l w k o = refl
rebuilt_outside family key image size (e ∷ es) q l w k o =
    put_outside family (rebuilt family key image es) size (key e.1) None e.0 q l k.0 (search rules) w.0 o ∙ rebuilt_outside family key image size es q l w.1 k.1 o

pub indexed_rebuilt : {A : Type 0} (family : Family) (key : A → Option ℕ) (image : List ℕ) (es : List (ℕ × A))
    → Lays family (length image) → Apart (slots_in es) → Within family.slots (slots_in es) → AreOf family key es
    → Indexed family (rebuilt family key (emptied family.heads family.count image) es) key es
indexed_rebuilt family key image [] l a w k = indexed_empty family image key l
indexed_rebuilt {A = A} family key image (e ∷ es) l a w k =
    let base : List ℕ = emptied family.heads family.count image in
    let j : List ℕ = rebuilt family key base es in
    let n : length j ≡ length image = rebuilt_length family key base es ∙ emptied_length family.heads family.count image in
    let lays : Lays family (length j) = subst (λ (s : ℕ). Lays family s) (sym n) l in
    subst (λ (o : Option ℕ). Indexed family (put_in family j (key e.1) o e.0) key (e ∷ es)) (first_place key (key e.1))
    (indexed_put family j key [] es e.0 e.1 (key e.1) refl lays w.0 k.0 a.0 a.1 (indexed_rebuilt family key image es l a.1 w.1 k.1))
