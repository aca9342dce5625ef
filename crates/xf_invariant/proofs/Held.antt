-- What lists of loads, pins and retirements hold after one more.
use Rattle.std.proofs.Common.{◌≡◌, ◌≢◌, ℕ, zero, suc, ◌<◌, ◌≤◌, Bool, true, false, List, [], ◌∷◌, ◌++◌, length, drop, refl, sym, ap, ◌∙◌, subst, ⊎_elim, ◌⊎◌, inl, inr, ne_eqb, lt-ltb, le-leb}
use Rattle.std.proofs.lemmas.Bool.{le-ltb}
use Rattle.std.specs.Prelude.{if◌then◌else◌, slice_index, ◌==◌, nat_lt, nat_le, ◌&&◌}
use mathlib.Core.Option.{some, some-injective, some-ne-none}
use lib.ListN.{get_elem?}
use Rattle.xf_views.specs.Hands.{retired_after}
use Rattle.xf_views.specs.Views.{fresh_after}
use Rattle.xf_views.proofs.Lists.{at_snoc}
use Rattle.xf_invariant.specs.Meaning.{Agrees}
use Rattle.xf_invariant.specs.PinPart.{Has}

pub has_snoc : {A : Type 0} (l : List A) (a b : A) → Has (l ++ a ∷ []) b → Has l b ⊎ (a ≡ b)
has_snoc l a b h = ⊎_elim (λ (t : get_elem? l h.0 ≡ some b). inl (h.0, t)) (λ (t : a ≡ b). inr t) (at_snoc l a b h.0 h.1)

pub has_drop : {A : Type 0} (n : ℕ) (l : List A) (a b : A) → Has (drop n (l ++ a ∷ [])) b → Has (drop n l) b ⊎ (a ≡ b)
has_drop zero l a b h = has_snoc l a b h
has_drop (suc n) [] a b h = dropped n h
  where
    dropped : (n : ℕ) → Has (drop n []) b → Has (drop (suc n) []) b ⊎ (a ≡ b)
    dropped zero h = absurd (some-ne-none b (sym h.1))
    dropped (suc n) h = absurd (some-ne-none b (sym h.1))
has_drop (suc n) (x ∷ xs) a b h = has_drop n xs a b h

pub drop_all : {A : Type 0} (l : List A) (b : A) → Has (drop (length l) l) b → ⊥
drop_all [] b h = some-ne-none b (sym h.1)
drop_all (x ∷ xs) b h = drop_all xs b h

pub no_shows : (l : List (List (ℕ × ℕ))) (x : List (ℕ × ℕ)) → l ≡ [] → Has l x → ⊥
no_shows l x e h = some-ne-none x (sym (ap (λ (z : List (List (ℕ × ℕ))). get_elem? z h.0) (sym e) ∙ h.1))

pub agrees_at : (words : List ℕ) (l : List (ℕ × ℕ)) (p : ℕ × ℕ) → Agrees words l → Has l p → slice_index words p.0 ≡ p.1
agrees_at words [] p a h = absurd (some-ne-none p (sym h.1))
agrees_at words (q ∷ qs) p a (zero, e) = subst (λ (z : ℕ × ℕ). slice_index words z.0 ≡ z.1) (some-injective q p e) a.0
agrees_at words (q ∷ qs) p a (suc k, e) = agrees_at words qs p a.1 (k, e)

-- what a store of a status does to the marks and to the slots that were listed anew
pub marks-retired : (slots p x : ℕ) (l : List (ℕ × ℕ)) (m : List (ℕ × ℕ)) → p < slots → 2 ≤ x → retired_after slots p x l m ≡ (p, length l) ∷ m
marks-retired slots p x l m lt le =
    ap (λ (b : Bool). if b && nat_le 2 x then (p, length l) ∷ m else m) (lt-ltb p slots lt)
    ∙ ap (λ (b : Bool). if b then (p, length l) ∷ m else m) (le-leb 2 x le)

and-false : (b : Bool) → (b && false) ≡ false
and-false true = refl
and-false false = refl

pub marks-listed : (slots p : ℕ) (l : List (ℕ × ℕ)) (m : List (ℕ × ℕ)) → retired_after slots p 1 l m ≡ m
marks-listed slots p l m = ap (λ (b : Bool). if b then (p, length l) ∷ m else m) (and-false (nat_lt p slots))

pub fresh-listed : (slots p : ℕ) (f : List ℕ) → p < slots → fresh_after slots p 1 f ≡ p ∷ f
fresh-listed slots p f lt = ap (λ (b : Bool). if b && (1 == 1) then p ∷ f else f) (lt-ltb p slots lt)

pub fresh-other : (slots p x : ℕ) (f : List ℕ) → x ≢ 1 → fresh_after slots p x f ≡ f
fresh-other slots p x f ne =
    ap (λ (b : Bool). if nat_lt p slots && b then p ∷ f else f) (ne_eqb x 1 ne)
    ∙ ap (λ (b : Bool). if b then p ∷ f else f) (and-false (nat_lt p slots))

-- a store behind the statuses retires and lists none
pub retired-behind : (slots p x : ℕ) (l : List (ℕ × ℕ)) (m : List (ℕ × ℕ)) → slots ≤ p → retired_after slots p x l m ≡ m
retired-behind slots p x l m h = ap (λ (b : Bool). if b && nat_le 2 x then (p, length l) ∷ m else m) (le-ltb p slots h)

pub fresh-behind : (slots p x : ℕ) (f : List ℕ) → slots ≤ p → fresh_after slots p x f ≡ f
fresh-behind slots p x f h = ap (λ (b : Bool). if b && (x == 1) then p ∷ f else f) (le-ltb p slots h)
