-- Lists that begin others.
use Rattle.std.proofs.Common.{◌≡◌, List, [], ◌∷◌, ◌++◌, refl, sym, ap, ◌∙◌, append_assoc, inl, inr, ◌⊎◌, ⊎_elim}
use Rattle.std.proofs.lemmas.List.{append-nil}
use Rattle.xf_types.specs.declared.call.Receipt.{Receipt}
use Rattle.xf_views.specs.Log.{IsFront}

pub front_all : (xs : List Receipt) → IsFront xs xs
front_all xs = ([], append-nil xs)

pub front_more : (xs ys zs : List Receipt) → IsFront xs ys → IsFront xs (ys ++ zs)
front_more xs ys zs p = (p.0 ++ zs, sym (append_assoc xs p.0 zs) ∙ ap (λ (l : List Receipt). l ++ zs) p.1)

front_cons : (x y : Receipt) (xs ys : List Receipt) → x ≡ y → IsFront xs ys → IsFront (x ∷ xs) (y ∷ ys)
front_cons x y xs ys e p = (p.0, ap (λ (l : List Receipt). x ∷ l) p.1 ∙ ap (λ (z : Receipt). z ∷ ys) e)

-- of two lists that begin one list, one begins the other
pub front_either : (xs ys zs : List Receipt) → IsFront xs zs → IsFront ys zs → IsFront xs ys ⊎ IsFront ys xs
front_either [] ys zs p q = inl (ys, refl)
front_either (x ∷ xs) [] zs p q = inr (x ∷ xs, refl)
front_either (x ∷ xs) (y ∷ ys) [] p q = let e : x ∷ (xs ++ p.0) ≡ [] = p.1 in absurd (cc)
front_either (x ∷ xs) (y ∷ ys) (z ∷ zs) p q =
    let a : x ∷ (xs ++ p.0) ≡ z ∷ zs = p.1 in
    let b : y ∷ (ys ++ q.0) ≡ z ∷ zs = q.1 in
    let heads : x ≡ y = cc in
    ⊎_elim
    (λ (t : IsFront xs ys). inl (front_cons x y xs ys heads t))
    (λ (t : IsFront ys xs). inr (front_cons y x ys xs (sym heads) t))
    (front_either xs ys zs (p.0, cc) (q.0, cc))
