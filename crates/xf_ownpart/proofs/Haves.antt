-- What is in a list that was mapped or filtered.
use Rattle.std.proofs.Common.{◌≡◌, zero, suc, Bool, true, false, List, [], ◌∷◌, map, filter, refl, sym, ap, ◌∙◌, cond}
use mathlib.Core.Option.{some-injective, some-ne-none}
use Rattle.xf_invariant.specs.PinPart.{Has}

pub has_first : {A : Type 0} (x : A) (xs : List A) → Has (x ∷ xs) x
has_first x xs = (zero, refl)

pub has_more : {A : Type 0} (x y : A) (xs : List A) → Has xs y → Has (x ∷ xs) y
has_more x y xs h = (suc h.0, h.1)

pub has_map : {A B : Type 0} (f : A → B) (xs : List A) (b : B) → Has (map f xs) b → (a : A) × Has xs a × (f a ≡ b)
has_map f [] b h = absurd (some-ne-none b (sym h.1))
has_map f (x ∷ xs) b (zero, e) = (x, has_first x xs, some-injective (f x) b e)
has_map f (x ∷ xs) b (suc k, e) = let h = has_map f xs b (k, e) in (h.0, has_more x h.0 xs h.1, h.2)

pub has_filter : {A : Type 0} (p : A → Bool) (xs : List A) (a : A) → Has (filter p xs) a → Has xs a × (p a ≡ true)
has_filter p [] a h = absurd (some-ne-none a (sym h.1))
has_filter {A} p (x ∷ xs) a h =
    elim (p x) as (λ b. p x ≡ b → Has (cond b (x ∷ filter p xs) (filter p xs)) a → Has (x ∷ xs) a × (p a ≡ true)) [
      | true ↦ λ is k. first (λ l. has_filter p xs a l) is k
      | false ↦ λ is k. let r = has_filter p xs a k in (has_more x a xs r.0, r.1)
    ] refl h
  where
    first : (Has (filter p xs) a → Has xs a × (p a ≡ true)) → p x ≡ true → Has (x ∷ filter p xs) a → Has (x ∷ xs) a × (p a ≡ true)
    first rest is (zero, e) = let same : x ≡ a = some-injective x a e in ((zero, e), sym (ap p same) ∙ is)
    first rest is (suc k, e) = let r = rest (k, e) in (has_more x a xs r.0, r.1)
