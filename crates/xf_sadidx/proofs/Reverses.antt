-- Lists the other way round.
use Rattle.std.proofs.Common.{◌≡◌, ℕ, Bool, true, false, ◌||◌, List, [], ◌∷◌, ◌++◌, cond, filter, reverse, refl, ap, sym, ◌∙◌, subst, rules, append-nil, ◌<◌}
use Rattle.std.specs.List.{list_any}
use Rattle.std.proofs.lemmas.List.{reverse-append}
use Rattle.std.proofs.lemmas.List.Elements.{filter-append}
use Rattle.std.proofs.lemmas.List.Folds.{list_any-append}
use Rattle.xf_chain.specs.Lists.{Within}
use Rattle.xf_index.specs.Indexes.{Holds}

pub holds_append : {A B : Type 0} (read : ℕ → B) (want : A → B) (front back : List (ℕ × A)) → Holds read want front → Holds read want back → Holds read want (front ++ back)
holds_append read want [] back h k = k
holds_append read want (e ∷ es) back h k = (h.0, holds_append read want es back h.1 k)

pub holds_reverse : {A B : Type 0} (read : ℕ → B) (want : A → B) (es : List (ℕ × A)) → Holds read want es → Holds read want (reverse es)
holds_reverse read want [] h = h
holds_reverse {A = A} read want (e ∷ es) h =
    subst (λ (xs : List (ℕ × A)). Holds read want xs) (sym (reverse-append (e ∷ []) es))
    (holds_append read want (reverse es) (e ∷ []) (holds_reverse read want es h.1) (h.0, search rules))

pub filter_reverse : {A : Type 0} (test : A → Bool) (xs : List A) → filter test (reverse xs) ≡ reverse (filter test xs)
filter_reverse test [] = refl
filter_reverse test (x ∷ xs) =
    ap (filter test) (reverse-append (x ∷ []) xs) ∙ filter-append test (reverse xs) (x ∷ [])
    ∙ ap (λ ys. ys ++ filter test (x ∷ [])) (filter_reverse test xs) ∙ end (test x)
  where
    end : (b : Bool) → reverse (filter test xs) ++ cond b (x ∷ []) [] ≡ reverse (cond b (x ∷ filter test xs) (filter test xs))
    end true = sym (reverse-append (x ∷ []) (filter test xs))
    end false = append-nil (reverse (filter test xs))

pub any_reverse : {A : Type 0} (test : A → Bool) (xs : List A) → list_any test (reverse xs) ≡ list_any test xs
any_reverse test [] = refl
any_reverse test (x ∷ xs) =
    ap (list_any test) (reverse-append (x ∷ []) xs) ∙ list_any-append test (reverse xs) (x ∷ [])
    ∙ ap (λ b. b || list_any test (x ∷ [])) (any_reverse test xs) ∙ turned (list_any test xs) (test x)
  where
    turned : (a b : Bool) → (a || (b || false)) ≡ (b || a)
    turned true true = refl
    turned true false = refl
    turned false true = refl
    turned false false = refl

within_end : (n x : ℕ) (xs : List ℕ) → Within n xs → x < n → Within n (xs ++ (x ∷ []))
within_end n x [] w l = (l, w)
within_end n x (y ∷ ys) w l = (w.0, within_end n x ys w.1 l)

pub within_reverse : (n : ℕ) (xs : List ℕ) → Within n xs → Within n (reverse xs)
within_reverse n [] w = w
within_reverse n (x ∷ xs) w =
    subst (λ (ys : List ℕ). Within n ys) (sym (reverse-append (x ∷ []) xs)) (within_end n x (reverse xs) (within_reverse n xs w.1) w.0)
