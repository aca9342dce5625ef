-- A walk that asks the words finds and keeps what the lists do.
use Rattle.std.proofs.Common.{◌≡◌, ℕ, Bool, true, false, cond, List, [], ◌∷◌, map, length, drop, Option, Some, refl, ap, ◌∙◌, arith}
use Rattle.std.specs.Prelude.{find, filter, slice_get}
use Rattle.std.specs.Option.{option_and_then}
use Rattle.std.proofs.lemmas.Option.{same_Some}
use Rattle.xf_asked.specs.Walked.{Hold}

module _ {X : Type 0} (read : ℕ → Option X) where
  hold_head : (at : ℕ) (ats : List ℕ) (x : X) (xs : List X) → Hold read (at ∷ ats) (x ∷ xs) → read at ≡ Some x
  hold_head at ats x xs h = same_Some (read at) (Some x) (ap (λ l. slice_get l 0) h)

  hold_tail : (at : ℕ) (ats : List ℕ) (x : X) (xs : List X) → Hold read (at ∷ ats) (x ∷ xs) → Hold read ats xs
  hold_tail at ats x xs h = ap (λ l. drop 1 l) h

  hold_none : {P : Type 0} (x : X) (xs : List X) → Hold read [] (x ∷ xs) → P
  hold_none x xs h = absurd (omega (arith, ap length h))

  hold_more : {P : Type 0} (at : ℕ) (ats : List ℕ) → Hold read (at ∷ ats) [] → P
  hold_more at ats h = absurd (omega (arith, ap length h))

  module _ (asks : ℕ → Bool) (test : X → Bool) (same : (at : ℕ) (x : X) → read at ≡ Some x → asks at ≡ test x) where
    found_by : (b : Bool) (at : ℕ) (x : X) (o : Option ℕ) (r : Option X) → read at ≡ Some x → option_and_then read o ≡ r
        → option_and_then read (cond b (Some at) o) ≡ cond b (Some x) r
    found_by true at x o r h e = h
    found_by false at x o r h e = e

    -- the first place that passes holds the first record that does
    pub found : (ats : List ℕ) (xs : List X) → Hold read ats xs → option_and_then read (find asks ats) ≡ find test xs
    found [] [] h = refl
    found [] (x ∷ xs) h = hold_none x xs h
    found (at ∷ ats) [] h = hold_more at ats h
    found (at ∷ ats) (x ∷ xs) h =
        let a : read at ≡ Some x = hold_head at ats x xs h in
        ap (λ b. option_and_then read (cond b (Some at) (find asks ats))) (same at x a)
        ∙ found_by (test x) at x (find asks ats) (find test xs) a (found ats xs (hold_tail at ats x xs h))

    kept_by : (b : Bool) (at : ℕ) (x : X) (ats : List ℕ) (xs : List X) → read at ≡ Some x → Hold read ats xs
        → Hold read (cond b (at ∷ ats) ats) (cond b (x ∷ xs) xs)
    kept_by true at x ats xs a h = let b : map read ats ≡ map Some xs = h in cc
    kept_by false at x ats xs a h = h

    -- the places that pass hold the records that do
    pub kept : (ats : List ℕ) (xs : List X) → Hold read ats xs → Hold read (filter asks ats) (filter test xs)
    kept [] [] h = refl
    kept [] (x ∷ xs) h = hold_none x xs h
    kept (at ∷ ats) [] h = hold_more at ats h
    kept (at ∷ ats) (x ∷ xs) h =
        let a : read at ≡ Some x = hold_head at ats x xs h in
        ap (λ b. map read (cond b (at ∷ filter asks ats) (filter asks ats))) (same at x a)
        ∙ kept_by (test x) at x (filter asks ats) (filter test xs) a (kept ats xs (hold_tail at ats x xs h))
