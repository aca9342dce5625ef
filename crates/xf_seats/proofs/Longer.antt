-- The longer one of two lists that begin one list.
use Rattle.std.proofs.Common.{◌≡◌, ◌≤◌, Bool, true, false, nat_lt, List, [], ◌∷◌, ◌++◌, length, refl, sym, ap, ◌∙◌, arith, length-append}
use Rattle.std.specs.Prelude.{if◌then◌else◌}
use Rattle.std.proofs.lemmas.Bool.{ltb-true, ltb-false}
use Rattle.std.proofs.lemmas.List.{append-nil}
use Rattle.xf_types.specs.declared.call.Receipt.{Receipt}
use Rattle.xf_views.specs.Log.{IsFront}
use Rattle.xf_seats.specs.Seats.{longer}

-- it is one of the two
pub longer_is : (P : List Receipt → Type 0) (l m : List Receipt) → P l → P m → P (longer l m)
longer_is P l m a b = either (nat_lt (length l) (length m))
  where
    either : (t : Bool) → P (if t then m else l)
    either true = b
    either false = a

front_short : (l whole : List Receipt) → IsFront l whole → length l ≤ length whole
front_short l whole f = let s = length-append l f.0 in let e = ap length f.1 in omega arith

no_rest : (l rest : List Receipt) → length rest ≡ 0 → l ++ rest ≡ l
no_rest l [] e = append-nil l
no_rest l (r ∷ rs) e = absurd (omega arith)

-- a front that is as long is the whole
front_whole : (l whole : List Receipt) → IsFront l whole → length whole ≤ length l → l ≡ whole
front_whole l whole f h =
    let s = length-append l f.0 in let e = ap length f.1 in
    let z : length f.0 ≡ 0 = omega arith in
    sym (no_rest l f.0 z) ∙ f.1

pick : (l m : List Receipt) (t : Bool) → nat_lt (length l) (length m) ≡ t → longer l m ≡ (if t then m else l)
pick l m t e = ap (λ (b : Bool). if b then m else l) e

module _ (l m whole : List Receipt) (f : IsFront l whole) (g : IsFront m whole) where
  -- where one of the two is the whole list, so is the longer one
  pub longer_first : l ≡ whole → longer l m ≡ whole
  longer_first is = either (nat_lt (length l) (length m)) refl
    where
      either : (t : Bool) → nat_lt (length l) (length m) ≡ t → longer l m ≡ whole
      either false e = pick l m false e ∙ is
      either true e =
          let h = ltb-true (length l) (length m) e in
          let short = front_short m whole g in
          let q = ap length is in
          absurd (omega arith)

  pub longer_second : m ≡ whole → longer l m ≡ whole
  longer_second is = either (nat_lt (length l) (length m)) refl
    where
      either : (t : Bool) → nat_lt (length l) (length m) ≡ t → longer l m ≡ whole
      either true e = pick l m true e ∙ is
      either false e =
          let q = ap length is in
          let h = ltb-false (length l) (length m) e in
          pick l m false e ∙ front_whole l whole f (omega arith)
