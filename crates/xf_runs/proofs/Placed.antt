-- A receipt that comes to stand late is placed among the others by its number: where its mark is.
use Rattle.std.proofs.Common.{◌≡◌, ℕ, zero, suc, ◌+◌, ◌<◌, ◌≤◌, Bool, true, false, not, cond, List, [], ◌∷◌, length, set, insert, Some, None, Option, unwrap_or, refl, sym, ap, ◌∙◌, arith, le-ltb, lt-ltb, ltb-false}
use Rattle.std.specs.Prelude.{if◌then◌else◌, nat_lt}
use Rattle.std.specs.List.{prefix_len}
use mathlib.Core.Option.{some, some-injective, some-ne-none}
use lib.ListN.{get_elem?}
use Rattle.xf_types.specs.declared.call.Receipt.{Receipt}
use Rattle.xf_views.specs.Log.{Mark, mark, with_receipt, receipts_of}
use Rattle.xf_proto.specs.Effects.{place_of, placed}

prefix-short : (p : Receipt → Bool) (rs : List Receipt) → prefix_len p rs ≤ length rs
prefix-short p [] = omega arith
prefix-short p (r ∷ rs) = by (p r) (prefix-short p rs)
  where
    by : (b : Bool) → prefix_len p rs ≤ length rs → cond b (1 + prefix_len p rs) 0 ≤ suc (length rs)
    by true h = omega arith
    by false h = omega arith

one-more : (n : ℕ) → 1 + n ≡ suc n
one-more n = omega arith

-- each receipt has its place's number, counted from n
abbrev AreNumbered : ℕ → List Mark → Type 0
AreNumbered n log = (x : ℕ) (m : Mark) (q : Receipt) → get_elem? log x ≡ some m → m.receipt ≡ Some q → q.number ≡ n + x

behind : (n : ℕ) (m : Mark) (log : List Mark) → AreNumbered n (m ∷ log) → AreNumbered (n + 1) log
behind n m log h x u q at got = let k = h (suc x) u q at got in omega arith

module _ (r : Receipt) where
  abbrev stays_before : Receipt → Bool
  stays_before q = not (not (nat_lt q.number r.number))

  -- the receipt behind those with smaller numbers
  abbrev put : List Receipt → List Receipt
  put [] = r ∷ []
  put (q ∷ qs) = if stays_before q then q ∷ put qs else r ∷ q ∷ qs

  place-is : (rs : List Receipt) → place_of r rs ≡ prefix_len stays_before rs
  place-is rs = by (nat_lt (prefix_len stays_before rs) (length rs)) refl
    where
      by : (b : Bool) → nat_lt (prefix_len stays_before rs) (length rs) ≡ b → unwrap_or (cond b (Some (prefix_len stays_before rs)) None) (length rs) ≡ prefix_len stays_before rs
      by true e = refl
      by false e = let h = prefix-short stays_before rs in let l = ltb-false (prefix_len stays_before rs) (length rs) e in omega arith

  insert-put : (rs : List Receipt) → insert rs (prefix_len stays_before rs) r ≡ put rs
  insert-put [] = refl
  insert-put (q ∷ qs) = by (stays_before q) (insert-put qs)
    where
      by : (b : Bool) → insert qs (prefix_len stays_before qs) r ≡ put qs → insert (q ∷ qs) (cond b (1 + prefix_len stays_before qs) 0) r ≡ (if b then q ∷ put qs else r ∷ q ∷ qs)
      by true h = ap (λ n. insert (q ∷ qs) n r) (one-more (prefix_len stays_before qs)) ∙ ap (λ (l : List Receipt). q ∷ l) h
      by false h = refl

  put-first : (n : ℕ) (log : List Mark) → AreNumbered n log → r.number < n → put (receipts_of log) ≡ r ∷ receipts_of log
  put-first n [] h less = refl
  put-first n (m ∷ ms) h less = by m.receipt refl (put-first (n + 1) ms (behind n m ms h) (omega arith))
    where
      by : (o : Option Receipt) → m.receipt ≡ o → put (receipts_of ms) ≡ r ∷ receipts_of ms → put (with_receipt o (receipts_of ms)) ≡ r ∷ with_receipt o (receipts_of ms)
      by None e rest = rest
      by (Some q) e rest =
          let same = h zero m q refl e in
          ap (λ (b : Bool). if not (not b) then q ∷ put (receipts_of ms) else r ∷ q ∷ receipts_of ms) (le-ltb q.number r.number (omega arith))

  put-at : (n : ℕ) (log : List Mark) (x k : ℕ) (one : Option ℕ) → AreNumbered n log → get_elem? log x ≡ some (mark k None None) → r.number ≡ n + x
      → put (receipts_of log) ≡ receipts_of (set log x (mark k one (Some r)))
  put-at n [] x k one h at is = absurd (some-ne-none (mark k None None) (sym at))
  put-at n (m ∷ ms) zero k one h at is =
      ap (λ (u : Mark). put (with_receipt u.receipt (receipts_of ms))) (some-injective m (mark k None None) at) ∙ put-first (n + 1) ms (behind n m ms h) (omega arith)
  put-at n (m ∷ ms) (suc x) k one h at is = by m.receipt refl (put-at (n + 1) ms x k one (behind n m ms h) at (omega arith))
    where
      by : (o : Option Receipt) → m.receipt ≡ o → put (receipts_of ms) ≡ receipts_of (set ms x (mark k one (Some r)))
          → put (with_receipt o (receipts_of ms)) ≡ with_receipt o (receipts_of (set ms x (mark k one (Some r))))
      by None e rest = rest
      by (Some q) e rest =
          let same = h zero m q refl e in
          ap (λ (b : Bool). if not (not b) then q ∷ put (receipts_of ms) else r ∷ q ∷ receipts_of ms) (lt-ltb q.number r.number (omega arith))
          ∙ ap (λ (l : List Receipt). q ∷ l) rest

  pub placed-there : (log : List Mark) (x k : ℕ) (one : Option ℕ) → ((y : ℕ) (m : Mark) (q : Receipt) → get_elem? log y ≡ some m → m.receipt ≡ Some q → q.number ≡ y)
      → get_elem? log x ≡ some (mark k None None) → r.number ≡ x → placed r (receipts_of log) ≡ receipts_of (set log x (mark k one (Some r)))
  placed-there log x k one h at is =
      ap (λ n. insert (receipts_of log) n r) (place-is (receipts_of log)) ∙ insert-put (receipts_of log)
      ∙ put-at 0 log x k one (λ y m q there got. let same = h y m q there got in omega arith) at (omega arith)
