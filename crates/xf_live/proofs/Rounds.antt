-- Lists that go round.
use Rattle.std.proofs.Common.{◌≡◌, ℕ, zero, suc, ◌+◌, ◌<◌, List, [], ◌∷◌, ◌++◌, length, take, drop, refl, sym, ap, ◌∙◌, arith}
use Rattle.std.proofs.lemmas.List.{append_assoc}
use Rattle.atomic_table.specs.Table.{turned}
use Rattle.xf_live.specs.Values.{rotated}

-- the element at n, and what stands before and behind it
record Apart {A : Type 0} (n : ℕ) (xs : List A) : Type 0 where
  one : A
  behind : List A
  here : drop n xs ≡ one ∷ behind
  next : drop (n + 1) xs ≡ behind
  before : take (n + 1) xs ≡ take n xs ++ one ∷ []

apart : {A : Type 0} (n : ℕ) (xs : List A) → n < length xs → Apart n xs
apart n [] h = absurd (omega arith)
apart zero (x ∷ xs) h = record { one = x; behind = xs; here = refl; next = refl; before = refl }
apart {A} (suc n) (x ∷ xs) h =
    let a = apart n xs (omega arith) in
    let e : suc n + 1 ≡ suc (n + 1) = omega arith in
    record {
      one = a.one;
      behind = a.behind;
      here = a.here;
      next = ap (λ k. drop k (x ∷ xs)) e ∙ a.next;
      before = ap (λ k. take k (x ∷ xs)) e ∙ ap (λ (l : List A). x ∷ l) a.before;
    }

pub turned_once : {S : Type 0} (n : ℕ) (xs : List (ℕ × S)) → n < length xs → turned (rotated n xs) ≡ rotated (n + 1) xs
turned_once {S} n xs h =
    let a = apart n xs h in
    ap (λ (l : List (ℕ × S)). turned (l ++ take n xs)) a.here
    ∙ (append_assoc a.behind (take n xs) (a.one ∷ [])
    ∙ (ap (λ (l : List (ℕ × S)). a.behind ++ l) (sym a.before) ∙ ap (λ (l : List (ℕ × S)). l ++ take (n + 1) xs) (sym a.next)))
