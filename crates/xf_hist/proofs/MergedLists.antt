-- Several lists of receipts as one.
use Rattle.std.proofs.Common.{arith, ◌≡◌, ◌≢◌, ◌==◌, ℕ, suc, ◌+◌, ◌<◌, ◌≤◌, List, [], ◌∷◌, ◌++◌, length, get_or, map, refl, ap, sym, ◌∙◌, subst}
use Rattle.std.specs.Prelude.{AllPairs, IsPermutation}
use Rattle.std.specs.List.Sorted.{IsNonDecreasingBy}
use Rattle.std.proofs.lemmas.List.Sorted.{IsPermutation-map}
use Rattle.std.proofs.lemmas.Map.Keys.{IsDistinct-IsPermutation}
use Rattle.std.proofs.lemmas.Map.Made.{AllPairs-from_IsDistinct, IsDistinct-from_AllPairs}
use Rattle.std.proofs.lemmas.Bool.Decides.{Decides-eqb, nat_tests}
use Rattle.std.specs.declared.vec.Vec.{Vec}
use Rattle.std.proofs.lemmas.List.{append_assoc, append-nil, get_or-map, length-map, length-append}
use Rattle.xf_types.specs.declared.call.Receipt.{Receipt}
use Rattle.xf_types.specs.History.{IsIncreasing}
use Rattle.xf_hist.specs.Merged.{all_of, total, AreApart}

-- one list more
pub all_of-more : {Z : Type 0} (vs : List (Vec Receipt Z)) (v : Vec Receipt Z) → all_of (vs ++ v ∷ []) ≡ all_of vs ++ v.items
all_of-more [] v = append-nil v.items
all_of-more (w ∷ vs) v = ap (λ rs. w.items ++ rs) (all_of-more vs v) ∙ sym (append_assoc w.items (all_of vs) v.items)

-- numbers that don't fall and are apart increase
pub increasing : (rs : List Receipt) → IsNonDecreasingBy (λ (r : Receipt). r.number) rs → AreApart rs → IsIncreasing rs
increasing [] sorted apart = tt
increasing (r ∷ []) sorted apart = tt
increasing (r ∷ q ∷ rs) sorted apart =
    let below = sorted 0 1 r (omega arith) (omega arith) in
    let differ = apart 0 1 r (omega arith) (omega arith) in (
      less r.number q.number below differ,
      increasing (q ∷ rs) (λ i j d le within. sorted (suc i) (suc j) d (omega (arith, le)) (omega (arith, within)))
          (λ i j d lt within. apart (suc i) (suc j) d (omega (arith, lt)) (omega (arith, within))),
    )
  where
    less : (m n : ℕ) → m ≤ n → (m ≡ n → ⊥) → m < n
    less m n le ne = omega (arith, le, ne)

-- receipts with different numbers, by their numbers
apart-numbers : (rs : List Receipt) → AreApart rs → AllPairs (λ m n. m ≢ n) (map (λ (r : Receipt). r.number) rs)
apart-numbers [] apart i j d less within = absurd (omega (arith, within))
apart-numbers (r ∷ rs) apart i j d less within =
    let is : (k : ℕ) → k < length (r ∷ rs) → get_or (map (λ (r : Receipt). r.number) (r ∷ rs)) k d ≡ (get_or (r ∷ rs) k r).number =
    λ k w. get_or-map (λ (r : Receipt). r.number) (r ∷ rs) k r d w in
    let there = subst (λ n. j < n) (length-map (r ∷ rs) (λ (r : Receipt). r.number)) within in
    λ e. apart i j r less there (sym (is i (omega (arith, less, there))) ∙ e ∙ is j there)

numbers-apart : (rs : List Receipt) → AllPairs (λ m n. m ≢ n) (map (λ (r : Receipt). r.number) rs) → AreApart rs
numbers-apart rs apart i j d less within =
    let is : (k : ℕ) → k < length rs → get_or (map (λ (r : Receipt). r.number) rs) k d.number ≡ (get_or rs k d).number =
    λ k w. get_or-map (λ (r : Receipt). r.number) rs k d d.number w in
    λ e. apart i j d.number less (subst (λ n. j < n) (sym (length-map rs (λ (r : Receipt). r.number))) within)
    (is i (omega (arith, less, within)) ∙ e ∙ sym (is j within))

flips : (m n : ℕ) → (m == n) ≡ (n == m)
flips m n = grind (arith, nat_tests)

-- receipts that change places keep their numbers apart
pub apart-moved : (rs qs : List Receipt) → IsPermutation rs qs → AreApart rs → AreApart qs
apart-moved rs qs moved apart =
    numbers-apart qs (AllPairs-from_IsDistinct Decides-eqb (map (λ (r : Receipt). r.number) qs)
    (IsDistinct-IsPermutation ◌==◌ flips (map (λ (r : Receipt). r.number) rs) (map (λ (r : Receipt). r.number) qs)
    (IsPermutation-map (λ (r : Receipt). r.number) rs qs moved)
    (IsDistinct-from_AllPairs Decides-eqb (map (λ (r : Receipt). r.number) rs) (apart-numbers rs apart))))

all_of-append : {Z : Type 0} (vs ws : List (Vec Receipt Z)) → all_of (vs ++ ws) ≡ all_of vs ++ all_of ws
all_of-append [] ws = refl
all_of-append (v ∷ vs) ws = ap (λ rs. v.items ++ rs) (all_of-append vs ws) ∙ sym (append_assoc v.items (all_of vs) (all_of ws))

-- the next list has room
pub room-left : {Z : Type 0} (vs yielded rest later : List (Vec Receipt Z)) (v : Vec Receipt Z) → yielded ++ rest ≡ vs → rest ≡ v ∷ later
    → length (all_of yielded) + length v.items ≤ total vs
room-left vs yielded rest later v all is =
    let whole : all_of yielded ++ (v.items ++ all_of later) ≡ all_of vs =
    sym (all_of-append yielded (v ∷ later)) ∙ ap (λ ws. all_of (yielded ++ ws)) (sym is) ∙ ap all_of all in
    let one : length (all_of yielded) + length (v.items ++ all_of later) ≡ total vs = sym (length-append (all_of yielded) (v.items ++ all_of later)) ∙ ap length whole in
    let two : length (v.items ++ all_of later) ≡ length v.items + length (all_of later) = length-append v.items (all_of later) in
    omega (arith, one, two)

-- one list fewer is left
pub one-fewer : {X : Type 0} (xs yielded rest later : List X) (x : X) → yielded ++ rest ≡ xs → rest ≡ x ∷ later → (yielded ++ x ∷ []) ++ later ≡ xs
one-fewer xs yielded rest later x all is = append_assoc yielded (x ∷ []) later ∙ ap (λ ys. yielded ++ ys) (sym is) ∙ all
