-- Numbers that differ.
use Rattle.std.proofs.Common.{arith, ◌≡◌, ◌≢◌, ◌==◌, ℕ, ◌<◌, List, [], ◌∷◌, length, get_or, map, sym, ◌∙◌, subst}
use Rattle.std.specs.Prelude.{AllPairs, IsPermutation}
use Rattle.std.proofs.lemmas.Bool.Decides.{Decides-eqb, nat_tests}
use Rattle.std.proofs.lemmas.List.{get_or-map, length-map}
use Rattle.std.proofs.lemmas.List.Elements.{All-weaker}
use Rattle.std.proofs.lemmas.List.Kept.{AllPairs-cons}
use Rattle.std.proofs.lemmas.List.Sorted.{IsPermutation-map, IsPermutation-sym}
use Rattle.std.proofs.lemmas.Map.Keys.{IsDistinct-IsPermutation}
use Rattle.std.proofs.lemmas.Map.Made.{AllPairs-from_IsDistinct, IsDistinct-from_AllPairs}
use Rattle.xf_laws.proofs.ListLemmas.{AllPairs-nil}
use Rattle.xf_types.specs.declared.call.Receipt.{Receipt}
use Rattle.xf_types.specs.History.{IsIncreasing, joined}
use Rattle.xf_seats.specs.Ends.{AreParts}
use Rattle.xf_seats.proofs.Merged.{least, later, parts_are_all}

-- no two have one number
abbrev Differ : Receipt → Receipt → Type 0
Differ a b = a.number ≡ b.number → ⊥

-- numbers that increase differ
differing : (rs : List Receipt) → IsIncreasing rs → AllPairs Differ rs
differing [] inc = AllPairs-nil Differ
differing (r ∷ rs) inc =
    AllPairs-cons Differ r rs
    (All-weaker (λ (q : Receipt). r.number < q.number) (Differ r) (λ q low same. omega arith) rs (least r rs inc))
    (differing rs (later r rs inc))

numbers_of : (rs : List Receipt) → AllPairs Differ rs → AllPairs (λ m n. m ≢ n) (map (λ (r : Receipt). r.number) rs)
numbers_of [] apart i j d less within = absurd (omega (arith, within))
numbers_of (r ∷ rs) apart i j d less within =
    let is : (k : ℕ) → k < length (r ∷ rs) → get_or (map (λ (r : Receipt). r.number) (r ∷ rs)) k d ≡ (get_or (r ∷ rs) k r).number =
    λ k w. get_or-map (λ (r : Receipt). r.number) (r ∷ rs) k r d w in
    let there = subst (λ n. j < n) (length-map (r ∷ rs) (λ (r : Receipt). r.number)) within in
    λ e. apart i j r less there (sym (is i (omega (arith, less, there))) ∙ e ∙ is j there)

of_numbers : (rs : List Receipt) → AllPairs (λ m n. m ≢ n) (map (λ (r : Receipt). r.number) rs) → AllPairs Differ rs
of_numbers rs apart i j d less within =
    let is : (k : ℕ) → k < length rs → get_or (map (λ (r : Receipt). r.number) rs) k d.number ≡ (get_or rs k d).number =
    λ k w. get_or-map (λ (r : Receipt). r.number) rs k d d.number w in
    λ e. apart i j d.number less (subst (λ n. j < n) (sym (length-map rs (λ (r : Receipt). r.number))) within)
    (is i (omega (arith, less, within)) ∙ e ∙ sym (is j within))

flips : (m n : ℕ) → (m == n) ≡ (n == m)
flips m n = grind (arith, nat_tests)

-- they do in any order
moved : (rs qs : List Receipt) → IsPermutation rs qs → AllPairs Differ rs → AllPairs Differ qs
moved rs qs p apart =
    of_numbers qs (AllPairs-from_IsDistinct Decides-eqb (map (λ (r : Receipt). r.number) qs)
    (IsDistinct-IsPermutation ◌==◌ flips (map (λ (r : Receipt). r.number) rs) (map (λ (r : Receipt). r.number) qs)
    (IsPermutation-map (λ (r : Receipt). r.number) rs qs p)
    (IsDistinct-from_AllPairs Decides-eqb (map (λ (r : Receipt). r.number) rs) (numbers_of rs apart))))

pub parts_are_apart : (history : List Receipt) (lists : List (List Receipt)) → AreParts history lists → IsIncreasing history → AllPairs Differ (joined lists)
parts_are_apart history lists p inc =
    moved history (joined lists) (IsPermutation-sym (joined lists) history (parts_are_all history lists p)) (differing history inc)
