-- All seats are clear for a retired slot where the table finds them so.
use Rattle.std.proofs.Common.{◌≡◌, ℕ, zero, suc, ◌<◌, true, List, sym, ◌∙◌, subst, arith, inl, inr, ⊎_elim, ◌⊎◌, eqb-true, ltb-true}
use Rattle.std.specs.Prelude.{◌&&◌, ◌||◌, ◌==◌, nat_lt}
use Rattle.std.proofs.lemmas.Bool.{or_cases}
use mathlib.Core.Logic.{dite}
use native.Mathlib.Decide.{ℕ_discrete}
use Rattle.xf_invariant.specs.PinPart.{Has}
use Rattle.xf_proto.specs.Statuses.{is_clear, are_clear}
use Rattle.xf_runs.proofs.Flags.{both}
use Rattle.xf_runs.proofs.Lookups.{any-has}

pub clear-all : (r : ℕ) (pins : List (ℕ × ℕ)) (n : ℕ) → are_clear r pins n ≡ true → (j : ℕ) → j < n → (q : ℕ) × Has pins (j, q) × ((q ≡ 0) ⊎ (r < q))
clear-all r pins zero e j less = absurd (omega arith)
clear-all r pins (suc n) e j less = dite (ℕ_discrete j n)
    (λ same.
    let c = any-has (λ (x : ℕ × ℕ). (x.0 == n) && ((x.1 == 0) || nat_lt r x.1)) pins (both (is_clear r pins n) (are_clear r pins n) e).0 in
    let b = both (c.0.0 == n) ((c.0.1 == 0) || nat_lt r c.0.1) c.2 in
    let is : c.0.0 ≡ j = eqb-true c.0.0 n b.0 ∙ sym same in
    (c.0.1, subst (λ z. Has pins (z, c.0.1)) is c.1, ⊎_elim (λ (z : (c.0.1 == 0) ≡ true). inl (eqb-true c.0.1 0 z)) (λ (z : nat_lt r c.0.1 ≡ true). inr (ltb-true r c.0.1 z)) (or_cases (c.0.1 == 0) (nat_lt r c.0.1) b.1)))
    (λ ne. clear-all r pins n (both (is_clear r pins n) (are_clear r pins n) e).1 j (omega arith))
