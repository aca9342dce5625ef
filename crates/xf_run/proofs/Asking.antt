-- The clock's answers, one for each phase.
use Rattle.std.proofs.Common.{◌≡◌, ◌⊎◌, inl, inr, ℕ, ◌+◌, ◌<◌, ◌==◌, ◌^◌, if◌then◌else◌, Option, None, Some, ap, ◌∙◌, arith}
use Rattle.std.specs.Prelude.{IfSome}
use Rattle.std.proofs.lemmas.Bool.Decides.{nat_tests}
use Rattle.xf_io.specs.Seconds.{ClockGives}
use Rattle.xf_run.specs.Outcome.{ClockAnswers, HasLeft}

-- the answers so far, and one more at this place
abbrev pub with_answer : (ℕ → ℕ) → ℕ → ℕ → ℕ → ℕ
with_answer answers n now k = if k == n then now else answers k

-- two clocks have the same first answers
abbrev pub Agree : ℕ → (ℕ → ℕ) → (ℕ → ℕ) → Type 0
Agree n f g = (k : ℕ) → k < n → f k ≡ g k

pub answer_at : (answers : ℕ → ℕ) (n now : ℕ) → with_answer answers n now n ≡ now
answer_at answers n now = grind (arith, nat_tests)

pub answer_before : (answers : ℕ → ℕ) (n now k : ℕ) → k < n → with_answer answers n now k ≡ answers k
answer_before answers n now k lt = grind (arith, nat_tests, lt)

before_or_at : (k n : ℕ) → k < n + 1 → (k < n) ⊎ (k ≡ n)
before_or_at k n lt = grind (arith, nat_tests, lt)

-- answers that are those and the next one are those
pub agree_less : (f answers : ℕ → ℕ) (n now : ℕ) → Agree (n + 1) f (with_answer answers n now) → Agree n f answers
agree_less f answers n now a = λ (k : ℕ) (lt : k < n). a k (omega (arith, lt)) ∙ answer_before answers n now k lt

-- and the next one is this
pub agree_at : (f answers : ℕ → ℕ) (n now : ℕ) → Agree (n + 1) f (with_answer answers n now) → f n ≡ now
agree_at f answers n now a = a n (omega arith) ∙ answer_at answers n now

-- the next answer has 64 bits too
in_range_more : (answers : ℕ → ℕ) (n now : ℕ) → ((k : ℕ) → k < n → answers k < 2 ^ 64) → now < 2 ^ 64
    → (k : ℕ) → k < n + 1 → with_answer answers n now k < 2 ^ 64
in_range_more answers n now h lt k less =
    elim (before_or_at k n less) [
      | inl b ↦ rw (answer_before answers n now k b) (h k b)
      | inr e ↦ rw (e, answer_at answers n now) lt
    ]

given_more : (coming middle later : Option (ℕ → ℕ)) (answers : ℕ → ℕ) (n now : ℕ)
    → IfSome coming (λ f. (k : ℕ) → k < n → answers k ≡ f k) → HasLeft coming middle n → ClockGives middle later now
    → IfSome coming (λ f. (k : ℕ) → k < n + 1 → with_answer answers n now k ≡ f k)
given_more None middle later answers n now h l c = tt
given_more (Some f) None later answers n now h l c = absurd l
given_more (Some f) (Some g) None answers n now h l c = absurd c
given_more (Some f) (Some g) (Some e) answers n now h l c = λ (k : ℕ) (less : k < n + 1).
    elim (before_or_at k n less) [
      | inl b ↦ answer_before answers n now k b ∙ h k b
      | inr same ↦ rw (same) (let start : 0 + n ≡ n = omega arith in answer_at answers n now ∙ (c.0 ∙ (l 0 ∙ ap f start)))
    ]

left_more : (coming middle later : Option (ℕ → ℕ)) (n now : ℕ) → HasLeft coming middle n → ClockGives middle later now
    → HasLeft coming later (n + 1)
left_more None middle later n now l c = tt
left_more (Some f) None later n now l c = absurd l
left_more (Some f) (Some g) None n now l c = absurd c
left_more (Some f) (Some g) (Some e) n now l c = λ (k : ℕ).
    let at : (k + 1) + n ≡ k + (n + 1) = omega arith in
    c.1 k ∙ (l (k + 1) ∙ ap f at)

-- no answer yet
pub asked_none : (coming : Option (ℕ → ℕ)) → ClockAnswers coming coming 0 (λ (k : ℕ). 0)
asked_none None = record { in_range = λ (k : ℕ) (lt : k < 0). omega arith; given = tt; left = tt }
asked_none (Some f) = record {
  in_range = λ (k : ℕ) (lt : k < 0). omega arith;
  given = λ (k : ℕ) (lt : k < 0). absurd (omega (arith, lt));
  left = λ (k : ℕ). let at : k ≡ k + 0 = omega arith in ap f at;
}

-- one more answer
pub asked_more : (coming middle later : Option (ℕ → ℕ)) (answers : ℕ → ℕ) (n now : ℕ) → ClockAnswers coming middle n answers
    → now < 2 ^ 64 → ClockGives middle later now → ClockAnswers coming later (n + 1) (with_answer answers n now)
asked_more coming middle later answers n now a lt c = record {
  in_range = in_range_more answers n now a.in_range lt;
  given = given_more coming middle later answers n now a.given a.left c;
  left = left_more coming middle later n now a.left c;
}
