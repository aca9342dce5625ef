-- A group is written in one way.
use Rattle.std.proofs.Common.{◌≡◌, ℕ, ◌+◌, ◌*◌, ◌/◌, ◌%◌, ◌^◌, ◌<◌, List, [], ◌∷◌, All, refl, sym, ◌∙◌, inl, inr, arith, le-leb}
use Rattle.std.proofs.lemmas.Bool.{cases_lt, lt-leb}
use Rattle.std.proofs.lemmas.Bool.Decides.{nat_tests}
use Rattle.std.proofs.lemmas.List.Elements.{All-nil, All-cons}
use Rattle.std.specs.Int.{IsInRange}
use Rattle.std.specs.Char.{digit_value, digit_char}
use Rattle.std.specs.Net.Text.{hex}
use Rattle.xf_addr.specs.Written.{IsWrittenGroup}

-- the character of a hexadecimal digit has its value, isn't of upper case, and is `0` for 0 alone
digit_value-digit_char : (d : ℕ) → d < 16 → digit_value (digit_char d) ≡ d
digit_value-digit_char d h = grind (arith, nat_tests)

lower_char : (d : ℕ) → d < 16 → ¬ (IsInRange 65 70 (digit_char d))
lower_char d h upper = grind (arith, nat_tests)

some_char : (d : ℕ) → 0 < d → d < 16 → ¬ (digit_char d ≡ 48)
some_char d some h none = grind (arith, nat_tests)

-- a hexadecimal digit that isn't of upper case is the character of its value, which is 0 for `0` alone
digit_char-digit_value : (c : ℕ) → digit_value c < 16 → ¬ (IsInRange 65 70 c) → digit_char (digit_value c) ≡ c
digit_char-digit_value c h lower = grind (arith, nat_tests)

some_value : (c : ℕ) → digit_value c < 16 → ¬ (IsInRange 65 70 c) → ¬ (c ≡ 48) → 0 < digit_value c
some_value c h lower other = grind (arith, nat_tests)

-- no character is of upper case, in a record so that antt reads the list off a goal
record AreLower (text : List ℕ) : Type 0 where
  all : All (λ c. ¬ (IsInRange 65 70 c)) text

no_chars : AreLower []
no_chars = record { all = All-nil (λ c. ¬ (IsInRange 65 70 c)) }

more_chars : {text : List ℕ} (d : ℕ) → d < 16 → AreLower text → AreLower (digit_char d ∷ text)
more_chars {text} d h more = record { all = All-cons (λ c. ¬ (IsInRange 65 70 c)) (digit_char d) text (lower_char d h) more.all }

-- a number of one to four hexadecimal digits is written by these digits
hex_one : (d n : ℕ) → d < 16 → n ≡ d → hex n ≡ digit_char d ∷ []
unfolding hex
hex_one d n hd value =
    let at_d : n % 16 ≡ d = omega arith in
    rw (lt-leb 0x1000 n (omega arith), lt-leb 0x100 n (omega arith), lt-leb 0x10 n (omega arith), at_d) refl

hex_two : (c d n : ℕ) → 0 < c → c < 16 → d < 16 → n ≡ c * 16 + d → hex n ≡ digit_char c ∷ digit_char d ∷ []
unfolding hex
hex_two c d n some hc hd value =
    let at_c : n / 0x10 % 16 ≡ c = omega arith in
    let at_d : n % 16 ≡ d = omega arith in
    rw (lt-leb 0x1000 n (omega arith), lt-leb 0x100 n (omega arith), le-leb 0x10 n (omega arith), at_c, at_d) refl

hex_three : (b c d n : ℕ) → 0 < b → b < 16 → c < 16 → d < 16 → n ≡ (b * 16 + c) * 16 + d
    → hex n ≡ digit_char b ∷ digit_char c ∷ digit_char d ∷ []
unfolding hex
hex_three b c d n some hb hc hd value =
    let at_b : n / 0x100 % 16 ≡ b = omega arith in
    let at_c : n / 0x10 % 16 ≡ c = omega arith in
    let at_d : n % 16 ≡ d = omega arith in
    rw (lt-leb 0x1000 n (omega arith), le-leb 0x100 n (omega arith), at_b, at_c, at_d) refl

hex_four : (a b c d n : ℕ) → 0 < a → a < 16 → b < 16 → c < 16 → d < 16 → n ≡ ((a * 16 + b) * 16 + c) * 16 + d
    → hex n ≡ digit_char a ∷ digit_char b ∷ digit_char c ∷ digit_char d ∷ []
unfolding hex
hex_four a b c d n some ha hb hc hd value =
    let at_a : n / 0x1000 ≡ a = omega arith in
    let at_b : n / 0x100 % 16 ≡ b = omega arith in
    let at_c : n / 0x10 % 16 ≡ c = omega arith in
    let at_d : n % 16 ≡ d = omega arith in
    rw (le-leb 0x1000 n (omega arith), at_a, at_b, at_c, at_d) refl

-- these digits keep the rules
written_one : (d n : ℕ) → d < 16 → n ≡ d → IsWrittenGroup (digit_char d ∷ []) n
written_one d n hd value =
    let vd = digit_value-digit_char d hd in
    record {
      spelled = omega arith;
      lower = (more_chars d hd no_chars).all;
      no_leading_zero = λ _. refl;
    }

written_two : (c d n : ℕ) → 0 < c → c < 16 → d < 16 → n ≡ c * 16 + d → IsWrittenGroup (digit_char c ∷ digit_char d ∷ []) n
written_two c d n some hc hd value =
    let vc = digit_value-digit_char c hc in
    let vd = digit_value-digit_char d hd in
    record {
      spelled = omega arith;
      lower = (more_chars c hc (more_chars d hd no_chars)).all;
      no_leading_zero = λ none. absurd (some_char c some hc none);
    }

written_three : (b c d n : ℕ) → 0 < b → b < 16 → c < 16 → d < 16 → n ≡ (b * 16 + c) * 16 + d
    → IsWrittenGroup (digit_char b ∷ digit_char c ∷ digit_char d ∷ []) n
written_three b c d n some hb hc hd value =
    let vb = digit_value-digit_char b hb in
    let vc = digit_value-digit_char c hc in
    let vd = digit_value-digit_char d hd in
    record {
      spelled = omega arith;
      lower = (more_chars b hb (more_chars c hc (more_chars d hd no_chars))).all;
      no_leading_zero = λ none. absurd (some_char b some hb none);
    }

written_four : (a b c d n : ℕ) → 0 < a → a < 16 → b < 16 → c < 16 → d < 16 → n ≡ ((a * 16 + b) * 16 + c) * 16 + d
    → IsWrittenGroup (digit_char a ∷ digit_char b ∷ digit_char c ∷ digit_char d ∷ []) n
written_four a b c d n some ha hb hc hd value =
    let va = digit_value-digit_char a ha in
    let vb = digit_value-digit_char b hb in
    let vc = digit_value-digit_char c hc in
    let vd = digit_value-digit_char d hd in
    record {
      spelled = omega arith;
      lower = (more_chars a ha (more_chars b hb (more_chars c hc (more_chars d hd no_chars)))).all;
      no_leading_zero = λ none. absurd (some_char a some ha none);
    }

-- what is written keeps the rules
pub IsWrittenGroup-hex : (n : ℕ) → n < 2 ^ 16 → IsWrittenGroup (hex n) n
IsWrittenGroup-hex n fits =
    let a = n / 0x1000 in
    let b = n / 0x100 % 16 in
    let c = n / 0x10 % 16 in
    let d = n % 16 in
    elim (cases_lt n 0x1000) [
      | inr four ↦ rw (hex_four a b c d n (omega arith) (omega arith) (omega arith) (omega arith) (omega arith) (omega arith))
          (written_four a b c d n (omega arith) (omega arith) (omega arith) (omega arith) (omega arith) (omega arith))
      | inl h₃ ↦ elim (cases_lt n 0x100) [
        | inr three ↦ rw (hex_three b c d n (omega arith) (omega arith) (omega arith) (omega arith) (omega arith))
            (written_three b c d n (omega arith) (omega arith) (omega arith) (omega arith) (omega arith))
        | inl h₂ ↦ elim (cases_lt n 0x10) [
          | inr two ↦ rw (hex_two c d n (omega arith) (omega arith) (omega arith) (omega arith))
              (written_two c d n (omega arith) (omega arith) (omega arith) (omega arith))
          | inl h₁ ↦ rw (hex_one d n (omega arith) (omega arith)) (written_one d n (omega arith) (omega arith))
        ]
      ]
    ]

-- what keeps the rules is what is written
pub hex-IsWrittenGroup : (text : List ℕ) (n : ℕ) → IsWrittenGroup text n → text ≡ hex n
hex-IsWrittenGroup [] n h = absurd (omega (arith, h.spelled.0.0.0))
hex-IsWrittenGroup (d ∷ []) n h =
    let digits = h.spelled.0.0.1 in
    let value = sym h.spelled.0.1 in
    let back_d = digit_char-digit_value d digits.0 (h.lower 0 0 (omega arith)) in
    sym (hex_one (digit_value d) n digits.0 (omega (arith, value)) ∙ (λ i. back_d i ∷ []))
hex-IsWrittenGroup (c ∷ d ∷ []) n h =
    let digits = h.spelled.0.0.1 in
    let value = sym h.spelled.0.1 in
    let lower_c = h.lower 0 0 (omega arith) in
    let back_c = digit_char-digit_value c digits.0 lower_c in
    let back_d = digit_char-digit_value d digits.1.0 (h.lower 1 0 (omega arith)) in
    let some = some_value c digits.0 lower_c (λ e. let one = h.no_leading_zero e in omega arith) in
    sym (hex_two (digit_value c) (digit_value d) n some digits.0 digits.1.0 (omega (arith, value)) ∙ (λ i. back_c i ∷ back_d i ∷ []))
hex-IsWrittenGroup (b ∷ c ∷ d ∷ []) n h =
    let digits = h.spelled.0.0.1 in
    let value = sym h.spelled.0.1 in
    let lower_b = h.lower 0 0 (omega arith) in
    let back_b = digit_char-digit_value b digits.0 lower_b in
    let back_c = digit_char-digit_value c digits.1.0 (h.lower 1 0 (omega arith)) in
    let back_d = digit_char-digit_value d digits.1.1.0 (h.lower 2 0 (omega arith)) in
    let some = some_value b digits.0 lower_b (λ e. let one = h.no_leading_zero e in omega arith) in
    sym (hex_three (digit_value b) (digit_value c) (digit_value d) n some digits.0 digits.1.0 digits.1.1.0 (omega (arith, value))
    ∙ (λ i. back_b i ∷ back_c i ∷ back_d i ∷ []))
hex-IsWrittenGroup (a ∷ b ∷ c ∷ d ∷ []) n h =
    let digits = h.spelled.0.0.1 in
    let value = sym h.spelled.0.1 in
    let lower_a = h.lower 0 0 (omega arith) in
    let back_a = digit_char-digit_value a digits.0 lower_a in
    let back_b = digit_char-digit_value b digits.1.0 (h.lower 1 0 (omega arith)) in
    let back_c = digit_char-digit_value c digits.1.1.0 (h.lower 2 0 (omega arith)) in
    let back_d = digit_char-digit_value d digits.1.1.1.0 (h.lower 3 0 (omega arith)) in
    let some = some_value a digits.0 lower_a (λ e. let one = h.no_leading_zero e in omega arith) in
    sym (hex_four (digit_value a) (digit_value b) (digit_value c) (digit_value d) n some digits.0 digits.1.0 digits.1.1.0 digits.1.1.1.0 (omega (arith, value))
    ∙ (λ i. back_a i ∷ back_b i ∷ back_c i ∷ back_d i ∷ []))
hex-IsWrittenGroup (a ∷ b ∷ c ∷ d ∷ e ∷ more) n h = absurd (omega (arith, h.spelled.1))
