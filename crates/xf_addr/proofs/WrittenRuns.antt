-- Groups are written in one way.
use Rattle.std.proofs.Common.{◌≡◌, ℕ, ◌≤◌, List, refl, sym, ◌∙◌, subst, inl, inr, arith, lt-ltb, le-ltb}
use Rattle.std.proofs.lemmas.Bool.{cases_lt}
use Rattle.std.proofs.NetLemmas.Texts.{IsZeroRun-longest_zero_run, longest_zero_run_first}
use Rattle.std.specs.Net.Text.{longest_zero_run, hex_groups_text}
use Rattle.xf_addr.specs.Written.{IsZeroRun, IsWritten, elided_text}

-- what is written keeps the rules
pub IsWritten-hex_groups_text : (text groups : List ℕ) → text ≡ hex_groups_text groups → IsWritten text groups
unfolding hex_groups_text
IsWritten-hex_groups_text text groups e =
    let start = (longest_zero_run groups).0 in
    let len = (longest_zero_run groups).1 in
    elim (cases_lt 1 len) [
      | inl two ↦ inr (
        start,
        len,
        record {
          zeros = IsZeroRun-longest_zero_run groups;
          two = omega arith;
          longest = λ other_start other_len zeros. (longest_zero_run_first groups other_start other_len zeros).0;
          first = λ other_start zeros. (longest_zero_run_first groups other_start len zeros).1 refl;
        },
        rw (lt-ltb 1 len two) at e,
      )
      | inr none ↦ inl (
        λ other_start other_len zeros. omega (arith, (longest_zero_run_first groups other_start other_len zeros).0),
        rw (le-ltb 1 len none) at e,
      )
    ]

-- what keeps the rules is what is written
pub hex_groups_text-IsWritten : (text groups : List ℕ) → IsWritten text groups → text ≡ hex_groups_text groups
unfolding hex_groups_text
hex_groups_text-IsWritten text groups (inl (none, e)) =
    let len = (longest_zero_run groups).1 in
    let short : len ≤ 1 = none _ len (IsZeroRun-longest_zero_run groups) in
    rw (le-ltb 1 len short) e
hex_groups_text-IsWritten text groups (inr (start, len, h, e)) =
    let own_start = (longest_zero_run groups).0 in
    let own_len = (longest_zero_run groups).1 in
    let own = IsZeroRun-longest_zero_run groups in
    let (most, first) = longest_zero_run_first groups start len h.zeros in
    let same_len : len ≡ own_len = omega (arith, h.longest own_start own_len own) in
    let before : start ≤ own_start = h.first own_start (subst (IsZeroRun groups own_start) (sym same_len) own) in
    let same_start : start ≡ own_start = omega (arith, first same_len) in
    rw (lt-ltb 1 own_len (omega (arith, h.two))) (e ∙ (λ i. elided_text groups (same_start i) (same_len i)))
