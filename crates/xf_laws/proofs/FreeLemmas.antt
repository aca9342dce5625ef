-- Fresh indices, acquire numbers and SPIs.
use Rattle.std.proofs.Common.{arith, ℕ, zero, suc, ◌≡◌, ◌+◌, ◌-◌, ◌*◌, ◌/◌, ◌<◌, ◌≤◌, min, inl, inr, Bool, true, false, not, ◌&&◌, List, [], ◌∷◌, length, map, refl, ap, sym, ◌∙◌, cond, eqb-true, None, Some, find, ◌==◌}
use Rattle.std.proofs.lemmas.Bool.{true≢false, or_cases, or_right, or_left, eq-eqb, and_parts, not-true, not-false, cases_lt}
use Rattle.std.proofs.lemmas.List.{length-map}
use Rattle.std.proofs.lemmas.Option.{same_Some}
use Rattle.std.specs.List.{list_any}
use Rattle.xf_types.specs.declared.network.Dir.{Dir}
use Rattle.xf_types.specs.declared.network.Dir.TheVariants.{In, Out, Fwd}
use Rattle.xf_types.specs.declared.policy.Policy.{Policy}
use Rattle.xf_types.specs.declared.state.AllocSpec.{AllocSpec}
use Rattle.xf_types.specs.declared.state.Sa.{Sa}
use Rattle.xf_types.specs.Machine.{Shown}
use Rattle.xf_types.specs.Counters.{IsFirstFree, upwards}
use Rattle.xf_types.specs.Same.{dir_number, same_addr, same_proto}
use Rattle.xf_types.specs.Replay.{is_among}
use Rattle.xf_types.specs.PolicyRules.{last_index, is_index_taken, free_number}
use Rattle.xf_types.specs.StateRules.{is_spi_taken, free_spi, IsLeastFree}
use Rattle.xf_types.specs.FlowRules.{last_seq, free_seq}
use Rattle.xf_types.specs.IsMachine.{IsShownPart}
use Rattle.xf_laws.specs.FreeLaws.{index_of, is_seq_taken}
use Rattle.xf_laws.proofs.CounterLemmas.{first_free-is, first_free-in, one_is_out}

-- what passes a test that asks for one value of f has that value
among-map : {X : Type 0} (test : X → Bool) (f : X → ℕ) (n : ℕ) → ((x : X) → test x ≡ true → f x ≡ n) → (xs : List X)
    → list_any test xs ≡ true → is_among (map f xs) n ≡ true
among-map test f n h [] = λ e. absurd (true≢false (sym e))
among-map test f n h (x ∷ xs) = λ e.
    elim (or_cases (test x) (list_any test xs) e) [
      | inl a ↦ or_left (f x == n) (is_among (map f xs) n) (eq-eqb (f x) n (h x a))
      | inr b ↦ or_right (f x == n) (is_among (map f xs) n) (among-map test f n h xs b)
    ]

-- a direction's number is a remainder by 8
pub dir_number-small : (dir : Dir) → dir_number dir < 8
dir_number-small In = omega arith
dir_number-small Out = omega arith
dir_number-small Fwd = omega arith

-- the number of an index
number_of-index : (index k d : ℕ) → d < 8 → index ≡ 8 * k + d → index / 8 ≡ k
number_of-index index k d small e = omega arith

-- the number of a fresh index is the first one whose index is free
pub free_number-first : (s : Shown) (dir : Dir) → IsShownPart s
    → IsFirstFree (λ k. is_index_taken s (index_of dir k)) last_index s.next_index (free_number s dir)
free_number-first s dir h =
    let numbers : List ℕ = map (λ (p : Policy). p.index / 8) s.policies in
    let long : length numbers ≡ length s.policies = length-map s.policies (λ (p : Policy). p.index / 8) in
    let room : length s.policies ≤ 4096 = omega (arith, h.room.policies, h.room.max_policies) in
    first_free-is (λ k. is_index_taken s (index_of dir k)) numbers last_index s.next_index (length s.policies)
    h.range.index_counter.0 h.range.index_counter.1 (omega arith) (omega arith)
    (λ k e.
    among-map (λ (p : Policy). p.index == index_of dir k) (λ (p : Policy). p.index / 8) k
    (λ p is. number_of-index p.index k (dir_number dir) (dir_number-small dir) (eqb-true p.index (index_of dir k) is))
    s.policies e)

-- a fresh index is free
pub index-free : (s : Shown) (dir : Dir) → IsShownPart s → is_index_taken s (index_of dir (free_number s dir)) ≡ false
index-free s dir h = (free_number-first s dir h).free

-- the number of a fresh index is in its range
pub free_number-in : (s : Shown) (dir : Dir) → IsShownPart s → (0 < free_number s dir) × (free_number s dir ≤ last_index)
free_number-in s dir h =
    first_free-in (λ k. is_index_taken s (8 * k + dir_number dir)) last_index s.next_index (length s.policies)
    h.range.index_counter.0 h.range.index_counter.1

-- a fresh acquire number is the first one that is free
pub free_seq-first : (s : Shown) → IsShownPart s → IsFirstFree (is_seq_taken s) last_seq s.next_seq (free_seq s)
free_seq-first s h =
    let numbers : List ℕ = map (λ (x : Sa). x.spec.seq) s.states in
    let long : length numbers ≡ length s.states = length-map s.states (λ (x : Sa). x.spec.seq) in
    let room : length s.states ≤ 8192 = omega (arith, h.room.states, h.room.max_states) in
    first_free-is (is_seq_taken s) numbers last_seq s.next_seq (length s.states)
    h.range.seq_counter.0 h.range.seq_counter.1 (omega arith) (omega arith)
    (λ seq e.
    among-map (λ (x : Sa). x.spec.seq == seq) (λ (x : Sa). x.spec.seq) seq (λ x is. eqb-true x.spec.seq seq is) s.states e)

-- a fresh acquire number is free
pub seq-free : (s : Shown) → IsShownPart s → is_seq_taken s (free_seq s) ≡ false
seq-free s h = (free_seq-first s h).free

-- a fresh acquire number is in its range
pub free_seq-in : (s : Shown) → IsShownPart s → (0 < free_seq s) × (free_seq s ≤ last_seq)
free_seq-in s h = first_free-in (is_seq_taken s) last_seq s.next_seq (length s.states) h.range.seq_counter.0 h.range.seq_counter.1

-- what is found among the numbers upwards from n
record FoundAbove (test : ℕ → Bool) (n count k : ℕ) : Type 0 where
  low : n ≤ k
  high : k < n + count
  passes : test k ≡ true
  before : (j : ℕ) → n ≤ j → j < k → test j ≡ false

-- the first of them that passes
found_above : (test : ℕ → Bool) (n count k : ℕ) → find test (upwards n count) ≡ Some k → FoundAbove test n count k
found_above test n zero k = λ e. absurd cc
found_above test n (suc count) k =
    elim (test n)
    as (λ b. test n ≡ b → cond b (Some n) (find test (upwards (n + 1) count)) ≡ Some k → FoundAbove test n (suc count) k) [
      | true ↦ λ is e.
          let here : n ≡ k = same_Some n k e in
          record {
            low = omega arith;
            high = omega arith;
            passes = ap test (sym here) ∙ is;
            before = λ j le lt. absurd (omega arith);
          }
      | false ↦ λ is e.
          let h = found_above test (n + 1) count k e in
          record {
            low = omega (arith, h.low);
            high = omega (arith, h.high);
            passes = h.passes;
            before = λ j le lt. from_next j n le (λ l. h.before j l lt) (λ s. ap test s ∙ is);
          }
    ] refl
  where
    from_next : (j n : ℕ) → n ≤ j → (n + 1 ≤ j → test j ≡ false) → (j ≡ n → test j ≡ false) → test j ≡ false
    from_next j n le later same =
        elim (cases_lt n j) [ inl lt ↦ later (omega arith) | inr ge ↦ same (omega arith) ]

-- where nothing is found, nothing passes
none_above : (test : ℕ → Bool) (n count : ℕ) → find test (upwards n count) ≡ None → (j : ℕ) → n ≤ j → j < n + count
    → test j ≡ false
none_above test n zero = λ e j le lt. absurd (omega arith)
none_above test n (suc count) =
    elim (test n)
    as (λ b. test n ≡ b → cond b (Some n) (find test (upwards (n + 1) count)) ≡ None → (j : ℕ) → n ≤ j → j < n + suc count
    → test j ≡ false) [
      | true ↦ λ is e. absurd cc
      | false ↦ λ is e j le lt.
          elim (cases_lt n j) [
            | inl less ↦ none_above test (n + 1) count e j (omega arith) (omega arith)
            | inr ge ↦ (let s : j ≡ n = omega arith in ap test s ∙ is)
          ]
    ] refl

-- an SPI that is found is the least free one of the range
pub free_spi-least : (spec : AllocSpec) (states : List Sa) (spi : ℕ) → free_spi spec states ≡ Some spi
    → IsLeastFree spec states spi
free_spi-least spec states spi e =
    let h = found_above (λ k. not (is_spi_taken spec states k)) spec.min (min (spec.max + 1 - spec.min) (length states + 1)) spi e in
    record {
      in_range = (h.low, omega (arith, h.high));
      free = not-true (is_spi_taken spec states spi) h.passes;
      below = λ other le lt. not-false (is_spi_taken spec states other) (h.before other le lt);
    }

-- the SPI of a state that takes it
spi-among : (spec : AllocSpec) (states : List Sa) (spi : ℕ) → is_spi_taken spec states spi ≡ true
    → is_among (map (λ (x : Sa). x.spec.spi) states) spi ≡ true
spi-among spec states spi e =
    among-map (λ (x : Sa). same_addr x.spec.dst spec.dst && same_proto x.spec.proto spec.proto && (x.spec.spi == spi))
    (λ (x : Sa). x.spec.spi) spi
    (λ x is.
    eqb-true x.spec.spi spi
    (and_parts (same_addr x.spec.dst spec.dst && same_proto x.spec.proto spec.proto) (x.spec.spi == spi) is).1)
    states e

-- where none is found none is free: more were tried than there are states, or all
pub no_spi-free : (spec : AllocSpec) (states : List Sa) → free_spi spec states ≡ None → (spi : ℕ) → spec.min ≤ spi → spi ≤ spec.max
    → is_spi_taken spec states spi ≡ true
no_spi-free spec states e spi low high =
    let count : ℕ = min (spec.max + 1 - spec.min) (length states + 1) in
    let numbers : List ℕ = map (λ (x : Sa). x.spec.spi) states in
    let long : length numbers ≡ length states = length-map states (λ (x : Sa). x.spec.spi) in
    let taken : (k : ℕ) → spec.min ≤ k → k < spec.min + count → is_spi_taken spec states k ≡ true =
    λ k le lt. not-false (is_spi_taken spec states k) (none_above (λ j. not (is_spi_taken spec states j)) spec.min count e k le lt) in
    elim (cases_lt spi (spec.min + count)) [
      | inl less ↦ taken spi low less
      | inr far ↦
          absurd
          (one_is_out numbers (λ i. spec.min + i) (λ i j lt within same. omega arith)
          (λ i within. spi-among spec states (spec.min + i) (taken (spec.min + i) (omega arith) (omega arith))))
    ]
