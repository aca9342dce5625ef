-- The laws of all numbers that were ever accepted.
use Rattle.std.proofs.Common.{arith, ◌≡◌, ◌≢◌, ◌↔◌, ℕ, zero, suc, ◌-◌, ◌<◌, ◌≤◌, List, [], ◌∷◌, Bool, true, false, ◌||◌, ◌&&◌, cond, refl, ap, ◌∙◌, sym, subst, inl, inr}
use Rattle.std.specs.Prelude.{◌==◌, nat_le, IsTrue, All, AllPairs}
use Rattle.std.proofs.lemmas.Bool.{ne_eqb, eqb-false, or_cases, or_parts, or_right, or_left, or_from, both_ways, false_from_ne_true}
use Rattle.std.proofs.lemmas.Bool.Decides.{leb_tells}
use Rattle.std.proofs.lemmas.List.Folds.{list_any-append}
use Rattle.std.proofs.lemmas.List.Elements.{All-nil, All-cons}
use Rattle.std.proofs.lemmas.List.Kept.{AllPairs-cons}
use Rattle.xf_replay.specs.declared.window.Check.TheVariants.{Fresh, Zero, Old, Seen}
use Rattle.xf_replay.specs.Replay.{is_among, counts_as_accepted, top, replay_check, downwards}
use Rattle.xf_replay.specs.History.{ever_accepted, accepted_after, AreFresh}
use Rattle.xf_replay.specs.Laws.{AreAlikeLists}
use Rattle.xf_replay.proofs.Runs.{is_among-downwards}
use Rattle.xf_replay.proofs.Sets.{IsTop-list}
use Rattle.xf_replay.proofs.AlikeLemmas.{top-start, top-alike, replay_check-alike, accepted_to-normal, accepted_with-alike, shows-alike}

-- what a window shows after some numbers were accepted is alike to all of them
pub accepted_after-alike : (window start : ℕ) (numbers : List ℕ) → AreAlikeLists window (accepted_after window start numbers) (ever_accepted start numbers)
accepted_after-alike window start [] =
    let P : List ℕ → Type 0 = λ xs. AreAlikeLists window xs (downwards start start) in
    subst P (sym (accepted_to-normal window start)) (shows-alike window (downwards start start))
accepted_after-alike window start (n ∷ earlier) =
    let P : List ℕ → Type 0 = λ xs. AreAlikeLists window xs (n ∷ ever_accepted start earlier) in
    let e = accepted_with-alike window n (accepted_after window start earlier) (ever_accepted start earlier) (accepted_after-alike window start earlier) in
    subst P (sym e) (shows-alike window (n ∷ ever_accepted start earlier))

-- the top after some numbers were accepted is that of all of them
pub top-accepted_after : (window start : ℕ) (numbers : List ℕ) → top (accepted_after window start numbers) ≡ top (ever_accepted start numbers)
top-accepted_after window start numbers =
    top-alike window (accepted_after window start numbers) (ever_accepted start numbers) (accepted_after-alike window start numbers)

-- the answer after some numbers were accepted is that of all of them
pub replay_check-accepted_after : (window start n : ℕ) (numbers : List ℕ)
    → replay_check window (accepted_after window start numbers) n ≡ replay_check window (ever_accepted start numbers) n
replay_check-accepted_after window start n numbers =
    replay_check-alike window n (accepted_after window start numbers) (ever_accepted start numbers) (accepted_after-alike window start numbers)

-- 0 is in no run
is_among-zero : (t c : ℕ) → is_among (downwards t c) 0 ≡ false
is_among-zero t zero = refl
is_among-zero zero (suc c) = refl
is_among-zero (suc t) (suc c) =
    or_from (suc t == 0) (is_among (downwards t c) 0) (ne_eqb (suc t) 0 (λ e. omega arith)) (is_among-zero t c)

-- a number of the whole run lies in 1 to start
from_start : (start n : ℕ) → is_among (downwards start start) n ≡ true → (1 ≤ n) × (n ≤ start)
from_start start n h =
    let low : n ≢ 0 = λ e. both_ways _ (ap (is_among (downwards start start)) e ∙ is_among-zero start start) h in
    elim (leb_tells n start) [
      | inl le ↦ (omega arith, le.1)
      | inr gt ↦
          (let past : top (downwards start start) < n = omega (arith, top-start start) in
          absurd (both_ways _ ((IsTop-list (downwards start start)).above n past) h))
    ]

-- the whole list has the given numbers and those of 1 to start
is_among-ever : (start n : ℕ) (numbers : List ℕ)
    → is_among (ever_accepted start numbers) n ≡ (is_among numbers n || is_among (downwards start start) n)
is_among-ever start n numbers = list_any-append (λ m. m == n) numbers (downwards start start)

-- a number of the whole list counts as accepted
counts_from_ever : (start n : ℕ) (numbers : List ℕ) → IsTrue (is_among (ever_accepted start numbers) n) → counts_as_accepted start numbers n
counts_from_ever start n numbers h =
    elim (or_cases (is_among numbers n) (is_among (downwards start start) n) (sym (is_among-ever start n numbers) ∙ h))
    [ inl given ↦ inr given | inr first ↦ inl (from_start start n first) ]

-- a number that counts as accepted is in the whole list
pub ever_from_counts : (start n : ℕ) (numbers : List ℕ) → counts_as_accepted start numbers n → IsTrue (is_among (ever_accepted start numbers) n)
ever_from_counts start n numbers h =
    is_among-ever start n numbers
    ∙ elim h [
      | inl first ↦ or_right (is_among numbers n) _ (is_among-downwards start start n first.0 first.1 (omega arith))
      | inr given ↦ or_left _ (is_among (downwards start start) n) given
    ]

-- the numbers that count as accepted are those of the whole list
pub all_accepted : (start n : ℕ) (numbers : List ℕ) → IsTrue (is_among (ever_accepted start numbers) n) ↔ counts_as_accepted start numbers n
all_accepted start n numbers = (counts_from_ever start n numbers, ever_from_counts start n numbers)

-- a number that was accepted is old or seen
old_or_seen : (old : Bool) → cond old Old (cond true Seen Fresh) ≢ Fresh
old_or_seen true h = cc
old_or_seen false h = cc

-- a number of the list is not fresh
pub seen : (window n : ℕ) (numbers : List ℕ) → 0 < window → 0 < n → is_among numbers n ≡ true → replay_check window numbers n ≢ Fresh
seen window n numbers w pos among =
    rw (ne_eqb window 0 (λ e. omega arith), ne_eqb n 0 (λ e. omega arith), among)
    (old_or_seen (nat_le n (top numbers) && nat_le window (top numbers - n)))

-- 0 is never fresh
pub zero_never : (window start : ℕ) (numbers : List ℕ) → 0 < window → replay_check window (accepted_after window start numbers) 0 ≡ Zero
zero_never window start numbers w = rw (ne_eqb window 0 (λ e. omega arith)) refl

-- no number is fresh once it counts as accepted
pub never_again : (window start n : ℕ) (numbers : List ℕ) → 0 < window → 0 < n → counts_as_accepted start numbers n
    → replay_check window (accepted_after window start numbers) n ≢ Fresh
never_again window start n numbers w pos counts fresh =
    seen window n (ever_accepted start numbers) w pos (ever_from_counts start n numbers counts)
    (sym (replay_check-accepted_after window start n numbers) ∙ fresh)

-- a fresh number is above 0
fresh_is_positive : (window start n : ℕ) (numbers : List ℕ) → 0 < window → replay_check window (accepted_after window start numbers) n ≡ Fresh → 0 < n
fresh_is_positive window start n numbers w fresh =
    elim (leb_tells 1 n) [
      | inl some ↦ some.1
      | inr none ↦
          (let e : n ≡ 0 = omega arith in
          let zero_fresh : Zero ≡ Fresh = sym (zero_never window start numbers w) ∙ ap (replay_check window (accepted_after window start numbers)) (sym e) ∙ fresh in
          absurd (cc))
    ]

-- a fresh number lies after the start, and was not accepted before
pub fresh_is_new : (window start n : ℕ) (numbers : List ℕ) → 0 < window → replay_check window (accepted_after window start numbers) n ≡ Fresh
    → (start < n) × (is_among numbers n ≡ false)
fresh_is_new window start n numbers w fresh =
    let pos = fresh_is_positive window start n numbers w fresh in
    let none = false_from_ne_true (is_among (ever_accepted start numbers) n) (λ among.
    seen window n (ever_accepted start numbers) w pos among (sym (replay_check-accepted_after window start n numbers) ∙ fresh)) in
    let parts = or_parts (is_among numbers n) (is_among (downwards start start) n) (sym (is_among-ever start n numbers) ∙ none) in
    elim (leb_tells n start) [
      | inl le ↦
          (let first = is_among-downwards start start n pos le.1 (omega arith) in
          absurd (both_ways _ parts.1 first))
      | inr gt ↦ (gt.1, parts.0)
    ]

-- a number that is not in a list differs from each in it
differs : (n : ℕ) (xs : List ℕ) → is_among xs n ≡ false → All (λ m. n ≢ m) xs
differs n [] h = All-nil (λ m. n ≢ m)
differs n (x ∷ xs) h =
    let parts = or_parts (x == n) (is_among xs n) h in
    let head : n ≢ x = λ e. eqb-false x n parts.0 (sym e) in
    All-cons (λ m. n ≢ m) x xs head (differs n xs parts.1)

-- what was fresh lies after the start
pub after_start : (window start : ℕ) (numbers : List ℕ) → 0 < window → AreFresh window start numbers → All (λ n. start < n) numbers
after_start window start [] w h = All-nil (λ n. start < n)
after_start window start (n ∷ earlier) w h =
    All-cons (λ n. start < n) n earlier (fresh_is_new window start n earlier w h.0).0 (after_start window start earlier w h.1)

-- of what was fresh no two are equal
pub never_twice : (window start : ℕ) (numbers : List ℕ) → 0 < window → AreFresh window start numbers → AllPairs (λ m n. m ≢ n) numbers
never_twice window start [] w h = λ i j d l m. absurd (omega arith)
never_twice window start (n ∷ earlier) w h =
    AllPairs-cons (λ m n. m ≢ n) n earlier (differs n earlier (fresh_is_new window start n earlier w h.0).1)
    (never_twice window start earlier w h.1)
