-- What equal change ids say of two moments of a history.
use Rattle.std.proofs.Common.{arith, ℕ, ◌≡◌, ◌+◌, Bool, true, false, ◌==◌, List, [], ◌∷◌, ◌++◌, filter, refl, ap, sym, ◌∙◌, cond, inl, inr, ◌⊎◌}
use Rattle.std.proofs.lemmas.Bool.{both_ways, cases_Bool, cond-true, cond-false}
use Rattle.std.proofs.lemmas.List.Elements.{filter-append}
use Rattle.std.specs.List.{list_any}
use Rattle.xf_types.specs.declared.policy.Policy.{Policy}
use Rattle.xf_types.specs.declared.state.Sa.{Sa}
use Rattle.xf_types.specs.declared.call.Receipt.{Receipt}
use Rattle.xf_types.specs.Machine.{Machine, Shown}
use Rattle.xf_types.specs.Moves.{is_moving, after_move, after_moves, moves_of}
use Rattle.xf_types.specs.History.{Moment, IsLegalFrom, IsLegalHistory, beginning, machine_next, next_moment, moment_of, machine_of}
use Rattle.xf_types.specs.ChangeIds.{changes_policies, states_changed, count_moves, policy_id, bucket_id}
use Rattle.xf_types.specs.IsMachine.{IsMachine}
use Rattle.xf_laws.specs.ChangeLaws.{IsReceiptOf, HaveSamePolicies}
use Rattle.xf_laws.specs.IdLaws.{IsBucketOf}
use Rattle.xf_laws.proofs.MachineLemmas.{next-kept, moments-kept}
use Rattle.xf_laws.proofs.FoldLemmas.{Outside, Inside, ruled, one-folded, folded-from}
use Rattle.xf_laws.proofs.ChangeLemmas.{move-policies, move-states}

-- a legal list of receipts, up to a moment and from there
record IsLegalPast (t : Moment) (earlier later : List Receipt) : Type 0 where
  before : IsLegalFrom t earlier
  after : IsLegalFrom (moment_of t earlier) later
  moments : moment_of t (earlier ++ later) ≡ moment_of (moment_of t earlier) later

-- each legal list is so
legal-past : (t : Moment) (earlier later : List Receipt) → IsLegalFrom t (earlier ++ later) → IsLegalPast t earlier later
legal-past t [] later legal = record { before = tt; after = legal; moments = refl }
legal-past t (r ∷ rs) later legal =
    let rest = legal-past (next_moment t r) rs later legal.1 in
    record { before = (legal.0, rest.before); after = rest.after; moments = rest.moments }

-- the moves of two lists are counted one after the other
count-append : (changes : Shown → Receipt → Bool) (s : Shown) (a b : List Receipt)
    → count_moves changes s (a ++ b) ≡ count_moves changes s a + count_moves changes (after_moves s a) b
count-append changes s [] b = (let n : ℕ = count_moves changes s b in let less : n ≡ 0 + n = omega arith in less)
count-append changes s (r ∷ rs) b =
    let t : Shown = after_move s r.call r.reply in
    let first : ℕ = cond (changes s r) 1 0 in
    let rest : count_moves changes t (rs ++ b) ≡ count_moves changes t rs + count_moves changes (after_moves t rs) b =
    count-append changes t rs b in
    ap (λ (n : ℕ). first + n) rest ∙ regroup first (count_moves changes t rs) (count_moves changes (after_moves t rs) b)
  where
    regroup : (x y z : ℕ) → x + (y + z) ≡ x + y + z
    regroup x y z = omega arith

-- a count that adds nothing is 0
adds-nothing : (whole a b : ℕ) → whole ≡ a + b → whole ≡ a → b ≡ 0
adds-nothing whole a b sums same = omega arith

-- what a count asks of the first move, and of those after it
record IsUncounted (changes : Shown → Receipt → Bool) (s : Shown) (r : Receipt) (moves : List Receipt) (b : Bool) : Type 0 where
  first : b ≡ true → changes s r ≡ false
  rest : count_moves changes (cond b (after_move s r.call r.reply) s) moves ≡ 0

-- where none is counted
none-counted : (changes : Shown → Receipt → Bool) (s : Shown) (r : Receipt) (moves : List Receipt) (b : Bool)
    → count_moves changes s (cond b (r ∷ moves) moves) ≡ 0 → IsUncounted changes s r moves b
none-counted changes s r moves true e =
    record { first = λ moving. none (changes s r) (count_moves changes (after_move s r.call r.reply) moves) e; rest = omega arith }
  where
    none : (c : Bool) (n : ℕ) → cond c 1 0 + n ≡ 0 → c ≡ false
    none true n e = absurd (omega arith)
    none false n e = refl
none-counted changes s r moves false e = record { first = λ moving. absurd cc; rest = e }

-- what a count stands for: where a move isn't counted, this part of what is shown is as it was
record StandsFor {X : Type 0} (changes : Shown → Receipt → Bool) (part : Shown → X) : Type 0 where
  keeps : (m : Machine) (r : Receipt) → IsReceiptOf m r → changes m.shown r ≡ false
      → part (after_move m.shown r.call r.reply) ≡ part m.shown

-- a receipt that isn't counted leaves it
receipt-leaves : {X : Type 0} (changes : Shown → Receipt → Bool) (part : Shown → X) → StandsFor changes part → (t : Moment) (r : Receipt)
    → IsMachine t.machine → Outside r.reply ⊎ Inside t r r.reply → (is_moving r.reply ≡ true → changes t.machine.shown r ≡ false)
    → part (machine_next t.machine r).shown ≡ part t.machine.shown
receipt-leaves changes part stands t r h how uncounted =
    let s = t.machine.shown in
    ap part (sym (one-folded t r h how))
    ∙ elim (cases_Bool (is_moving r.reply)) [
      | inr still ↦ ap part (cond-false (is_moving r.reply) (after_move s r.call r.reply) s still)
      | inl moving ↦
          ap part (cond-true (is_moving r.reply) (after_move s r.call r.reply) s moving)
          ∙ elim how [
            | inl x ↦ absurd (both_ways (is_moving r.reply) x.still moving)
            | inr x ↦ stands.keeps t.machine r (record { machine = h; reply = x.own }) (uncounted moving)
          ]
    ]

-- so do those of which none is counted
uncounted-leave : {X : Type 0} (changes : Shown → Receipt → Bool) (part : Shown → X) → StandsFor changes part → (t : Moment)
    (history : List Receipt) → IsMachine t.machine → IsLegalFrom t history → count_moves changes t.machine.shown (moves_of history) ≡ 0
    → part (moment_of t history).machine.shown ≡ part t.machine.shown
uncounted-leave changes part stands t [] h legal none = refl
uncounted-leave changes part stands t (r ∷ rs) h legal none =
    let how = ruled t r r.reply legal.0 in
    let un = none-counted changes t.machine.shown r (moves_of rs) (is_moving r.reply) none in
    uncounted-leave changes part stands (next_moment t r) rs (next-kept t.machine r h) legal.1
    (ap (λ (s : Shown). count_moves changes s (moves_of rs)) (sym (one-folded t r h how)) ∙ un.rest)
    ∙ receipt-leaves changes part stands t r h how un.first

-- equal counts at two moments of a legal history
equal-counts : {X : Type 0} (changes : Shown → Receipt → Bool) (part : Shown → X) → StandsFor changes part → (m : Machine)
    (earlier later : List Receipt) → IsMachine m → IsLegalHistory m (earlier ++ later)
    → count_moves changes m.shown (moves_of (earlier ++ later)) ≡ count_moves changes m.shown (moves_of earlier)
    → part (machine_of m (earlier ++ later)).shown ≡ part (machine_of m earlier).shown
equal-counts changes part stands m earlier later h legal same =
    let t = beginning m in
    let u = moment_of t earlier in
    let past = legal-past t earlier later legal.replies in
    let folded : after_moves m.shown (moves_of earlier) ≡ u.machine.shown = folded-from t earlier h past.before in
    let sums : count_moves changes m.shown (moves_of (earlier ++ later))
    ≡ count_moves changes m.shown (moves_of earlier) + count_moves changes u.machine.shown (moves_of later) =
    ap (count_moves changes m.shown) (filter-append (λ (r : Receipt). is_moving r.reply) earlier later)
    ∙ count-append changes m.shown (moves_of earlier) (moves_of later)
    ∙ ap (λ (s : Shown). count_moves changes m.shown (moves_of earlier) + count_moves changes s (moves_of later)) folded in
    ap (λ (v : Moment). part v.machine.shown) past.moments
    ∙ uncounted-leave changes part stands u later (moments-kept t earlier h) past.after
    (adds-nothing (count_moves changes m.shown (moves_of (earlier ++ later))) (count_moves changes m.shown (moves_of earlier))
    (count_moves changes u.machine.shown (moves_of later)) sums same)

-- the policies and the thresholds
policy_part : Shown → List Policy × (ℕ × ℕ) × (ℕ × ℕ)
policy_part s = (s.policies, s.hthresh4, s.hthresh6)

-- are what the policy id stands for
policies-stand : StandsFor changes_policies policy_part
unfolding policy_part
policies-stand =
    record {
      keeps = λ m r h unchanged.
          let same = move-policies m r h unchanged in
          λ i. (same.policies i, same.hthresh4 i, same.hthresh6 i);
    }

-- equal policy ids
pub same-policy_id : (m : Machine) (earlier later : List Receipt) → IsMachine m → IsLegalHistory m (earlier ++ later)
    → policy_id m.shown (moves_of (earlier ++ later)) ≡ policy_id m.shown (moves_of earlier)
    → HaveSamePolicies (machine_of m earlier).shown (machine_of m (earlier ++ later)).shown
unfolding policy_part
same-policy_id m earlier later h legal same =
    let e = equal-counts changes_policies policy_part policies-stand m earlier later h legal same in
    record { policies = ap (λ x. x.0) e; hthresh4 = ap (λ x. x.1) e; hthresh6 = ap (λ x. x.2) e }

-- the records of a bucket are what its id stands for
bucket-stands : (bucket_of : Sa → ℕ) (bucket : ℕ) → IsBucketOf bucket_of
    → StandsFor (λ s r. list_any (λ x. bucket_of x == bucket) (states_changed s r)) (λ s. filter (λ x. bucket_of x == bucket) s.states)
bucket-stands bucket_of bucket of =
    record {
      keeps = λ m r h unchanged.
          move-states m r (λ x. bucket_of x == bucket) h
          (λ x y sid dst reqid. ap (λ (n : ℕ). n == bucket) (of x y dst reqid)) unchanged;
    }

-- equal ids of a bucket
pub same-bucket_id : (m : Machine) (earlier later : List Receipt) (bucket_of : Sa → ℕ) (bucket : ℕ) → IsMachine m
    → IsLegalHistory m (earlier ++ later) → IsBucketOf bucket_of
    → bucket_id bucket_of bucket m.shown (moves_of (earlier ++ later)) ≡ bucket_id bucket_of bucket m.shown (moves_of earlier)
    → filter (λ x. bucket_of x == bucket) (machine_of m (earlier ++ later)).shown.states
    ≡ filter (λ x. bucket_of x == bucket) (machine_of m earlier).shown.states
same-bucket_id m earlier later bucket_of bucket h legal of same =
    equal-counts (λ s r. list_any (λ x. bucket_of x == bucket) (states_changed s r)) (λ s. filter (λ x. bucket_of x == bucket) s.states)
    (bucket-stands bucket_of bucket of) m earlier later h legal same
