-- A receipt gives at most one number more, to a policy, to a state and to a change.
use Rattle.std.proofs.Common.{◌≡◌, ℕ, ◌+◌, ◌≤◌, Bool, true, false, List, [], ◌∷◌, All, length, subst, arith}
use Rattle.std.specs.Prelude.{if◌then◌else◌, ◌==◌}
use Rattle.std.specs.List.{list_any}
use Rattle.std.proofs.lemmas.List.Elements.{All-nil, All-cons, All-head, All-tail, All-weaker}
use Rattle.xf_types.specs.declared.state.Sa.{Sa}
use Rattle.xf_types.specs.declared.call.Receipt.{Receipt}
use Rattle.xf_types.specs.ChangeIds.{ChangeIds, ids_after, bucket_ids_after, changes_policies, states_changed}
use Rattle.xf_types.specs.Machine.{Machine, Shown}
use Rattle.xf_types.specs.Moves.{is_moving, moves_of}
use Rattle.xf_types.specs.Steps.{step}
use Rattle.xf_types.specs.History.{Moment, beginning, next_moment, moment_of, machine_of, machine_next, is_exception}
use Rattle.xf_laws.proofs.LaterLemmas.{step-later}
use Rattle.xf_invariant.specs.Meaning.{Told, told_after, told_after_moves}

-- at most one number more
pub record IsLittle (n : ℕ) (s t : Shown) : Type 0 where
  pub numbers : t.next_number ≤ s.next_number + n
  pub sids : t.next_sid ≤ s.next_sid + n

one_little : (m : Machine) (r : Receipt) → IsLittle 1 m.shown (machine_next m r).shown
one_little m r = at (is_exception r.reply)
  where
    at : (b : Bool) → IsLittle 1 m.shown (if b then m else (step m r.call).machine).shown
    at true = record { numbers = omega arith; sids = omega arith }
    at false = let l = step-later m r.call in record { numbers = l.number_next; sids = l.sid_next }

moments_little : (t : Moment) (rs : List Receipt) → IsLittle (length rs) t.machine.shown (moment_of t rs).machine.shown
moments_little t [] = record { numbers = omega arith; sids = omega arith }
moments_little t (r ∷ rs) =
    let a : IsLittle 1 t.machine.shown (machine_next t.machine r).shown = one_little t.machine r in
    let b : IsLittle (length rs) (machine_next t.machine r).shown (moment_of (next_moment t r) rs).machine.shown = moments_little (next_moment t r) rs in
    record { numbers = omega (arith, a.numbers, b.numbers); sids = omega (arith, a.sids, b.sids) }

pub history_little : (m : Machine) (history : List Receipt) → IsLittle (length history) m.shown (machine_of m history).shown
history_little m history = moments_little (beginning m) history

-- no id is greater
pub record AreIdsWithin (most : ℕ) (ids : ChangeIds) : Type 0 where
  pub of_policies : ids.of_policies ≤ most
  pub of_buckets : All (λ id. id ≤ most) ids.of_buckets

one_at_most : (b : Bool) → (if b then 1 else 0) + 0 ≤ 1
one_at_most true = omega arith
one_at_most false = omega arith

module _ (bucket_of : Sa → ℕ) where
  buckets_after : (most : ℕ) (s : Shown) (r : Receipt) (bucket : ℕ) (ids : List ℕ) → All (λ id. id ≤ most) ids
      → All (λ id. id ≤ most + 1) (bucket_ids_after bucket_of s (r ∷ []) bucket ids)
  buckets_after most s r bucket [] all = All-nil (λ (id : ℕ). id ≤ most + 1)
  buckets_after most s r bucket (id ∷ ids) all =
      let a : id ≤ most = All-head (λ (x : ℕ). x ≤ most) id ids all in
      let b : (if list_any (λ x. bucket_of x == bucket) (states_changed s r) then 1 else 0) + 0 ≤ 1 = one_at_most (list_any (λ x. bucket_of x == bucket) (states_changed s r)) in
      All-cons (λ (x : ℕ). x ≤ most + 1) _ (bucket_ids_after bucket_of s (r ∷ []) (bucket + 1) ids) (omega (arith, a, b))
      (buckets_after most s r (bucket + 1) ids (All-tail (λ (x : ℕ). x ≤ most) id ids all))

  ids_after_one : (most : ℕ) (s : Shown) (ids : ChangeIds) (r : Receipt) → AreIdsWithin most ids → AreIdsWithin (most + 1) (ids_after bucket_of s ids (r ∷ []))
  ids_after_one most s ids r w = record {
    of_policies = let b : (if changes_policies s r then 1 else 0) + 0 ≤ 1 = one_at_most (changes_policies s r) in omega (arith, b, w.of_policies);
    of_buckets = buckets_after most s r 0 ids.of_buckets w.of_buckets;
  }

  pub ids_after_all : (most : ℕ) (t : Told) (moves : List Receipt) → AreIdsWithin most t.ids → AreIdsWithin (most + length moves) (told_after_moves bucket_of t moves).ids
  ids_after_all most t [] w = let e : most ≡ most + length (let none : List Receipt = [] in none) = omega arith in subst (λ (n : ℕ). AreIdsWithin n t.ids) e w
  ids_after_all most t (r ∷ rs) w =
      let e : most + 1 + length rs ≡ most + length (r ∷ rs) = omega arith in
      subst (λ (n : ℕ). AreIdsWithin n (told_after_moves bucket_of (told_after bucket_of t r) rs).ids) e
      (ids_after_all (most + 1) (told_after bucket_of t r) rs (ids_after_one most t.shown t.ids r w))

pub ids_raised : (a b : ℕ) (ids : ChangeIds) → a ≤ b → AreIdsWithin a ids → AreIdsWithin b ids
ids_raised a b ids le w = record {
  of_policies = omega (arith, le, w.of_policies);
  of_buckets = All-weaker (λ (x : ℕ). x ≤ a) (λ (x : ℕ). x ≤ b) (λ x h. omega (arith, le, h)) ids.of_buckets w.of_buckets;
}

few_step : (b : Bool) (r : Receipt) (rs : List Receipt) → length (moves_of rs) ≤ length rs → length (if b then r ∷ moves_of rs else moves_of rs) ≤ length (r ∷ rs)
few_step true r rs rest = omega (arith, rest)
few_step false r rs rest = omega (arith, rest)

pub few_moves : (history : List Receipt) → length (moves_of history) ≤ length history
few_moves [] = omega arith
few_moves (r ∷ rs) = few_step (is_moving r.reply) r rs (few_moves rs)
