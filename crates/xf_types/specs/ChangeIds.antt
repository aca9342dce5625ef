-- How often what a lookup reads was changed: one count for the policies and one for each bucket of states. They stand beside
-- the machine and not in it, since no reply shows them. A list of moves begins at a shown part, and each move finds the shown
-- part that the moves before it left. An act counts, also where it writes what was there.
use Rattle.std.specs.Prelude.{ℕ, Bool, true, false, not, ◌&&◌, ◌||◌, ◌==◌, ◌+◌, List, [], ◌∷◌, ◌++◌, filter, if◌then◌else◌}
use Rattle.std.specs.List.{list_any}
use Rattle.xf_types.specs.declared.policy.Policy.{Policy}
use Rattle.xf_types.specs.declared.state.Sa.{Sa}
use Rattle.xf_types.specs.declared.call.Call.{Call}
use Rattle.xf_types.specs.declared.call.Call.TheVariants as call
use Rattle.xf_types.specs.declared.call.Receipt.{Receipt}
use Rattle.xf_types.specs.declared.call.Reply.{Reply}
use Rattle.xf_types.specs.declared.call.Reply.TheVariants as reply
use Rattle.xf_types.specs.Machine.{Shown}
use Rattle.xf_types.specs.StateList.{has_sid}
use Rattle.xf_types.specs.Moves.{after_move}

-- two flags are equal
abbrev pub same_flag : Bool → Bool → Bool
same_flag true b = b
same_flag false b = not b

-- the two lists have the same records: a number is given to one record alone, of which only the soft flag changes later
abbrev pub same_policies : List Policy → List Policy → Bool
same_policies [] [] = true
same_policies [] (q ∷ qs) = false
same_policies (p ∷ ps) [] = false
same_policies (p ∷ ps) (q ∷ qs) = (p.number == q.number) && same_flag p.soft q.soft && same_policies ps qs

-- the call set the thresholds
abbrev pub sets_thresholds : Reply → Bool
sets_thresholds reply.Done = true
sets_thresholds other = false

-- the move changes the policy list or the thresholds
abbrev pub changes_policies : Shown → Receipt → Bool
changes_policies s r =
    not (same_policies s.policies (after_move s r.call r.reply).policies) || sets_thresholds r.reply

-- the call updates the state with this state id
abbrev pub refreshes : Call → Reply → ℕ → Bool
refreshes (call.StateUpdate spec) (reply.DoneSid updated) sid = updated == sid
refreshes c other sid = false

-- the state is listed with the same flag of dying
abbrev pub is_listed_as : List Sa → Sa → Bool
is_listed_as states x = list_any (λ y. has_sid x.sid y && same_flag x.dying y.dying) states

-- the states that the move adds, removes or changes, as they were before it or, where they are new, as they are after it
abbrev pub states_changed : Shown → Receipt → List Sa
states_changed s r =
    let new = after_move s r.call r.reply in
    filter (λ x. not (is_listed_as new.states x) || refreshes r.call r.reply x.sid) s.states
    ++ filter (λ x. not (list_any (has_sid x.sid) s.states)) new.states

-- how many of the moves from this shown part on change it so
abbrev pub count_moves : (Shown → Receipt → Bool) → Shown → List Receipt → ℕ
count_moves changes s [] = 0
count_moves changes s (r ∷ rs) =
    (if changes s r then 1 else 0) + count_moves changes (after_move s r.call r.reply) rs

-- how many moves from this shown part on changed the policy list or the thresholds; from the empty machine, the policy id
abbrev pub policy_id : Shown → List Receipt → ℕ
policy_id start moves = count_moves changes_policies start moves

-- how many moves from this shown part on added, removed or changed a state in a bucket; from the empty machine, the bucket's
-- id. The bucket of a state rests on its destination and reqid, which no move changes
abbrev pub bucket_id : (Sa → ℕ) → ℕ → Shown → List Receipt → ℕ
bucket_id bucket_of bucket start moves =
    count_moves (λ s r. list_any (λ x. bucket_of x == bucket) (states_changed s r)) start moves

-- the ids at one moment: that of the policies, and that of each bucket in order
pub record ChangeIds : Type 0 where
  pub of_policies : ℕ
  pub of_buckets : List ℕ

-- the ids of the buckets from this one on, after a list of moves from this shown part
abbrev pub bucket_ids_after : (Sa → ℕ) → Shown → List Receipt → ℕ → List ℕ → List ℕ
bucket_ids_after bucket_of start moves bucket [] = []
bucket_ids_after bucket_of start moves bucket (id ∷ ids) =
    (id + bucket_id bucket_of bucket start moves) ∷ bucket_ids_after bucket_of start moves (bucket + 1) ids

-- the ids after a list of moves, from those at this shown part
abbrev pub ids_after : (Sa → ℕ) → Shown → ChangeIds → List Receipt → ChangeIds
ids_after bucket_of start ids moves =
    record {
      of_policies = ids.of_policies + policy_id start moves;
      of_buckets = bucket_ids_after bucket_of start moves 0 ids.of_buckets;
    }
