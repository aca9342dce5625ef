-- The calls that change policies alone: what they write.
use Rattle.xf_types.specs.declared.call.Reply.TheVariants as reply
use Rattle.std.specs.Prelude.{◌<◌, ◌⊎◌, Option, None, Some, ◌≡◌, ℕ, ◌+◌, ◌≤◌, true, false, List, length, slice_index}
use Rattle.xf_types.specs.declared.call.Call.{Call}
use Rattle.xf_types.specs.declared.call.Reply.{Reply}
use Rattle.xf_types.specs.History.{is_contended}
use Rattle.xf_types.specs.Machine.{Machine}
use Rattle.xf_types.specs.Moves.{is_moving}
use Rattle.xf_invariant.specs.Meaning.{Told}
use Rattle.xf_meaning.specs.Beside.{MarksStand}
use Rattle.xf_meaning.specs.Calls.{AnswersAll}
use Rattle.xf_meaning.specs.Good.{Good}
use Rattle.xf_meaning.specs.Places.{layout_of, states_of, policy_id_place, bucket_ids_place}
use Rattle.xf_rows.specs.Stands.{Stands}
use Rattle.xf_rows.specs.Values.{Beside}
use Rattle.xf_serve.specs.Served.{RepliesBy}

-- Whatever machine words and values stood for, the reply is its own, and the new words stand with these values for the one that the call leaves; the
-- statuses are right again. The states' words and the time are as they were. The id that counts the changes of the policies is one more, and those
-- of the states' buckets are the same.
pub record PolicyMove (p s : ℕ) (old new : List ℕ) (c : Call) (r : Reply) : Type 0 where
  pub size : length new ≡ length old
  pub answers : (b : Beside) → AnswersAll p s old b new b c r
  pub marks : (t : Told) (b : Beside) (m : Machine) → Good p s old t → t.shown ≡ m.shown → Stands (layout_of p s) old b m → MarksStand p s new
  pub states : (q : ℕ) → (states_of p s).base ≤ q → q ≤ (layout_of p s).clock → slice_index new q ≡ slice_index old q
  pub id : slice_index new (policy_id_place p s) ≡ slice_index old (policy_id_place p s) + 1
  pub buckets : (q : ℕ) → bucket_ids_place p s ≤ q → slice_index new q ≡ slice_index old q

-- a call that moves wrote so; one that doesn't wrote nothing, and its reply comes of no other thread
pub record PolicyAnswer (p s : ℕ) (old new : List ℕ) (c : Call) (r : Reply) : Type 0 where
  pub moved : is_moving r ≡ true → PolicyMove p s old new c r
  pub still : is_moving r ≡ false → (new ≡ old) × (is_contended r ≡ false) × RepliesBy p s old c r

-- there is a slot, and a word for it
abbrev pub IsPlaced : ℕ → Option ℕ → Type 0
IsPlaced size None = ⊥
IsPlaced size (Some slot) = slot < size

-- the reply, or want of memory in the place of one that comes of other threads
pub record IsCalmOf (given result : Reply) : Type 0 where
  pub still : is_moving result ≡ false
  pub settled : is_contended result ≡ false
  pub same : (result ≡ reply.NoMemory) ⊎ (result ≡ given)
