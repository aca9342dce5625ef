-- What a contract sees of an image: the two databases at rest, as words and a value for each slot.
use Rattle.std.specs.Prelude.{ℕ, ◌+◌, ◌<◌, ◌≤◌, ◌^◌, List, All, drop, map, slice_index}
use Rattle.xf_types.specs.ChangeIds.{ChangeIds}
use Rattle.xf_types.specs.Machine.{Machine}
use Rattle.xf_types.specs.IsMachine.{IsMachine}
use Rattle.xf_types.specs.Standing.{Standing}
use Rattle.xf_local.specs.View.{standing_of}
use Rattle.xf_values.specs.declared.state_value.StateValue.{StateValue}
use Rattle.xf_invariant.specs.Meaning.{told}
use Rattle.xf_meaning.specs.Places.{policy_id_place, bucket_ids_place}
use Rattle.xf_meaning.specs.Good.{Good}
use Rattle.xf_meaning.specs.Machines.{machine}
use Rattle.xf_meaning.specs.OpenLaws.{AreHome}

-- the machine that it stands for, and how often what lookups read was changed
pub record ImageView : Type 0 where
  pub machine : Machine
  pub ids : ChangeIds

-- it has given no greater number than this, to a policy, to a state or to a change
pub record IsWithin (most : ℕ) (i : ImageView) : Type 0 where
  pub numbers : i.machine.shown.next_number ≤ most
  pub sids : i.machine.shown.next_sid ≤ most
  pub of_policies : i.ids.of_policies ≤ most
  pub of_buckets : All (λ id. id ≤ most) i.ids.of_buckets

-- its numbers are small
abbrev pub IsYoung : ImageView → Type 0
IsYoung i = IsWithin (2 ^ 62) i

-- there are 1 to 4,096 slots of policies, and 1 to 8,192 of states
pub record AreSizes (policies states : ℕ) : Type 0 where
  pub some_policies : 1 ≤ policies
  pub most_policies : policies ≤ 4096
  pub some_states : 1 ≤ states
  pub most_states : states ≤ 8192

-- what the values stand for
abbrev pub homes_of : List StateValue → List Standing
homes_of values = map (λ (v : StateValue). standing_of v.local) values

-- the ids that words tell
abbrev pub ids_in : ℕ → ℕ → List ℕ → ChangeIds
ids_in p s words = record { of_policies = slice_index words (policy_id_place p s); of_buckets = drop (bucket_ids_place p s) words }

-- what words and values tell
abbrev pub image_in : ℕ → ℕ → List ℕ → List Standing → ImageView
image_in p s words homes = record { machine = machine p s words homes; ids = ids_in p s words }

-- the words and the values stand for it
pub record StandsFor (p s : ℕ) (words : List ℕ) (homes : List Standing) (i : ImageView) : Type 0 where
  pub machine : IsMachine i.machine
  pub good : Good p s words (told i.machine.shown i.ids)
  pub home : AreHome p s words i.machine homes

-- besides, no slot is retired: its status is 0 or 1
pub record IsAtRest (p s : ℕ) (words : List ℕ) (homes : List Standing) (i : ImageView) : Type 0 where
  pub sizes : AreSizes p s
  pub stands : StandsFor p s words homes i
  pub statuses : (slot : ℕ) → slot < p + s → slice_index words slot ≤ 1

-- the words at these places tell numbers, each less 1, and ids of changes that are small
abbrev pub AreYoung : List ℕ → ℕ → ℕ → ℕ → ℕ → Type 0
AreYoung words number sid id ids =
    (slice_index words number < 2 ^ 62) × (slice_index words sid < 2 ^ 62) × (slice_index words id ≤ 2 ^ 62) × All (λ word. word ≤ 2 ^ 62) (drop ids words)
