-- Where the words of an image lie, for so many slots of policies and of states. They are areas in a row:
--
--   policies + states    the statuses, a word for each slot, those of policies first: 0 where it is free, 1 where it is listed, and
--                        a greater number where it is retired
--   ..                   the words of the policies, with their trees
--   ..                   the words of the states
--   1                    the time, in seconds
--   1                    the id of the policies, which counts their changes
--   64                   the ids of the buckets of states, which count theirs
use Rattle.std.specs.Prelude.{ℕ, ◌+◌, ◌-◌}
use Rattle.xf_image.specs.declared.area.PolicyArea.{PolicyArea}
use Rattle.xf_inexact.specs.Whole.{whole_end}
use Rattle.xf_sadidx.specs.declared.area.StateArea.{StateArea}
use Rattle.xf_sadidx.specs.Layout.{end_of, record_place}
use Rattle.xf_rows.specs.declared.layout.Layout.{Layout}

-- how many buckets the states have
abbrev pub bucket_count : ℕ
bucket_count = 64

-- the words of the policies
abbrev pub policies_of : ℕ → ℕ → PolicyArea
policies_of p s = record { base = p + s; slots = p }

-- the words of the states
abbrev pub states_of : ℕ → ℕ → StateArea
states_of p s = record { base = whole_end (policies_of p s); slots = s }

-- the words behind the statuses
abbrev pub layout_of : ℕ → ℕ → Layout
layout_of p s = record { policies = policies_of p s; states = states_of p s; clock = end_of (states_of p s) }

-- where the id of the policies stands
abbrev pub policy_id_place : ℕ → ℕ → ℕ
policy_id_place p s = (layout_of p s).clock + 1

-- where those of the buckets begin
abbrev pub bucket_ids_place : ℕ → ℕ → ℕ
bucket_ids_place p s = (layout_of p s).clock + 2

-- how many words there are
abbrev pub size_of : ℕ → ℕ → ℕ
size_of p s = bucket_ids_place p s + bucket_count

-- where the id of the state stands that a slot of the table lists
abbrev pub id_place : ℕ → ℕ → ℕ → ℕ
id_place p s slot = record_place (states_of p s) (slot - p) + 16
