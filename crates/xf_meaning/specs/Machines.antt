-- The machine that words and the values beside them tell.
use Rattle.std.specs.Prelude.{ℕ, List, map, drop, replicate}
use Rattle.xf_types.specs.ChangeIds.{ChangeIds}
use Rattle.xf_types.specs.Machine.{Machine}
use Rattle.xf_types.specs.Standing.{Standing, Nothing, WholeMachine, OneState}
use Rattle.xf_local.specs.View.{LocalView, Dead, Live}
use Rattle.xf_rows.specs.Readings.{machine_in}
use Rattle.xf_meaning.specs.Places.{bucket_count, layout_of}

-- the value of a slot that stands so
abbrev pub value_of : Standing → LocalView
value_of Nothing = Dead
value_of (WholeMachine m ids) = Dead
value_of (OneState x time own) = Live (record { state = x; own = own; time = time })

-- the values of the states' slots, which come behind those of the policies
abbrev pub values_of : ℕ → List Standing → List LocalView
values_of p homes = map value_of (drop p homes)

-- the machine
abbrev pub machine : ℕ → ℕ → List ℕ → List Standing → Machine
machine p s image homes = machine_in (layout_of p s) image (values_of p homes)

-- the ids of a database that nothing changed
abbrev pub first_ids : ChangeIds
first_ids = record { of_policies = 0; of_buckets = replicate bucket_count 0 }
