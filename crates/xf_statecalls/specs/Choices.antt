-- Which states leave together.
use Rattle.std.specs.Prelude.{Bool}
use Rattle.xf_types.specs.declared.state.Sa.{Sa}
use Rattle.xf_types.specs.Same.{meets_one, same_proto}
use Rattle.xf_types.specs.StateList.{state_meets}
use Rattle.xf_statecalls.specs.declared.choice.Choice.{Choice}
use Rattle.xf_statecalls.specs.declared.choice.Choice.TheVariants.{Admitted, OfProto}

-- the state is one of them
abbrev pub chosen : Choice → Sa → Bool
chosen (Admitted filter) s = state_meets filter s
chosen (OfProto proto) s = meets_one same_proto proto s.spec.proto
