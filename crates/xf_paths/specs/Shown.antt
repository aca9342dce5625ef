-- The answer of the code as that of the definitions.
use Rattle.xf_types.specs.Resolution as rule
use Rattle.xf_paths.specs.declared.resolved.Resolved.{Resolved}
use Rattle.xf_paths.specs.declared.resolved.Resolved.TheVariants.{Through, Waits, Wants}

-- what the code answers, as a resolution
abbrev pub shown : Resolved → rule.Resolution
shown (Through path) = rule.Through path
shown (Waits seq) = rule.Waits seq
shown (Wants template place src dst) = rule.Wants template place src dst
