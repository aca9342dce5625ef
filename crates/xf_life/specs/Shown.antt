-- The verdict of the code as that of the definitions.
use Rattle.xf_types.specs.Lifetime as life
use Rattle.xf_life.specs.declared.kind.Verdict.{Verdict}
use Rattle.xf_life.specs.declared.kind.Verdict.TheVariants.{Fine, Soft, Hard}

abbrev pub shown : Verdict → life.Verdict
shown Fine = life.Fine
shown Soft = life.Soft
shown Hard = life.Hard
