-- The numbers are those behind the phases before.
use Rattle.std.proofs.Common.{◌≡◌, ◌+◌, ◌-◌, map, sum, ap, ◌∙◌, arith}
use Rattle.xf_types.specs.Counters.{upwards}
use Rattle.xf_batch.specs.Generated.{phase_size}
use Rattle.xf_batch.proofs.GeneratedSizes.{before-second, before-third, before-fourth}
use Rattle.xf_batch.proofs.generated.first_line.Goals as goal

pub returns-in-2-clause-line : goal.returns-in-2-clause-line
returns-in-2-clause-line c =
    λ seed. ap (λ p. 1 + sum (map (phase_size seed) (upwards 1 (p - 1)))) c.in-2.is ∙ ap (λ n. 1 + n) (before-second seed)

pub returns-in-3-clause-line : goal.returns-in-3-clause-line
returns-in-3-clause-line c =
    λ seed. ap (λ p. 1 + sum (map (phase_size seed) (upwards 1 (p - 1)))) c.in-3.is ∙ ap (λ n. 1 + n) (before-third seed)

pub returns-in_default-clause-line : goal.returns-in_default-clause-line
returns-in_default-clause-line c =
    let is : c.args.phase ≡ 4 = omega arith in
    λ seed. ap (λ p. 1 + sum (map (phase_size seed) (upwards 1 (p - 1)))) is ∙ ap (λ n. 1 + n) (before-fourth seed)
