use Rattle.std.proofs.Common.{ℕ, true, List, sym, subst, ◌+◌}
use Rattle.xf_types.specs.Steps.{empty}
use Rattle.xf_cells.specs.Words.{zeros}
use Rattle.xf_local.specs.View.{LocalView}
use Rattle.xf_rows.specs.Stands.{Stands}
use Rattle.xf_rows.proofs.Beginning.{stands_empty}
use Rattle.xf_parts.specs.Held.{all_held}
use Rattle.xf_parts.proofs.memory.Memory.new.Goals as goal

pub returns-clause-stands : goal.returns-clause-stands
returns-clause-stands c =
    let l = c.args.layout.now in
    subst (λ (i : List ℕ). Stands l i (all_held c.in_ok-values.values.items) (empty l.policies.slots l.states.slots)) (sym c.in_ok-cells.ensures.words)
    (subst (λ (vs : List LocalView). Stands l (zeros (l.clock + 1)) (all_held vs) (empty l.policies.slots l.states.slots)) (sym c.in_ok-values.ensures)
    (stands_empty l (l.clock + 1) (λ slot. true) c.requires))
