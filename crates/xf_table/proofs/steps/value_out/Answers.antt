use Rattle.std.proofs.Common.{ap, ◌∙◌, sym, Some, ◌∷◌, List, ℕ, Option}
use Rattle.atomic_table.specs.Table.{rest}
use Rattle.xf_table.proofs.steps.value_out.Goals as goal

pub exchange-requires : goal.exchange-requires
exchange-requires g c =
    let h = c.requires.home in
    (c.requires.table.table, (Some h.0, h.2 ∙ ap (λ (l : List (ℕ × Option g.row.T.Denot)). (c.args.slot, Some h.0) ∷ l) (sym (ap rest h.2))))
