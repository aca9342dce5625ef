-- A pass from its parts.
use Rattle.std.proofs.Common.{◌≡◌, Option, ap}
use Rattle.atomic_table.specs.Table.{Me}
use Rattle.xf_views.specs.declared.view.View.{View}
use Rattle.xf_live.specs.Passes.{PassView, me_of, IsKept}

-- the pass whose seat knows this, with these values
pub remade : {X : Type 0} (p q : PassView X) (m : Me (Option X) View) → IsKept p q → me_of q ≡ m → q ≡ record p { view = m.0; values = m.1 }
remade {X} p q m k e =
    let view = ap (λ (m : Me (Option X) View). m.0) e in
    let values = ap (λ (m : Me (Option X) View). m.1) e in
    λ i. record { table = k.table i; view = view i; room = k.room i; loads = k.loads i; values = values i }
