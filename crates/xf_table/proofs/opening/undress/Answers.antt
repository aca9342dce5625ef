use Rattle.std.proofs.Common.{◌≡◌, List, Option, None, Some, [], ◌∷◌, ◌++◌, map, reverse, ap, ◌∙◌, sym, append_assoc}
use Rattle.xf_table.proofs.Rows.{none_empty}
use Rattle.xf_table.proofs.opening.undress.Goals as goal

pub unreachable-requires : goal.unreachable-requires
unreachable-requires g c =
    let t = c.requires.values in
    let front = c.pop.new.self.items in
    let back = map Some (reverse c.loop-home.values.items) in
    let all : c.loop-home.homes.items ≡ front ++ None ∷ [] = c.in-Some.ensures.items ∙ ap (λ (o : Option g.row.T.Denot). front ++ o ∷ []) c.in_default-home.is in
    none_empty t.0 front back (sym t.1 ∙ (c.loop-home.invariant.homes ∙ (ap (λ (l : List (Option g.row.T.Denot)). l ++ back) all ∙ append_assoc front (None ∷ []) back)))
