use Rattle.std.proofs.Common.{rules, ◌≢◌, not, ap, sym, subst, ◌∙◌}
use Rattle.std.proofs.lemmas.Fn.{filter_same}
use Rattle.std.proofs.lemmas.List.Kept.{AllPairs-filter}
use Rattle.xf_types.specs.declared.state.Sa.{Sa}
use Rattle.xf_types.specs.StateList.{state_meets}
use Rattle.xf_held.specs.View.{HeldView}
use Rattle.xf_states.specs.Table.{table_of, table_without}
use Rattle.xf_states.proofs.Tables.{AreApart, table_of-left}
use Rattle.xf_states.proofs.table.StateTable.remove_admitted.Goals as goal

pub invariant_of-self : goal.invariant_of-self
invariant_of-self c =
    let left = filter_same _ (λ (h : HeldView). not (state_meets c.args.filter.now h.state)) _ (λ x b f' k. search rules) _ _ c.retain.ensures.filtered in
    subst AreApart (sym left) (AllPairs-filter (λ (x y : HeldView). x.state.sid ≢ y.state.sid) _ _ c.self.invariant)

pub returns : goal.returns
returns c =
    let left = filter_same _ (λ (h : HeldView). not (state_meets c.args.filter.now h.state)) _ (λ x b f' k. search rules) _ _ c.retain.ensures.filtered in
    ap table_of left ∙ table_of-left (λ (s : Sa). state_meets c.args.filter.now s) _ ∙ ap (table_without (λ (s : Sa). state_meets c.args.filter.now s)) c.self.view_is
