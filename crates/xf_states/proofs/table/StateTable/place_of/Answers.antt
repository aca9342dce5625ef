use Rattle.std.proofs.Common.{arith, ◌≡◌, ◌-◌, suc, ap, sym, ◌∙◌, subst, drop}
use Rattle.std.specs.Prelude.{None}
use Rattle.xf_types.specs.StateList.{has_id, last_of}
use Rattle.xf_states.proofs.Founds.{place-found, place-past}
use Rattle.xf_states.proofs.table.StateTable.place_of.Goals as goal

pub returns-then-has_id-clause-state : goal.returns-then-has_id-clause-state
returns-then-has_id-clause-state c =
    let place : suc (c.search.place - 1) ≡ c.search.place = omega (arith, c.search-test.true) in
    place-found c.args.id.now c.self.inside.held.items c.args.self.now (c.search.place - 1) c.index.result.now c.self.view_is
    (omega (arith, c.search-test.true, c.search.invariant.within))
    (subst (λ p. last_of (has_id c.args.id.now) (drop p c.args.self.now.states) ≡ None) (sym place) c.search.invariant.none)
    c.index.ensures
    (ap (has_id c.args.id.now) (sym c.state.ensures) ∙ sym c.has_id.ensures ∙ c.if-has_id.true)

pub search-preserved : goal.search-preserved
search-preserved c =
    let place : suc (c.search.place - 1) ≡ c.search.place = omega (arith, c.search-test.true) in
    record {
      within = omega (arith, c.search.invariant.within);
      none =
          place-past c.args.id.now c.self.inside.held.items c.args.self.now (c.search.place - 1) c.index.result.now c.self.view_is
          (omega (arith, c.search-test.true, c.search.invariant.within))
          (subst (λ p. last_of (has_id c.args.id.now) (drop p c.args.self.now.states) ≡ None) (sym place) c.search.invariant.none)
          c.index.ensures
          (ap (has_id c.args.id.now) (sym c.state.ensures) ∙ sym c.has_id.ensures ∙ c.if-has_id.false);
    }
