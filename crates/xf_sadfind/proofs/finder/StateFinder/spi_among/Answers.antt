use Rattle.std.proofs.Common.{◌≡◌, ◌+◌, ◌*◌, true, false, not, ap, sym, ◌∙◌, arith, rules}
use Rattle.xf_types.specs.StateRules.{is_spi_taken}
use Rattle.xf_index.specs.Indexes.{records_in}
use Rattle.xf_sadfind.proofs.Tries.{left_start, left_found, left_next, left_end, tries_cost}
use Rattle.xf_sadfind.proofs.finder.StateFinder.spi_among.Goals as goal

pub numbers-init : goal.numbers-init
numbers-init g c = record {
  size = search rules;
  begun = search rules;
  rest = search rules;
  among = search rules;
  most = omega arith;
  state = λ image entries agrees st records. left_start (λ spi. not (is_spi_taken c.args.spec.now (records_in entries) spi)) c.args.spec.now.min c.args.tries;
}

pub returns-then-not-is_spi_taken-clause-state : goal.returns-then-not-is_spi_taken-clause-state
returns-then-not-is_spi_taken-clause-state g c = λ image entries agrees st records.
    let free : c.is_spi_taken.result ≡ false = search rules in
    sym (left_found (λ spi. not (is_spi_taken c.args.spec.now (records_in entries) spi)) c.args.spec.now.min c.numbers.tried c.args.tries (search rules)
    (ap not (sym (c.is_spi_taken.ensures.state image entries agrees st records) ∙ free)))
    ∙ c.numbers.invariant.state image entries (c.is_spi_taken.ensures.among.among image agrees) st records

pub returns-then-not-is_spi_taken-clause-most : goal.returns-then-not-is_spi_taken-clause-most
returns-then-not-is_spi_taken-clause-most g c =
    let before = c.numbers.invariant.most in
    let now = c.is_spi_taken.ensures.most in
    tries_cost (4 + 50 * c.args.self.now.area.slots) (c.numbers.tried + 1) c.args.tries (g.L.Load.loads c.args.l.now) (g.L.Load.loads c.is_spi_taken.new.l)
    (omega arith) (omega (arith, before, now))

pub numbers-preserved : goal.numbers-preserved
numbers-preserved g c = record {
  size = search rules;
  begun = search rules;
  rest = search rules;
  among = search rules;
  most = (let before = c.numbers.invariant.most in let now = c.is_spi_taken.ensures.most in omega (arith, before, now));
  state = λ image entries agrees st records.
      let taken : c.is_spi_taken.result ≡ true = search rules in
      left_next (λ spi. not (is_spi_taken c.args.spec.now (records_in entries) spi)) c.args.spec.now.min c.numbers.tried c.args.tries (search rules)
      (ap not (sym (c.is_spi_taken.ensures.state image entries agrees st records) ∙ taken))
      ∙ c.numbers.invariant.state image entries (c.is_spi_taken.ensures.among.among image agrees) st records;
}

pub returns-clause-state : goal.returns-clause-state
returns-clause-state g c = λ image entries agrees st records.
    sym (left_end (λ spi. not (is_spi_taken c.args.spec.now (records_in entries) spi)) c.args.spec.now.min c.numbers.tried c.args.tries (omega arith))
    ∙ c.numbers.invariant.state image entries agrees st records

pub returns-clause-most : goal.returns-clause-most
returns-clause-most g c =
    let before = c.numbers.invariant.most in
    tries_cost (4 + 50 * c.args.self.now.area.slots) c.numbers.tried c.args.tries (g.L.Load.loads c.args.l.now) (g.L.Load.loads c.numbers.l) (omega arith) before
