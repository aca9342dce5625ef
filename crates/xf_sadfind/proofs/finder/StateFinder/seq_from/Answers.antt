use Rattle.std.proofs.Common.{◌≡◌, ℕ, ◌+◌, ◌-◌, ◌*◌, true, false, ap, sym, ◌∙◌, arith, rules}
use Rattle.std.specs.List.{list_any}
use Rattle.xf_types.specs.Counters.{first_free}
use Rattle.xf_types.specs.FlowRules.{last_seq}
use Rattle.xf_index.specs.Indexes.{records_in}
use Rattle.xf_sadidx.specs.Queries.{has_seq}
use Rattle.xf_sadfind.proofs.Tries.{free_found, free_next, free_end, tries_cost}
use Rattle.xf_sadfind.proofs.finder.StateFinder.seq_from.Goals as goal

pub returns-then-not-is_seq_taken-clause-state : goal.returns-then-not-is_seq_taken-clause-state
returns-then-not-is_seq_taken-clause-state g c = λ image entries agrees st records.
    let free : c.is_seq_taken.result ≡ false = search rules in
    sym (free_found (λ seq. list_any (has_seq seq) (records_in entries)) last_seq c.numbers.seq (c.args.tries - c.numbers._tried)
    (sym (c.is_seq_taken.ensures.state image entries agrees st records) ∙ free))
    ∙ c.numbers.invariant.state image entries (c.is_seq_taken.ensures.among.among image agrees) st records

pub returns-then-not-is_seq_taken-clause-most : goal.returns-then-not-is_seq_taken-clause-most
returns-then-not-is_seq_taken-clause-most g c =
    let cost : ℕ = 4 + 50 * c.args.self.now.area.slots in
    let before = c.numbers.invariant.most in
    let now = c.is_seq_taken.ensures.most in
    tries_cost cost (c.numbers._tried + 1) c.args.tries (g.L.Load.loads c.args.l.now) (g.L.Load.loads c.is_seq_taken.new.l) (omega arith) (omega (arith, before, now))

pub numbers-preserved : goal.numbers-preserved
numbers-preserved g c = record {
  size = search rules;
  begun = search rules;
  rest = search rules;
  among = search rules;
  most = (let before = c.numbers.invariant.most in let now = c.is_seq_taken.ensures.most in omega (arith, before, now));
  some = search rules;
  state = λ image entries agrees st records.
      let taken : c.is_seq_taken.result ≡ true = search rules in
      ap (λ (n : ℕ). first_free (λ seq. list_any (has_seq seq) (records_in entries)) last_seq n (c.args.tries - (c.numbers._tried + 1))) c.next_seq-seq.ensures.is
      ∙ (free_next (λ seq. list_any (has_seq seq) (records_in entries)) last_seq c.numbers.seq c.numbers._tried c.args.tries (omega arith)
      (sym (c.is_seq_taken.ensures.state image entries agrees st records) ∙ taken)
      ∙ c.numbers.invariant.state image entries (c.is_seq_taken.ensures.among.among image agrees) st records);
}

pub returns-clause-state : goal.returns-clause-state
returns-clause-state g c = λ image entries agrees st records.
    sym (free_end (λ seq. list_any (has_seq seq) (records_in entries)) last_seq c.numbers.seq c.numbers._tried c.args.tries (omega arith))
    ∙ c.numbers.invariant.state image entries agrees st records

pub returns-clause-most : goal.returns-clause-most
returns-clause-most g c =
    let before = c.numbers.invariant.most in
    tries_cost (4 + 50 * c.args.self.now.area.slots) c.numbers._tried c.args.tries (g.L.Load.loads c.args.l.now) (g.L.Load.loads c.numbers.l) (omega arith) before
