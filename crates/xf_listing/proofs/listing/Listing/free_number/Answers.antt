use Rattle.std.proofs.Common.{ℕ, ◌+◌, ◌*◌, ◌-◌, ap, sym, ◌∙◌, rules}
use Rattle.xf_types.specs.PolicyRules.{last_index}
use Rattle.xf_listing.specs.Walks.{is_taken_in, free_in}
use Rattle.xf_listing.proofs.Free.{free_found, free_next}
use Rattle.xf_listing.proofs.listing.Listing.free_number.Goals as goal

pub returns-then-not-is_taken-clause-answer : goal.returns-then-not-is_taken-clause-answer
returns-then-not-is_taken-clause-answer g c = λ image h.
    sym (free_found (λ k. is_taken_in c.args.self.now.area image (8 * k + c.args.remainder)) last_index c.numbers.number c.numbers.left (search rules)
    (sym (c.is_taken.ensures.answer image h) ∙ search rules))
    ∙ c.numbers.invariant.answer image (c.is_taken.ensures.among.among image h)

pub numbers-preserved : goal.numbers-preserved
numbers-preserved g c = record {
  size = search rules;
  begun = search rules;
  rest = search rules;
  among = search rules;
  some = search rules;
  most = search rules;
  answer = λ image h.
      ap (λ (n : ℕ). free_in c.args.self.now.area image c.args.remainder n (c.numbers.left - 1)) c.next_number-number.ensures.is
      ∙ (free_next (λ k. is_taken_in c.args.self.now.area image (8 * k + c.args.remainder)) last_index c.numbers.number c.numbers.left (search rules)
      (sym (c.is_taken.ensures.answer image h) ∙ search rules)
      ∙ c.numbers.invariant.answer image (c.is_taken.ensures.among.among image h));
}
