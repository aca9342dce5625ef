use Rattle.std.proofs.Common.{rules, sym, ◌∙◌, ◌≡◌, ◌+◌, ◌*◌, ◌-◌, true, length, suc, arith}
use Rattle.std.specs.List.{list_any}
use Rattle.xf_types.specs.PolicyList.{has_index}
use Rattle.xf_types.specs.PolicyRules.{last_index}
use Rattle.xf_types.specs.Same.{dir_number}
use Rattle.xf_states.proofs.Numbers.{first_free-taken}
use Rattle.xf_plain.proofs.indices.free_number.Goals as goal

pub tries-preserved : goal.tries-preserved
tries-preserved c =
    let policies = c.args.policies.now in let n = length policies in let i = c.tries._tries in
    let taken : list_any (has_index (8 * c.tries.k + dir_number c.args.dir)) policies ≡ true = search rules in
    let left : n - i ≡ suc (n - (i + 1)) = omega arith in
    record {
      low = c.next_number-k.ensures.low;
      high = c.next_number-k.ensures.high;
      same =
          rw c.next_number-k.ensures.value
          (sym (first_free-taken (λ k. list_any (has_index (8 * k + dir_number c.args.dir)) policies) last_index c.tries.k (n - i) (n - (i + 1)) left taken)
          ∙ c.tries.invariant.same);
    }
