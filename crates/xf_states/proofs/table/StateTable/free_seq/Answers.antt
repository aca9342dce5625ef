use Rattle.std.proofs.Common.{rules, sym, ◌∙◌, ◌≡◌, ◌==◌, ◌+◌, ◌-◌, true, length, suc, arith}
use Rattle.std.specs.List.{list_any}
use Rattle.xf_types.specs.declared.state.Sa.{Sa}
use Rattle.xf_types.specs.FlowRules.{last_seq}
use Rattle.xf_states.proofs.Numbers.{first_free-taken}
use Rattle.xf_states.proofs.table.StateTable.free_seq.Goals as goal

pub tries-preserved : goal.tries-preserved
tries-preserved c =
    let states = c.args.self.now.states in let n = length states in let i = c.tries._tries in
    let taken : list_any (λ (x : Sa). x.spec.seq == c.tries.seq) states ≡ true = search rules in
    let left : n - i ≡ suc (n - (i + 1)) = omega arith in
    record {
      low = c.next_seq-seq.ensures.low;
      high = c.next_seq-seq.ensures.high;
      same =
          rw c.next_seq-seq.ensures.value
          (sym (first_free-taken (λ seq. list_any (λ (x : Sa). x.spec.seq == seq) states) last_seq c.tries.seq (n - i) (n - (i + 1)) left taken)
          ∙ c.tries.invariant.same);
    }
