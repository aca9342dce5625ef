use Rattle.std.proofs.Common.{◌≡◌, ◌-◌, ◌<◌, ◌≤◌, ◌==◌, length}
use Rattle.std.specs.List.{list_any}
use Rattle.xf_types.specs.Counters.{first_free}
use Rattle.xf_types.specs.FlowRules.{last_seq}
use Rattle.xf_states.proofs.table.StateTable.free_seq.Given as goal

-- the search from here on finds what the search from the start finds
abbrev pub invariant-tries : goal.invariant-tries
invariant-tries l = record {
  low : 0 < l.seq;
  high : l.seq ≤ last_seq;
  same : first_free (λ seq. list_any (λ x. x.spec.seq == seq) l.self.states) last_seq l.seq (length l.self.states - l._tries)
      ≡ first_free (λ seq. list_any (λ x. x.spec.seq == seq) l.self.states) last_seq l.fn.from (length l.self.states);
}
