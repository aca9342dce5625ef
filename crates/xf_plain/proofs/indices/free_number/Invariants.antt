use Rattle.std.proofs.Common.{◌≡◌, ◌+◌, ◌*◌, ◌-◌, ◌<◌, ◌≤◌, length}
use Rattle.std.specs.List.{list_any}
use Rattle.xf_types.specs.Counters.{first_free}
use Rattle.xf_types.specs.PolicyList.{has_index}
use Rattle.xf_types.specs.PolicyRules.{last_index}
use Rattle.xf_types.specs.Same.{dir_number}
use Rattle.xf_plain.proofs.indices.free_number.Given as goal

-- the search from here on finds what the search from the start finds
abbrev pub invariant-tries : goal.invariant-tries
invariant-tries l = record {
  low : 0 < l.k;
  high : l.k ≤ last_index;
  same : first_free (λ k. list_any (has_index (8 * k + dir_number l.dir)) l.policies) last_index l.k (length l.policies - l._tries)
      ≡ first_free (λ k. list_any (has_index (8 * k + dir_number l.dir)) l.policies) last_index l.fn.from (length l.policies);
}
