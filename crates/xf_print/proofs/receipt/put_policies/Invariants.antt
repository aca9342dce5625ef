-- What is written, and the lines that come, are what stood there and all lines.
use Rattle.std.specs.Prelude.{◌≡◌, ◌++◌, drop, map}
use Rattle.std.specs.List.{flat_map}
use Rattle.xf_print.specs.Records.{policy_text}
use Rattle.xf_print.specs.Receipts.{line_text}
use Rattle.xf_print.proofs.receipt.put_policies.Given as goal

abbrev pub invariant-loop-policy : goal.invariant-loop-policy
invariant-loop-policy l =
    l.out.items ++ flat_map (line_text l.at) (map policy_text (drop l.policy-index l.policies))
    ≡ l.initial.out.items ++ flat_map (line_text l.at) (map policy_text l.policies)
