-- What is written, and the lines that come, are what stood there and all lines.
use Rattle.std.specs.Prelude.{◌≡◌, ◌++◌, drop, map}
use Rattle.std.specs.List.{flat_map}
use Rattle.xf_print.specs.Records.{state_text}
use Rattle.xf_print.specs.Receipts.{line_text}
use Rattle.xf_print.proofs.receipt.put_states.Given as goal

abbrev pub invariant-loop-state : goal.invariant-loop-state
invariant-loop-state l =
    l.out.items ++ flat_map (line_text l.at) (map state_text (drop l.state-index l.states))
    ≡ l.initial.out.items ++ flat_map (line_text l.at) (map state_text l.states)
