-- What is written, and the lines that come, are what stood there and all lines.
use Rattle.std.specs.Prelude.{◌≡◌, ◌++◌, drop, map}
use Rattle.std.specs.List.{flat_map}
use Rattle.xf_print.specs.Replies.{event_text}
use Rattle.xf_print.specs.Receipts.{line_text}
use Rattle.xf_print.proofs.receipt.put_events.Given as goal

abbrev pub invariant-loop-event : goal.invariant-loop-event
invariant-loop-event l =
    l.out.items ++ flat_map (line_text l.at) (map event_text (drop l.event-index l.events))
    ≡ l.initial.out.items ++ flat_map (line_text l.at) (map event_text l.events)
