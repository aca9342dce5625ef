-- What is written, and the hops that come, are what stood there and all hops.
use Rattle.std.specs.Prelude.{◌≡◌, ◌++◌, drop}
use Rattle.std.specs.List.{flat_map}
use Rattle.xf_print.specs.Replies.{hop_text}
use Rattle.xf_print.proofs.reply.put_hops.Given as goal

abbrev pub invariant-loop-hop : goal.invariant-loop-hop
invariant-loop-hop l =
    l.out.items ++ flat_map hop_text (drop l.hop-index l.hops) ≡ l.initial.out.items ++ flat_map hop_text l.hops
