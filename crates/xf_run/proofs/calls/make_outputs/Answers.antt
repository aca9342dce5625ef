use Rattle.std.proofs.Common.{arith, refl, sym}
use Rattle.xf_types.specs.declared.network.Proto.TheVariants as proto
use Rattle.xf_types.specs.declared.network.Addr.TheVariants as address
use Rattle.xf_run.proofs.Making.{outputs_more, outputs_none}
use Rattle.xf_run.proofs.Rooms.{hears_none, hears_more, hears_fewer, room_left}
use Rattle.xf_run.proofs.calls.make_outputs.Goals as goal

pub hops-init : goal.hops-init
hops-init g c = record {
  so_far = outputs_none c.args.machine.now c.args.line c.args.len _;
  few_heard = hears_none _;
  part = refl;
  numbers = omega arith;
  sids = omega arith;
}

pub make_call-requires-clause-room : goal.make_call-requires-clause-room
make_call-requires-clause-room g c =
    room_left _ _ c.args.line c.hops.hop-index 1 6 c.hops.invariant.few_heard c.requires.room (omega (arith, c.requires.few))

pub returns-clause-few_heard : goal.returns-clause-few_heard
returns-clause-few_heard g c = hears_fewer c.hops.hop-index 6 _ _ (omega (arith, c.requires.few)) c.hops.invariant.few_heard

pub hops-preserved : goal.hops-preserved
hops-preserved g c = record {
  so_far =
      rw (sym c.in_ok-refusal.ensures.ok.refusal)
      (outputs_more c.args.hops.now c.hops.hop-index (record { sid = 0; proto = proto.Esp; spi = 0; dst = address.V4 0 }) c.args.machine.now c.hops.machine c.make_call.new.machine c.args.line c.hops.part
      c.args.len c.in_ok-refusal.ensures.ok.reply c.hops.refused _ _ _ (omega arith)
      c.hops.invariant.part c.hops.invariant.so_far c.in_ok-refusal.ensures.ok.made);
  few_heard = hears_more c.hops.hop-index 1 _ _ _ c.hops.invariant.few_heard c.in_ok-refusal.ensures.few_heard;
  part = omega arith;
  numbers = omega (arith, c.in_ok-refusal.ensures.grows.numbers);
  sids = omega (arith, c.in_ok-refusal.ensures.grows.sids);
}
