use Rattle.std.proofs.Common.{arith, ◌+◌, ◌*◌, ◌^◌, length}
use Rattle.xf_run.specs.Heard.{Sums}
use Rattle.xf_run.proofs.Generating.{counted_next}
use Rattle.xf_run.proofs.Rooms.{hears_more, hears_fewer, room_left}
use Rattle.xf_run.proofs.Tallying.{calls_at_most, line_up_to}
use Rattle.xf_run.proofs.generated.count_tasks.Goals as goal

pub make_line-requires-clause-room : goal.make_line-requires-clause-room
make_line-requires-clause-room c =
    room_left (Sums c.args.tally.now) (Sums c.tasks.tally) c.task-item.result.line (7 * c.tasks.task-index) 7 (7 * length c.args.tasks.now)
    c.tasks.invariant.few_heard
    (line_up_to c.args.tasks.now c.tasks.task-index (2 ^ 20) c.task-item.result (omega arith) c.task-item.is c.requires.lines, c.requires.room)
    (omega arith)

pub returns-clause-calls : goal.returns-clause-calls
returns-clause-calls c =
    calls_at_most c.args.tally.now c.tasks.tally (7 * length c.args.tasks.now)
    (hears_fewer (7 * c.tasks.task-index) (7 * length c.args.tasks.now) (Sums c.args.tally.now) (Sums c.tasks.tally) (omega arith)
    c.tasks.invariant.few_heard)
    c.requires.room

pub tasks-preserved : goal.tasks-preserved
tasks-preserved c = record {
  counted =
      counted_next c.args.tasks.now c.tasks.task-index c.task-item.result c.args.machine.now c.tasks.machine c.make_line.new.machine
      c.tasks.refused c.in_ok-refusal.refusal c.args.tally.now c.tasks.tally c.make_line.new.teller (omega arith) c.task-item.is
      c.tasks.invariant.counted c.in_ok-refusal.ensures.ok;
  few_heard =
      hears_fewer (7 * c.tasks.task-index + 7) (7 * (c.tasks.task-index + 1)) (Sums c.args.tally.now) (Sums c.make_line.new.teller) (omega arith)
      (hears_more (7 * c.tasks.task-index) 7 (Sums c.args.tally.now) (Sums c.tasks.tally) (Sums c.make_line.new.teller)
      c.tasks.invariant.few_heard c.in_ok-refusal.ensures.few_heard);
  grows = record {
    numbers = omega (arith, c.in_ok-refusal.ensures.grows.numbers, c.tasks.invariant.grows.numbers);
    sids = omega (arith, c.in_ok-refusal.ensures.grows.sids, c.tasks.invariant.grows.sids);
  };
}
