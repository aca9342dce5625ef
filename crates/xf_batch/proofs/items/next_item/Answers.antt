use Rattle.std.proofs.lemmas.Result.{err_from_is_err_and}
use Rattle.xf_read.specs.Items.{fields_read}
use Rattle.xf_batch.proofs.Taking.{IsAsked-taken, IsNoLine-read, Asks-bad, Asks-broken, Asks-long}
use Rattle.xf_batch.proofs.items.next_item.Goals as goal

pub returns-in_err-size-clause-item : goal.returns-in_err-size-clause-item
returns-in_err-size-clause-item g c =
    let p = err_from_is_err_and c.from_residual.result c.from_residual.ensures.1 in
    rw (p.1, p.2)
    (Asks-broken c.args.unread.now c.next_line.new.unread (g.S.Source.left c.args.src.now) (g.S.Source.left c.next_line.new.src) _ _
    (fields_read c.args.lines.now) c.in_err-size.field-0.0 c.in_err-size.ensures.breaks)

pub returns-in_err-head-in-Line-clause-item : goal.returns-in_err-head-in-Line-clause-item
returns-in_err-head-in-Line-clause-item g c =
    let p = err_from_is_err_and c.from_residual-in_err-head-in-Line.result c.from_residual-in_err-head-in-Line.ensures.1 in
    let found = c.in_ok-size.ensures in
    rw (p.1, p.2)
    (Asks-bad c.args.unread.now c.next_line.new.unread c.take_line.new.unread (g.S.Source.left c.args.src.now) (g.S.Source.left c.next_line.new.src) _ _
    c.in-Line.size (fields_read c.take_line.new.lines) c.in_err-head-in-Line.field-0.0 found.on (rw c.in-Line.is at found.next) c.in_err-head-in-Line.ensures.judged)

pub returns-in_ok-head-in-Line-clause-item : goal.returns-in_ok-head-in-Line-clause-item
returns-in_ok-head-in-Line-clause-item g c =
    let found = c.in_ok-size.ensures in
    let asked = c.in_ok-head-in-Line.ensures in
    IsAsked-taken c.args.unread.now c.next_line.new.unread c.take_line.new.unread (g.S.Source.left c.args.src.now) (g.S.Source.left c.next_line.new.src) _ _
    c.in-Line.size c.in_ok-head-in-Line.head (fields_read c.take_line.new.lines) found.on (rw c.in-Line.is at found.next) asked.taken asked.judged asked.under

pub returns-in-End-clause-item : goal.returns-in-End-clause-item
returns-in-End-clause-item g c =
    let found = c.in_ok-size.ensures in
    IsNoLine-read c.args.unread.now c.next_line.new.unread (g.S.Source.left c.args.src.now) (g.S.Source.left c.next_line.new.src) _ _
    (fields_read c.args.lines.now) found.on (rw c.in-End.is at found.next)

pub returns-in-Long-clause-item : goal.returns-in-Long-clause-item
returns-in-Long-clause-item g c =
    let found = c.in_ok-size.ensures in
    rw (c.bad.ensures)
    (Asks-long c.args.unread.now c.next_line.new.unread (g.S.Source.left c.args.src.now) (g.S.Source.left c.next_line.new.src) _ _
    (fields_read c.args.lines.now) found.on (rw c.in-Long.is at found.next))
