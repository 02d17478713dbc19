-- Each way out leaves what the call is said to leave there. Assumes nothing.
use Rattle.rules.specs.Rooms.{rooms_with}
use Rattle.boundary.specs.Ways.{batch-short, long-session, long-report, batch-comes}
use Rattle.boundary.proofs.huepaxochi_batch.Goals as goal

pub returns-then-session-report : goal.returns-then-session-report
returns-then-session-report c = let a = c.args in
    let l = rooms_with a.labels.now a.equations.now a.values.now a.marks.now a.moves.now a.index.now a.queue.now in
    batch-short a.session.now l a.report.now a.bytes.now c.if-session-report.true

pub keep_updated-requires : goal.keep_updated-requires
keep_updated-requires c = let a = c.args in
    let l = rooms_with a.labels.now a.equations.now a.values.now a.marks.now a.moves.now a.index.now a.queue.now in
    record {
      in_bounds = long-session a.session.now l a.report.now a.bytes.now c.if-session-report.false;
      in_bounds_2 = long-report a.session.now l a.report.now a.bytes.now c.if-session-report.false;
    }

pub returns : goal.returns
returns c = let a = c.args in
    let l = rooms_with a.labels.now a.equations.now a.values.now a.marks.now a.moves.now a.index.now a.queue.now in
    batch-comes a.session.now l a.report.now a.bytes.now c.if-session-report.false _ c.batch-found.result _ _ _ _ c.session_of-before.ensures c.batch-found.ensures c.keep_updated.ensures.0 c.keep_updated.ensures.1 c.keep_updated.ensures.2
