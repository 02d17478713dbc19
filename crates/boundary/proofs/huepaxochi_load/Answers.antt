-- Each way out leaves what the call is said to leave there. Assumes nothing.
use Rattle.rules.specs.Rooms.{rooms_with}
use Rattle.boundary.specs.Ways.{load-short, load-comes}
use Rattle.boundary.proofs.huepaxochi_load.Goals as goal

pub returns-then-session-lt-SESSION : goal.returns-then-session-lt-SESSION
returns-then-session-lt-SESSION c = let a = c.args in
    let l = rooms_with a.labels.now a.equations.now a.values.now a.marks.now a.moves.now a.index.now a.queue.now in
    load-short a.session.now l a.bytes.now c.if-session-lt-SESSION.true

pub returns : goal.returns
returns c = let a = c.args in
    let l = rooms_with a.labels.now a.equations.now a.values.now a.marks.now a.moves.now a.index.now a.queue.now in
    load-comes a.session.now l a.bytes.now c.load-found.result _ _ _ c.if-session-lt-SESSION.false c.load-found.ensures c.keep_loaded.ensures.0 c.keep_loaded.ensures.1
