-- Each way out leaves what the call is said to leave there. Assumes nothing.
use Rattle.rules.specs.Rooms.{rooms_of}
use Rattle.boundary.specs.Ways.{write-short, write-comes}
use Rattle.boundary.proofs.huepaxochi_write.Goals as goal

pub returns-then-session-lt-SESSION : goal.returns-then-session-lt-SESSION
returns-then-session-lt-SESSION c = let a = c.args in
    let l = rooms_of a.labels.now a.equations.now a.values.now a.marks.now a.moves.now in
    write-short a.session.now l a.out.now c.if-session-lt-SESSION.true

pub returns : goal.returns
returns c = let a = c.args in
    let l = rooms_of a.labels.now a.equations.now a.values.now a.marks.now a.moves.now in
    write-comes a.session.now l a.out.now _ c.write-found.result _ _ c.if-session-lt-SESSION.false c.session_of-held.ensures c.write-found.ensures c.tell_written.ensures
