-- Each way out is what the call is said to answer there. Assumes nothing.
use Rattle.boundary.specs.Ways.{ask-short, ask-comes}
use Rattle.boundary.proofs.huepaxochi_ask.Goals as goal

pub returns-then-session-lt-SESSION : goal.returns-then-session-lt-SESSION
returns-then-session-lt-SESSION c = let a = c.args in
    ask-short a.session.now a.values.now a.state a.variable c.if-session-lt-SESSION.true

pub returns : goal.returns
returns c = let a = c.args in
    ask-comes a.session.now a.values.now a.state a.variable _ c.ask-asked.result _ c.if-session-lt-SESSION.false c.session_of.ensures c.ask-asked.ensures c.tell_asked.ensures
