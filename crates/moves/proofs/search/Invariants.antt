-- Each test leaves half of the places among which the one searched for lies, until none is left: `Narrowed` holds, and the places left get
-- fewer. Assumes nothing.
use Rattle.moves.specs.Searching.{Narrowed}
use Rattle.moves.proofs.search.Given as goal

abbrev pub invariant-loop-left : goal.invariant-loop-left
invariant-loop-left l = Narrowed l.key l.moves l.from l.found.at l.left l.found.tests

abbrev pub decreases-loop-left : goal.decreases-loop-left
decreases-loop-left l = l.left
