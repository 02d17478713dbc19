-- The loop keeps that what is left of the chain makes of the places as they are what the whole of it makes of them as they
-- were; the place k on the chain falls. Assumes nothing.
use Rattle.engine_index.specs.Walks.{key_by, Telling}
use Rattle.engine_index.proofs.chains.set_sources.Given as goal

abbrev pub invariant-loop-k : goal.invariant-loop-k
invariant-loop-k l = Telling (key_by l.chains.states) l.chains.moves.now l.at l.v l.initial.bad l.k l.bad

abbrev pub decreases-loop-k : goal.decreases-loop-k
decreases-loop-k l = l.k
