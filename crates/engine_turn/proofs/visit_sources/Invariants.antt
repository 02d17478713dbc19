-- The chain of a head, walked to its end. The loop keeps that the visits made and those of the sources from the place k on
-- are the visits of the whole chain; the place k falls. Assumes nothing.
use lib.ListN.{length}
use Rattle.engine_index.specs.Indexed.{key_of}
use Rattle.engine_index.specs.Operands.{owner_in}
use Rattle.engine_turn.specs.Scene.{scene_in, sizes_in, line_of, source_of}
use Rattle.engine_turn.specs.ChainVisits.{OnChain}
use Rattle.engine_turn.proofs.visit_sources.Given as goal

abbrev pub invariant-loop-k : goal.invariant-loop-k
invariant-loop-k l = OnChain (scene_in l.view) l.view.settling (key_of (sizes_in l.view)) l.view.known.now.moves.now (length l.view.known.now.moves.now) l.head (source_of l.view.known.now.moves.now (owner_in l.o))
    (line_of l.initial.marks l.initial.queue l.initial.s.tail l.initial.s.visits) l.k (line_of l.marks l.queue l.s.tail l.s.visits)

abbrev pub decreases-loop-k : goal.decreases-loop-k
decreases-loop-k l = l.k
