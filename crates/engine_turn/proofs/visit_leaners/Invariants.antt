-- The chain of a variable, walked to its end. The loop keeps that the visits made and those of the operands from the word in
-- hand on are the visits of the whole chain; the link in the word falls. Assumes nothing.
use Rattle.engine_index.specs.Operands.{link_in}
use Rattle.engine_turn.specs.Scene.{scene_in, line_of}
use Rattle.engine_turn.specs.LeanerWalk.{AtWord}
use Rattle.engine_turn.proofs.visit_leaners.Given as goal

abbrev pub invariant-loop-operand : goal.invariant-loop-operand
invariant-loop-operand l = AtWord (scene_in l.view) l.view.settling l.to l.s.0 (line_of l.initial.marks l.initial.queue l.initial.r.tail l.initial.r.visits) l.o (line_of l.marks l.queue l.r.tail l.r.visits)

abbrev pub decreases-loop-operand : goal.decreases-loop-operand
decreases-loop-operand l = link_in l.o
