-- The loop over the batches meets its contract. It keeps that what the batches left will print completes what all of them
-- print; what is left of the bytes gets shorter. Assumes nothing.
use lib.ListN.{length}
use Rattle.program.specs.Running.{Running}
use Rattle.program.specs.Steps.{rooms_in}
use Rattle.program.proofs.print_batches.Given as goal

abbrev pub invariant-loop-rest : goal.invariant-loop-rest
invariant-loop-rest l = Running l.fn.bytes l.fn.first (rooms_in l.initial.rooms) l.initial.pen l.session (rooms_in l.rooms) l.rest l.pen

abbrev pub decreases-loop-rest : goal.decreases-loop-rest
decreases-loop-rest l = length l.rest
