-- The reader keeps the bytes. From turn to turn the batch keeps its answer and its changes, and each turn is nearer to the end.
-- Assumes nothing.
use Rattle.std.proofs.Common.{◌≡◌}
use Rattle.batch_read.specs.Going.{Going, left}
use Rattle.batch_read.proofs.read_batch.Given as goal

abbrev pub invariant-loop-t : goal.invariant-loop-t
invariant-loop-t l = (l.r.bytes.now ≡ l.bytes) × Going l.z l.bytes l.fn.changes l.t l.changes

abbrev pub decreases-loop-t : goal.decreases-loop-t
decreases-loop-t l = left l.bytes l.t
