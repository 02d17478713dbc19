-- The loop keeps that the queue holds what it held, and then the pairs of the bad places before i. Assumes nothing.
use Rattle.std.specs.Prelude.{◌<◌, length}
use Rattle.engine_rows.specs.RowLoops.{bad_from, Queued}
use Rattle.engine_rows.proofs.queue_some.Given as goal

abbrev pub invariant-loop-i : goal.invariant-loop-i
invariant-loop-i l = (l.top < length l.initial.queue) × Queued l.y.0 (bad_from l.first.0 l.part) l.initial.queue l.tail l.first.0 l.i l.top l.queue
