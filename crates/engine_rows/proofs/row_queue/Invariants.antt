-- The loop keeps that the queue holds what it held, and then the pairs of the bad places before `from`, and that the places from there on are
-- to come. Assumes nothing.
use Rattle.std.specs.Prelude.{◌≡◌, ◌≤◌, length, drop}
use Rattle.std.specs.Slice.Iter.{chunks_rest, chunks_size}
use Rattle.engine_rows.specs.RowLoops.{bad_at, Queued}
use Rattle.engine_rows.proofs.row_queue.Given as goal

abbrev pub invariant-loop-part : goal.invariant-loop-part
invariant-loop-part l =
    (goal.iterator-loop-part).can_next l.part-iterator ×
    (goal.iterator-loop-part).is_finite l.part-iterator ×
    (chunks_size l.part-iterator ≡ 32) ×
    (chunks_rest l.part-iterator ≡ drop l.from l.bad) ×
    (l.from ≤ length l.bad) ×
    Queued l.y.0 (bad_at l.bad) l.initial.queue l.tail 0 l.from l.top l.queue
