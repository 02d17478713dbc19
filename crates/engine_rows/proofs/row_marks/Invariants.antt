-- The loop keeps that the marks before s are those by which pairs wait, or as they were, and those from s on are as they
-- were. Assumes nothing.
use Rattle.engine_rows.specs.RowLoops.{mark_at}
use Rattle.engine_rows.specs.Filled.{Filled}
use Rattle.engine_rows.proofs.row_marks.Given as goal

abbrev pub invariant-loop-s : goal.invariant-loop-s
invariant-loop-s l = Filled l.s (mark_at l.bad l.settling l.initial.marks) l.initial.marks l.marks
