-- The loop keeps that the places before s say what two rows decide and those from s on are as they were. Assumes nothing.
use Rattle.engine_rows.specs.Filled.{Filled}
use Rattle.engine_settle.specs.Told.{told, one_has}
use Rattle.engine_settle.proofs.row_join.Given as goal

abbrev pub invariant-loop-s : goal.invariant-loop-s
invariant-loop-s l = Filled l.s (λ p. told l.v (one_has l.f l.h l.c p)) l.initial.bad l.bad
