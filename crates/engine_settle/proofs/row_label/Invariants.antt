-- The loop keeps that the places before s say whether the proposition decides and those from s on are as they were. Assumes nothing.
use Rattle.rules.specs.Values.{state, holds}
use Rattle.engine_rows.specs.Filled.{Filled}
use Rattle.engine_settle.specs.Told.{told}
use Rattle.engine_settle.proofs.row_label.Given as goal

abbrev pub invariant-loop-s : goal.invariant-loop-s
invariant-loop-s l = Filled l.s (λ p. told l.v (holds l.labels (state p) l.q)) l.initial.bad l.bad
