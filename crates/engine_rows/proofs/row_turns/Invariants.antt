-- The loop keeps that the places before s say which pairs must turn, those from s on are as they were, and whether there
-- were any. Assumes nothing.
use Rattle.std.specs.Prelude.{◌≡◌}
use Rattle.lists.specs.Lists.{bit, some_below}
use Rattle.engine_rows.specs.RowLoops.{turn_at}
use Rattle.engine_rows.specs.Filled.{Filled}
use Rattle.engine_rows.proofs.row_turns.Given as goal

abbrev pub invariant-loop-s : goal.invariant-loop-s
invariant-loop-s l =
    Filled l.s (λ p. bit (turn_at l.row l.from l.initial.bad p)) l.initial.bad l.bad × (l.any ≡ some_below l.s (turn_at l.row l.from l.initial.bad))
