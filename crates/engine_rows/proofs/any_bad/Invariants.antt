-- The loop keeps whether a place so far is bad. Assumes nothing.
use Rattle.std.specs.Prelude.{◌≡◌}
use Rattle.lists.specs.Lists.{some_below}
use Rattle.engine_rows.specs.RowLoops.{bad_at}
use Rattle.engine_rows.proofs.any_bad.Given as goal

abbrev pub invariant-loop-place : goal.invariant-loop-place
invariant-loop-place l = l.any ≡ some_below l.place-index (bad_at l.part)
