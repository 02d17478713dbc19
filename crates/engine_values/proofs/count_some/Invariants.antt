-- The loop keeps that the count so far is that of the pairs before x. Assumes nothing.
use Rattle.std.specs.Prelude.{◌≡◌, ◌≤◌}
use Rattle.rules.specs.Update.{trues}
use Rattle.rules.specs.Calls.{value_at}
use Rattle.engine_values.proofs.count_some.Given as goal

abbrev pub invariant-loop-x : goal.invariant-loop-x
invariant-loop-x l = (l.r ≤ l.x-index) × (l.r ≡ trues l.x-index (value_at l.values))
